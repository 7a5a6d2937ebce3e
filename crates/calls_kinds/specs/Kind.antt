-- The numbers of the kinds of records. Assumes nothing.
use Rattle.std.specs.Prelude.{◌≡◌, ℕ, Result, MatchResult}
use Rattle.std.proofs.Math.Option.{none}
use Rattle.calls_format.specs.Records.{fields_of}
use Rattle.calls_kinds.specs.declared.Kind.{Kind}
use Rattle.calls_kinds.specs.declared.Kind.TheVariants.{NewMap, Record, Free, Written, Ask, Valid, Initialised, Next, Audit, RecordWritten, RecordLiteral, ValidRead, Remove}
use Rattle.calls_kinds.specs.declared.UnknownKind.{UnknownKind}

-- the number that stands for a kind
abbrev pub number_of : Kind → ℕ
number_of NewMap = 1
number_of Record = 2
number_of Free = 3
number_of Written = 4
number_of Ask = 5
number_of Valid = 6
number_of Initialised = 7
number_of Next = 8
number_of Audit = 9
number_of RecordWritten = 10
number_of RecordLiteral = 14
number_of ValidRead = 15
number_of Remove = 16

-- the kind of this number, or an error with a number that no record has
abbrev pub Decodes : ℕ → Result Kind UnknownKind → Type 0
Decodes n r = MatchResult r (λ kind. number_of kind ≡ n) (λ e. (e.0 ≡ n) × (fields_of n ≡ none))

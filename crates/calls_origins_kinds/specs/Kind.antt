-- The numbers of the kinds of records that are of pointers. Assumes nothing.
use Rattle.std.specs.Prelude.{◌≡◌, ℕ, false, Result, MatchResult}
use Rattle.calls_origins_format.specs.Records.{is_own}
use Rattle.calls_origins_kinds.specs.declared.PointerKind.{PointerKind}
use Rattle.calls_origins_kinds.specs.declared.PointerKind.TheVariants.{Point, Copy, Live}
use Rattle.calls_origins_kinds.specs.declared.OtherKind.{OtherKind}

-- the number that stands for a kind
abbrev pub number_of : PointerKind → ℕ
number_of Point = 11
number_of Copy = 12
number_of Live = 13

-- the kind of this number, or an error with a number that no record of a pointer has
abbrev pub Decodes : ℕ → Result PointerKind OtherKind → Type 0
Decodes n r = MatchResult r (λ kind. number_of kind ≡ n) (λ e. (e.0 ≡ n) × (is_own n ≡ false))

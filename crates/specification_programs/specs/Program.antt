-- A form's calls program, as the contracts of `turn` and `all` name it: record by record, by the definitions of this crate. Assumes nothing.
use Rattle.std.specs.Prelude.{List, ℕ}
use Rattle.std.proofs.Math.Option.{Option, none, some}
use Rattle.calls_format.specs.Program.{Program}
use Rattle.specification_programs.specs.Records.{Asks, Kind, field_in, first_kind}
use Rattle.specification_programs.specs.Lines.{line}
use Rattle.specification_programs.specs.Programs.{Form, State, no_map, served}

-- the kind of the first record, with what it asks for
abbrev pub request : {C : Type 0} → List ℕ → Option (Kind C) → Option (Kind C × Asks C)
request l none = none
request l (some k) = some (k, k.asks (field_in l))

abbrev pub program_of : Form → Program
program_of F =
    record {
      Request = Kind F.Calls × Asks F.Calls;
      State = State F;
      first = (no_map, F.first);
      decode = λ l. request l (first_kind F.kinds l);
      size = λ r. r.0.length;
      serve = λ r. served F r.1;
      line = λ r. line r.0.number r.0.answers;
    }

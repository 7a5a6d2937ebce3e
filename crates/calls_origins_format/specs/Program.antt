-- The calls program of the form with origins. Assumes nothing.
use Rattle.calls_format.specs.Lines.{line}
use Rattle.calls_format.specs.Program.{Program}
use Rattle.calls_origins_format.specs.Records as records
use Rattle.calls_origins_format.specs.Records.{kind_of, length_of}
use Rattle.calls_origins_format.specs.Running as running

abbrev pub origins_program : Program
origins_program =
    record {
      Request = records.Request;
      State = running.State;
      first = running.first_state;
      decode = records.decode;
      size = λ r. length_of (kind_of r);
      serve = running.serve;
      line = λ r. line (kind_of r);
    }

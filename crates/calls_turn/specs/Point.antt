-- Where a run of the plain calls program stands between turns. Assumes nothing.
use Rattle.std.specs.Prelude.{List, ℕ}
use Rattle.calls_format.specs.Kept.{kept}
use Rattle.calls_run.specs.declared.Run.{Run}
use Rattle.calls_file.specs.Turn.{Point}
use Rattle.specification_programs.specs.Programs.{plain_form}
use Rattle.specification_programs.specs.Program.{program_of}

-- the shadows are the first bytes of three buffers
abbrev pub point_of : Run → (heap primary secondary bytes lines : List ℕ) → Point (program_of plain_form)
point_of r h p s bytes lines = record { run = r; state = kept r.map h p s; bytes = bytes; lines = lines }

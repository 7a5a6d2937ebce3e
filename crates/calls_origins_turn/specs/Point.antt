-- Where a run of the calls program with origins stands between turns. Assumes nothing.
use Rattle.std.specs.Prelude.{List, ℕ}
use Rattle.calls_run.specs.declared.Run.{Run}
use Rattle.calls_file.specs.Turn.{Point}
use Rattle.calls_origins_format.specs.Kept.{kept}
use Rattle.specification_programs.specs.Programs.{origins_form}
use Rattle.specification_programs.specs.Program.{program_of}

-- shadows and cells are the first bytes of five buffers
abbrev pub point_of : Run → (counter : ℕ) → (heap primary secondary heap_cells stack_cells bytes lines : List ℕ) → Point (program_of origins_form)
point_of r k h p s x y bytes lines = record { run = r; state = kept r.map h p s x y k; bytes = bytes; lines = lines }

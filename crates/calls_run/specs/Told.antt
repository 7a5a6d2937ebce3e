-- The run after a record that was served. Assumes nothing.
use Rattle.std.specs.Prelude.{◌≡◌, List, ℕ}
use Rattle.map.specs.declared.Map.{Map}
use Rattle.monitor_base.specs.declared.Answer.{Answer}
use Rattle.monitor_base.specs.Answers.{answer_of}
use Rattle.calls_format.specs.Lines.{line}
use Rattle.calls_window.specs.declared.Window.{Window}
use Rattle.calls_window.specs.Window.{Passed}
use Rattle.calls_output.specs.Pending.{Added}
use Rattle.calls_run.specs.declared.Run.{Run}

-- the map that serving left, the window past the record, its line behind those that wait; and it goes on where the output is open
pub record Told (run : Run) (w : Window) (kind length : ℕ) (m : Map) (a : Answer) (r : Run) (lines lines' : List ℕ) : Type 0 where
  pub under : r.map ≡ m
  pub past : Passed w r.window length
  pub adds : Added run.pending r.pending (line kind (answer_of a)) 65536 lines lines'
  pub goes : r.on ≡ r.pending.open

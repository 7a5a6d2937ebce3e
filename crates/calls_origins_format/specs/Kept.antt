-- What this program keeps between records: a map, a counter and five buffers, whose first bytes are the shadows and the cells. Assumes nothing.
use Rattle.std.specs.Prelude.{List, ℕ, ◌*◌, take}
use Rattle.map.specs.declared.Map.{Map}
use Rattle.plain.specs.Call as plain
use Rattle.monitor_base.specs.Answers.{answer_of}
use Rattle.origins_base.specs.declared.Counted.{Counted}
use Rattle.origins_base.specs.Calls as form
use Rattle.calls_format.specs.Kept as shadows
use Rattle.calls_origins_format.specs.declared.Served.{Served}
use Rattle.calls_origins_format.specs.Running.{State}

-- the shadows and the cells: of each buffer as many bytes as the area has, or twice as many
abbrev pub parts : Map → (heap primary secondary heap_cells stack_cells : List ℕ) → (counter : ℕ) → form.State
parts m h p s x y k =
    record { shadows = shadows.parts m h p s; cells = (take (2 * m.heap_size) x, take (2 * m.stack_size) y); counter = k }

-- the state after a call, and its answer
abbrev pub left : Map → Counted → (heap primary secondary heap_cells stack_cells : List ℕ) → form.State × plain.Answer
left m r h p s x y = (parts m h p s x y r.counter, answer_of r.answer)

-- the state of a run
abbrev pub kept : Map → (heap primary secondary heap_cells stack_cells : List ℕ) → (counter : ℕ) → State
kept m h p s x y k = (m, parts m h p s x y k)

-- the state after a request, and its answer
abbrev pub served : Served → (heap primary secondary heap_cells stack_cells : List ℕ) → State × plain.Answer
served r h p s x y = (kept r.map h p s x y r.counter, answer_of r.answer)

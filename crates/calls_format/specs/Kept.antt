-- What the calls program keeps between records: a map and three buffers, whose first bytes are the shadows. Assumes nothing.
use Rattle.std.specs.Prelude.{List, ℕ, take}
use Rattle.map.specs.declared.Map.{Map}
use Rattle.plain.specs.Call as plain
use Rattle.shadows.specs.Shadows.{Shadows}
use Rattle.monitor_base.specs.declared.Answer.{Answer}
use Rattle.monitor_base.specs.Answers.{answer_of}
use Rattle.calls_format.specs.declared.Served.{Served}
use Rattle.calls_format.specs.Running.{State}

-- the shadows: of each buffer as many bytes as the area has
abbrev pub parts : Map → (heap primary secondary : List ℕ) → Shadows
parts m h p s = (take m.heap_size h, (take m.stack_size p, take m.stack_size s))

-- the shadows after a call, and its answer
abbrev pub left : Map → Answer → (heap primary secondary : List ℕ) → Shadows × plain.Answer
left m r h p s = (parts m h p s, answer_of r)

-- the state of a run
abbrev pub kept : Map → (heap primary secondary : List ℕ) → State
kept m h p s = (m, parts m h p s)

-- the state after a request, and its answer
abbrev pub served : Served → (heap primary secondary : List ℕ) → State × plain.Answer
served r h p s = (kept r.map h p s, answer_of r.answer)

-- What the code's answers and calls stand for. Assumes nothing.
use Rattle.std.specs.Prelude.{List, ℕ}
use Rattle.plain.specs.Call as plain
use Rattle.monitor_base.specs.declared.Answer.{Answer}
use Rattle.monitor_base.specs.Answers as base
use Rattle.monitor_base.specs.Answers.{answer_of}
use Rattle.origins_list.specs.Call as form
use Rattle.origins_list.specs.Call.{plain, point, copy, live}
use Rattle.origins_base.specs.declared.Counted.{Counted}
use Rattle.origins_base.specs.declared.OriginsCall.{OriginsCall}
use Rattle.origins_base.specs.declared.OriginsCall.TheVariants as case
use Rattle.origins_base.specs.declared.Pointer.{Pointer}
use Rattle.origins_base.specs.declared.Pointer.TheVariants.{Point, Copy, Live}
use Rattle.origins_base.specs.Calls.{State}

-- the lent memory and a counter, as one state
abbrev pub lent : (heap primary secondary heap_cells stack_cells : List ℕ) → (counter : ℕ) → State
lent h p s x y k = record { shadows = (h, (p, s)); cells = (x, y); counter = k }

-- the state after a call, and its answer
abbrev pub outcome : Counted → (heap primary secondary heap_cells stack_cells : List ℕ) → State × plain.Answer
outcome r h p s x y = (lent h p s x y r.counter, answer_of r.answer)

-- of a call that leaves the counter, whatever it is
abbrev pub outcome_at : (counter : ℕ) → Answer → (heap primary secondary heap_cells stack_cells : List ℕ) → State × plain.Answer
outcome_at k r h p s x y = (lent h p s x y k, answer_of r)

abbrev pub pointer_of : Pointer → form.Call
pointer_of (Point c a) = point c.0 a.0
pointer_of (Copy t f) = copy t.0 f.0
pointer_of (Live c a) = live c.0 a.0

abbrev pub call_of : OriginsCall → form.Call
call_of (case.Plain c) = plain (base.call_of c)
call_of (case.Pointer p) = pointer_of p

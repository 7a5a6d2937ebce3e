-- What lent arrays and a counter stand for in the form with origins. Assumes nothing.
use Rattle.std.specs.Prelude.{List, ℕ}
use Rattle.plain.specs.Call.{Answer}
use Rattle.origins_base.specs.Calls.{State}
use Rattle.origins_base.specs.Answers.{lent}
use Rattle.monitor_c_lent.specs.Lent.{answered}

-- the number that is returned, the answer fields, and the state after a call
abbrev pub left : ℕ → (fields heap primary secondary heap_cells stack_cells : List ℕ) → (counter : ℕ) → State × Answer
left r l h p s x y k = (lent h p s x y k, answered r l)

-- Demand 1 for the form with origins, over the generic `call`, of every call on every input, any map, any lengths, any bytes, any counter: a refusal has
-- zero fields, and alters no byte of shadows or cells and no counter. Which number a call gets is said by the rows of
-- crates/specification_origins/specs/Votes.antt. Proved in proofs/Demand1.antt. Assumes nothing.
use Rattle.std.specs.Prelude.{◌≡◌, ◌≢◌, ℕ}
use Rattle.map.specs.declared.Map.{Map}
use Rattle.plain.specs.Call.{answer, number}
use Rattle.origins_list.specs.Call.{Call}
use Rattle.origins_base.specs.Calls.{State, call}

-- the number of a call
abbrev pub number_of : Map → Call → State → ℕ
number_of m c x = number (call m c x).1

-- a refusal returns the number with all other fields zero, and alters no byte of the shadows, no byte of the cells, and not the counter
abbrev pub RefusedAltersNothing : Type 0
RefusedAltersNothing = (m : Map) (c : Call) (x : State) → number_of m c x ≢ 0 → call m c x ≡ (x, answer (number_of m c x) 0 0 0 0)

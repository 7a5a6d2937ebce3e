-- Demand 1, over the generic `call`, of every call on every input, any map, any lengths, any bytes: a refusal has zero fields and alters no byte. Which
-- number a call gets is said by the table of refusals (crates/specification/specs/Table.antt). Proved in proofs/Demand1.antt. Assumes nothing.
use Rattle.std.specs.Prelude.{◌≡◌, ◌≢◌, ℕ}
use Rattle.map.specs.FormMap.{FormMap}
use Rattle.plain.specs.Call.{Call, answer, number}
use Rattle.shadows.specs.Shadows.{Shadows}
use Rattle.monitor_base.specs.Calls.{call}

-- the number of a call
abbrev pub number_of : FormMap → Call → Shadows → ℕ
number_of m c s = number (call m c s).1

-- "A refusal returns the number with all other fields zero and alters no shadow byte"
abbrev pub RefusedAltersNothing : FormMap → Type 0
RefusedAltersNothing m = (c : Call) (s : Shadows) → number_of m c s ≢ 0 → call m c s ≡ (s, answer (number_of m c s) 0 0 0 0)

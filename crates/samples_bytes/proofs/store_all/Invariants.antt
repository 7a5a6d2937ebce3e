-- `samples_bytes::store_all` meets its contract. Assumes nothing.
use mathlib.Core.Path.{◌≡◌}
use Prim.Native.Nat.{◌-◌, ◌≤◌}
use Rattle.samples_bytes.specs.Given.{store_all}
use Rattle.samples_bytes.proofs.store_all.Given as goal

abbrev pub invariant-loop : goal.invariant-loop
invariant-loop l = (l.counter ≤ 4096) × (store_all 4096 l.line l.at l.initial.heap l.initial.primary l.initial.secondary ≡ store_all (4096 - l.counter) l.line l.place l.heap l.primary l.secondary)

abbrev pub decreases-loop : goal.decreases-loop
decreases-loop l = 4096 - l.counter

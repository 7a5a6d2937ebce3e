-- `samples_state::give` meets its contract. Assumes nothing.
use mathlib.Core.Path.{◌≡◌}
use Prim.Native.Nat.{◌-◌, ◌≤◌}
use Rattle.samples_state.specs.Figures.{Fit}
use Rattle.samples_state.specs.State.{five, state, first, give_all}
use Rattle.samples_state.proofs.give.Given as goal

abbrev pub invariant-loop : goal.invariant-loop
invariant-loop l =
    (l.counter ≤ 4096)
    × (give_all 4096 l.line l.at (state first (five l.initial.heap l.initial.primary l.initial.secondary l.initial.heap_cells l.initial.stack_cells))
    ≡ give_all (4096 - l.counter) l.line l.place (state l.figures (five l.heap l.primary l.secondary l.heap_cells l.stack_cells)))
    × Fit l.figures

abbrev pub decreases-loop : goal.decreases-loop
decreases-loop l =
    4096 - l.counter

-- `heap_audit_runs::player_ones` meets its contract. Assumes nothing.
use Rattle.std.proofs.Common.{◌≡◌, ◌+◌, ◌*◌, ◌/◌, ◌%◌, ◌^◌, ◌≤◌}
use Rattle.number.specs.Parts.{at}
use Rattle.heap_audit_laws.specs.Runs.{Owned}
use Rattle.heap_audit_runs.proofs.player_ones.Given as goal

abbrev pub invariant-loop-j : goal.invariant-loop-j
invariant-loop-j l =
    (l.number ≡ l.d + l.j * 8 + 1) × (l.written ≤ 64 * l.j)
    × (l.over % 2 ^ 32 ≡ 0 → l.over / 2 ^ 40 ≡ 0 → Owned 4 8 (at l.heap) l.t l.d l.j l.written)

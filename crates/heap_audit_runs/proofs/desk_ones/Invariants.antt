-- `heap_audit_runs::desk_ones` meets its contract. Assumes nothing.
use Rattle.std.proofs.Common.{◌≡◌, ◌+◌, ◌*◌, ◌/◌, ◌^◌, ◌≤◌}
use Rattle.number.specs.Parts.{at}
use Rattle.heap_audit_laws.specs.Runs.{Owned}
use Rattle.heap_audit_runs.proofs.desk_ones.Given as goal

abbrev pub invariant-loop-j : goal.invariant-loop-j
invariant-loop-j l =
    (l.number ≡ l.d + l.j * 16 + 1) × (l.written ≤ 64 * l.j) × (l.wrong ≡ 0 → l.bits / 2 ^ 16 ≡ 0 → Owned 8 16 (at l.heap) l.t l.d l.j l.written)

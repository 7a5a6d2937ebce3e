-- `samples_records::put_fields` meets its contract. Assumes nothing.
use mathlib.Core.Path.{◌≡◌}
use Prim.Native.Nat.{◌*◌}
use lib.ListN.{length}
use Rattle.samples_records.proofs.RecordLaws.{Putting}
use Rattle.samples_records.proofs.put_fields.Given as goal

abbrev pub invariant-loop-i : goal.invariant-loop-i
invariant-loop-i l = (length l.bytes ≡ length l.initial.bytes) × Putting l.line l.at l.initial.bytes l.bytes (4 * l.i) l.end

-- `samples_bytes::store` meets its contract. Assumes nothing.
use mathlib.Core.Path.{◌≡◌}
use lib.ListN.{length}
use Rattle.samples_bytes.proofs.GivenLaws.{bytes_from}
use Rattle.samples_bytes.proofs.store.Given as goal

abbrev pub invariant-loop-p : goal.invariant-loop-p
invariant-loop-p l =
    (length l.shadow ≡ length l.initial.shadow)
    × (bytes_from l.line l.at l.position l.initial.shadow ≡ bytes_from l.line l.place l.p l.shadow)

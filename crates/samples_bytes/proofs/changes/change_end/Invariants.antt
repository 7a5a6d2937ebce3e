-- `samples_bytes::changes::change_end` meets its contract. Assumes nothing.
use mathlib.Core.Path.{◌≡◌}
use Rattle.samples_bytes.specs.Changes.{change_end}
use Rattle.samples_bytes.proofs.ChangeLaws.{end_from}
use Rattle.samples_bytes.proofs.changes.change_end.Given as goal

abbrev pub invariant-loop-i : goal.invariant-loop-i
invariant-loop-i l = change_end l.old l.new ≡ end_from l.old l.new l.end l.i

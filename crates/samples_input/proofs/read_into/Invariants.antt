-- `samples_input::read_into` meets its contract. Assumes nothing.
use mathlib.Core.Path.{◌≡◌}
use lib.ListN.{length, take}
use Rattle.samples_input.specs.Input.{NoEnd}
use Rattle.samples_input.proofs.read_into.Given as goal

abbrev pub invariant-loop-n : goal.invariant-loop-n
invariant-loop-n l = (length l.buffer ≡ length l.initial.buffer) × NoEnd (take l.n l.buffer)

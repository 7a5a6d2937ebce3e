-- `heap_climb::four_free` meets its contract: an or is 0 exactly if each number is. Assumes nothing.
use native.Mathlib.Nat.{add-zero, zero-mul, one-mul}
use Rattle.number.proofs.BitLaws.{or-none}
use Rattle.heap_laws.specs.Climb.{free_run}
use Rattle.heap_climb.proofs.four_free.Goals as goal

pub returns : goal.returns
unfolding free_run
returns c =
    rw (or-none, or-none, or-none, c.number_at.ensures, c.number_at-2.ensures, c.number_at-3.ensures, c.number_at-4.ensures)
    (rw (c.segment-step.ensures, zero-mul, add-zero, one-mul))

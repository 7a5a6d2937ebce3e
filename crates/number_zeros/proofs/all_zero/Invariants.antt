-- What was seen so far is zero exactly if the bytes passed are.
use Rattle.std.proofs.Common.{◌≡◌, eqb}
use Rattle.number.specs.Parts.{at, zeros}
use Rattle.number_zeros.proofs.all_zero.Given as goal

abbrev pub invariant-loop-x : goal.invariant-loop-x
invariant-loop-x l = eqb l.seen 0 ≡ zeros (at l.s) 0 l.x-index

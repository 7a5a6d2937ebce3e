-- `number_bits::bits_set` meets its contract. Assumes nothing.
use mathlib.Core.Path.{ap, ◌∙◌}
use Prim.Native.Nat.{ℕ, ◌/◌, ◌^◌}
use lib.Bits.{bit_and}
use lib.Dec.{eqb}
use Rattle.number.proofs.BitLaws.{mask-run}
use Rattle.number_bits.proofs.bits_set.Goals as goal

pub returns : goal.returns
returns c =
    let a = c.before.before.args in
    let m = c.before.low_bits-low.result in
    ap (λ (b : ℕ). eqb (bit_and (b / 2 ^ a.j) m) m) c.from.ensures ∙ mask-run a.byte a.j a.n m c.before.low_bits-low.ensures

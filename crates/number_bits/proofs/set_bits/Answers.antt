-- `number_bits::set_bits` meets its contract: the shift loses nothing, and one or sets every bit of the run. Assumes nothing.
use mathlib.Core.Path.{ap, ◌∙◌}
use native.Mathlib.Omega.{arith}
use lib.Bits.{bit_or}
use Rattle.number.proofs.BitLaws.{run-shifted, run-lt, with-run}
use Rattle.number_bits.proofs.set_bits.Goals as goal

pub overflow_cast-byte : goal.overflow_cast-byte
overflow_cast-byte c =
    let m = c.low_bits.result in
    let a = c.args in
    record { fits = omega (arith, run-shifted a.j a.n m c.requires c.low_bits.ensures, run-lt a.j a.n m c.requires c.low_bits.ensures) }

pub returns : goal.returns
returns c =
    let b = c.args.byte.now in
    let m = c.low_bits.result in
    ap (bit_or b) (run-shifted c.args.j c.args.n m c.requires c.low_bits.ensures) ∙ with-run b c.args.j c.args.n m c.low_bits.ensures

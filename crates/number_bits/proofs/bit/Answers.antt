use Prim.Native.Nat.{◌/◌, ◌^◌}
use lib.Bits.{and_mask}
use Rattle.number.specs.Bits.{bit_of}
use Rattle.number_bits.proofs.bit.Goals as goal

pub returns : goal.returns
unfolding bit_of
returns c = and_mask (c.args.byte / 2 ^ c.args.j) 1

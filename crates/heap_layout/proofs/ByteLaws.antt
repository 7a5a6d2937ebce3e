-- Each byte of a heap image is below 256. Assumes nothing.
use mathlib.Core.Bool.{Bool}
use mathlib.Core.List.{List}
use Prim.Native.Nat.{ℕ, ◌+◌, ◌*◌, ◌-◌, ◌/◌, ◌%◌, ◌≤◌, ◌<◌}
use native.Mathlib.Omega.{arith}
use lib.Dec.{ltb}
use lib.ListN.{length, take, drop, length-take}
use lib.Pow.{pow_mono}
use Rattle.number.specs.Little.{byte_of}
use Rattle.number.specs.Bits.{of_bits}
use Rattle.number.proofs.TestLaws.{cond_both}
use Rattle.number.proofs.LittleLaws.{byte_of-lt}
use Rattle.number.proofs.BitLaws.{of_bits-lt}
use Rattle.plain.specs.Block.{Block}
use Rattle.heap_layout.specs.Image.{Cell, free, header, segment, cell_byte, segment_of, heap_byte}

abbrev IsByte : ℕ → Type 0
IsByte x = x < 256

-- eight bits make a byte
bits-lt : (ms : List Bool) → length ms ≤ 8 → of_bits ms < 256
bits-lt ms h = omega (arith, of_bits-lt ms, pow_mono {i = length ms} {j = 8} h)

cell-lt : (W : ℕ) (c : Cell) (r : ℕ) → cell_byte W c r < 256
unfolding cell_byte
cell-lt W free r = omega arith
cell-lt W (header L) r =
    cond_both IsByte (ltb r W) 0 _ (omega arith) (cond_both IsByte (ltb r (W + W)) (byte_of L (r - W)) 0 (byte_of-lt L (r - W)) (omega arith))
cell-lt W (segment d ms) r =
    cond_both IsByte (ltb r W) (byte_of (d + 1) r) _ (byte_of-lt (d + 1) r)
    (bits-lt (take 8 (drop (8 * (r - W)) ms)) (simp length-take (omega arith)))

pub heap-byte-lt : (W G : ℕ) (bs : List Block) (q : ℕ) → heap_byte W G bs q < 256
unfolding heap_byte
heap-byte-lt W G bs q = cell-lt W (segment_of G bs (q / G)) (q % G)

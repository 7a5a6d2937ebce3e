-- Each byte of a stack image is below 256. Assumes nothing.
use mathlib.Core.Path.{◌≡◌}
use mathlib.Core.Bool.{true, cond}
use mathlib.Core.List.{List, [], ◌∷◌}
use Prim.Native.Nat.{ℕ, ◌-◌, ◌<◌}
use native.Mathlib.Omega.{arith}
use lib.Dec.{leb, ltb}
use Rattle.number.specs.Little.{byte_of}
use Rattle.number.proofs.TestLaws.{Test, is_true, is_false, test, cond_both}
use Rattle.number.proofs.LittleLaws.{byte_of-lt}
use Rattle.plain.specs.Block.{Block, len, contains, is_written}
use Rattle.plain.specs.Layer.{layer}
use Rattle.plain.proofs.BlockLaws.{contains-true}
use Rattle.stack_layout.specs.Code.{piece_of, piece_byte, primary_of, secondary_of}
use Rattle.stack_layout.specs.Image.{primary_own, secondary_own, by_block, primary_byte, secondary_byte}
use Rattle.stack_layout.proofs.CodeLaws.{code_lt, low-lt}

abbrev IsByte : ℕ → Type 0
IsByte x = x < 256

-- what each block makes of a byte that it holds, the image makes of each byte
by-block-lt : (own : Block → ℕ → ℕ) (q : ℕ) → ((b : Block) → contains q b ≡ true → own b q < 256) → (bs : List Block) → by_block own bs q < 256
unfolding layer
by-block-lt own q h [] = omega arith
by-block-lt own q h (b ∷ bs) = go (test (contains q b)) (by-block-lt own q h bs)
  where
    go : Test (contains q b) → by_block own bs q < 256 → cond (contains q b) (own b q) (by_block own bs q) < 256
    go (is_true e) ih = rw e (h b e)
    go (is_false e) ih = rw e ih

primary-lt : (b : Block) (q : ℕ) → contains q b ≡ true → primary_own b q < 256
unfolding primary_own primary_of
primary-lt b q e =
    let h = contains-true q b e in
    omega (arith, code_lt (len b) (q - b.base) (omega arith), low-lt b.literal (is_written b q))

piece-lt : (L o j : ℕ) → piece_byte L o j < 256
unfolding piece_byte
piece-lt L o j =
    cond_both IsByte (ltb j 4) (byte_of L j) _ (byte_of-lt L j) (cond_both IsByte (ltb j 8) (byte_of o (j - 4)) 0 (byte_of-lt o (j - 4)) (omega arith))

secondary-lt : (b : Block) (q : ℕ) → secondary_own b q < 256
unfolding secondary_own secondary_of
secondary-lt b q =
    let i : ℕ = q - b.base in
    cond_both IsByte (leb (len b) 8) 0 _ (omega arith) (piece-lt (len b) (piece_of (len b) i) (i - piece_of (len b) i))

pub primary-byte-lt : (bs : List Block) (q : ℕ) → primary_byte bs q < 256
primary-byte-lt bs q = by-block-lt primary_own q (λ b e. primary-lt b q e) bs

pub secondary-byte-lt : (bs : List Block) (q : ℕ) → secondary_byte bs q < 256
secondary-byte-lt bs q = by-block-lt secondary_own q (λ b e. secondary-lt b q) bs

-- Cells: what a block makes of its segments, and the numbers and bits of a segment that shows a cell. Assumes nothing.
use mathlib.Core.Path.{◌≡◌, refl, sym, ◌∙◌}
use mathlib.Core.Bool.{Bool, false}
use mathlib.Core.List.{List}
use Prim.Native.Nat.{ℕ, zero, suc, ◌+◌, ◌*◌, ◌-◌, ◌/◌, ◌%◌, ◌^◌, ◌≤◌, ◌<◌}
use native.Mathlib.Omega.{arith}
use native.Mathlib.Nat.{add-zero, zero-add, add_assoc, add-sub_cancel_left, one-le-pow}
use lib.ListN.{get_or, take, drop}
use lib.Seq.{get_or-take, get_or-drop}
use lib.Arith.{digits_div, digits_mod}
use borrow.Author.Tests.{lt-ltb, le-ltb, eq-eqb, ne_eqb}
use Rattle.number.specs.Little.{byte_of, word}
use Rattle.number.specs.Bits.{bit}
use Rattle.number.proofs.LittleLaws.{word_of, byte_of-zero}
use Rattle.number.proofs.BitLaws.{bit-of}
use Rattle.plain.specs.Block.{Block, len}
use Rattle.heap_layout.specs.Image.{Cell, free, header, segment, cell_byte, own, segment_of, heap_byte}
use Rattle.heap_layout.specs.Reading.{written_bit}
use Rattle.heap_layout.proofs.SegmentLaws.{Sizes, Stands, base-div}

-- ---- what a block makes of its segments

-- a segment of a block's place: its header, or segment j of the block
pub data Part (k n s : ℕ) : Type 0 where
  at-header : s ≡ k → Part k n s
  at-segment : (j : ℕ) → s ≡ suc k + j → j < n → Part k n s

pub part : (k n s : ℕ) → k ≤ s → s < k + suc n → Part k n s
part k n s x y = go (s - k) (omega arith) (omega arith)
  where
    go : (i : ℕ) → s ≡ k + i → i < suc n → Part k n s
    go zero e h = at-header (e ∙ add-zero k)
    go (suc j) e h = at-segment j (omega arith) (omega arith)

module _ {G : ℕ} (g : 0 < G) (size : ℕ) (b : Block) (t : Stands G size b.base (len b)) where
  pub own-header : own G b t.head ≡ header (len b)
  unfolding own
  own-header = rw (base-div g size b t, eq-eqb (suc t.head) (suc t.head) refl)

  pub own-segment : (j : ℕ) → own G b (suc t.head + j) ≡ segment (j * G) (take G (drop (j * G) b.marks))
  unfolding own
  own-segment j =
      rw (base-div g size b t, ne_eqb (suc (suc t.head + j)) (suc t.head) (λ q. omega arith), add-sub_cancel_left (suc t.head) j)

-- ---- a segment that shows a cell

-- segment s of the bytes f is what the layout gives for the cell
abbrev pub Shows : (W G : ℕ) → (ℕ → ℕ) → ℕ → Cell → Type 0
Shows W G f s c = (r : ℕ) → r < G → f (s * G + r) ≡ cell_byte W c r

pub image-shows : (W G : ℕ) (bs : List Block) (s : ℕ) → Shows W G (heap_byte W G bs) s (segment_of G bs s)
unfolding heap_byte
image-shows W G bs s r h = rw (digits_div s h, digits_mod s h)

module _ {W G size : ℕ} (z : Sizes W G size) (f : ℕ → ℕ) (s : ℕ) where
  number_of : (c : Cell) (o n : ℕ) → Shows W G f s c → o ≤ W → n < 256 ^ W → ((i : ℕ) → i < W → cell_byte W c (o + i) ≡ byte_of n i)
      → word f (s * G + o) W ≡ n
  number_of c o n h k b e = word_of f W (s * G + o) n (λ i l. rw (add_assoc (s * G) o i) (h (o + i) (omega arith)) ∙ e i l) b

  zero_of : (c : Cell) (o : ℕ) → Shows W G f s c → o ≤ W → ((i : ℕ) → i < W → cell_byte W c (o + i) ≡ 0) → word f (s * G + o) W ≡ 0
  zero_of c o h k e = number_of c o 0 h k (one-le-pow W 256 (omega arith)) (λ i l. e i l ∙ sym (byte_of-zero i))

  pub free-number : Shows W G f s free → word f (s * G) W ≡ 0
  unfolding cell_byte
  free-number h = rw add-zero at (zero_of free 0 h (omega arith) (λ i l. refl))

  pub free-length : Shows W G f s free → word f (s * G + W) W ≡ 0
  unfolding cell_byte
  free-length h = zero_of free W h (omega arith) (λ i l. refl)

  -- a header's first number is 0, its second the length
  pub header-number : (L : ℕ) → Shows W G f s (header L) → word f (s * G) W ≡ 0
  unfolding cell_byte
  header-number L h = rw add-zero at (zero_of (header L) 0 h (omega arith) (λ i l. rw (zero-add i, lt-ltb i W l)))

  pub header-length : (L : ℕ) → L ≤ size → Shows W G f s (header L) → word f (s * G + W) W ≡ L
  unfolding cell_byte
  header-length L b h =
      number_of (header L) W L h (omega arith) (omega arith)
      (λ i l. rw (le-ltb (W + i) W (omega arith), lt-ltb (W + i) (W + W) (omega arith), add-sub_cancel_left W i))

  pub segment-number : (d : ℕ) (ms : List Bool) → d < size → Shows W G f s (segment d ms) → word f (s * G) W ≡ d + 1
  unfolding cell_byte
  segment-number d ms b h = rw add-zero at (number_of (segment d ms) 0 (d + 1) h (omega arith) (omega arith) (λ i l. rw (zero-add i, lt-ltb i W l)))

  -- the written bit of place r
  pub segment-bit : (d : ℕ) (ms : List Bool) (r : ℕ) → r < G → Shows W G f s (segment d ms) → written_bit W G f (s * G + r) ≡ bit (get_or ms r false)
  unfolding cell_byte
  segment-bit d ms r k h =
      let e : 8 * (r / 8) + r % 8 ≡ r = omega arith in
      rw (
        digits_div s k,
        digits_mod s k,
        h (W + r / 8) (omega arith),
        le-ltb (W + r / 8) W (omega arith),
        add-sub_cancel_left W (r / 8),
        bit-of,
        get_or-take 8 (drop (8 * (r / 8)) ms) (r % 8) false (omega arith),
        get_or-drop,
        e,
      )

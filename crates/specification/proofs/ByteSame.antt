-- The bytes that a block gives are those that it has in the layouts' images, in the heap under either form. Assumes nothing.
use mathlib.Core.Path.{◌≡◌, refl, sym, ◌∙◌}
use mathlib.Core.Bool.{Bool, true, cond, ◌&&◌}
use mathlib.Core.List.{List, [], ◌∷◌}
use Prim.Native.Nat.{ℕ, zero, suc, ◌+◌, ◌*◌, ◌-◌, ◌/◌, ◌%◌, ◌≤◌, ◌<◌}
use native.Mathlib.Omega.{arith}
use lib.ListN.{take, drop, length-take, drop_of_length-le}
use lib.Seq.{take-nil, take-take, drop-drop}
use lib.Dec.{leb, ltb, eqb}
use borrow.Author.Tests.{lt-ltb, le-ltb, le-leb, eq-eqb, ne_eqb, ltb-true, ltb-false, leb-true, eqb-true, eqb-false}
use Rattle.number.specs.Bits.{of_bits}
use Rattle.number.proofs.TestLaws.{Test, is_true, is_false, test, same_test, and-true, in-facts, in-true}
use Rattle.map.specs.declared.Map.{Map}
use Rattle.map.specs.declared.Form as kind
use Rattle.map.specs.declared.Form.TheVariants.{Player, Desk}
use Rattle.map.specs.FormMap.{under, number_size, segment_size}
use Rattle.map.specs.Map.{good_map}
use Rattle.map.proofs.MapLaws.{good-true}
use Rattle.plain.specs.Areas as areas
use Rattle.plain.specs.Areas.{map_rules}
use Rattle.plain.specs.Block.{Block, len, contains}
use Rattle.plain.specs.Layer.{layer}
use Rattle.plain.specs.Lift.{down}
use Rattle.heap_layout.specs.Image as image
use Rattle.stack_layout.specs.Code as code
use Rattle.stack_layout.specs.Image as stack
use Rattle.specification.specs.Map.{heap_end, in_heap}
use Rattle.specification.specs.Heap as heap
use Rattle.specification.specs.Desk as desk
use Rattle.specification.specs.Stack.{short_code, piece_of, code_of, piece_byte, primary_byte, secondary_byte}
use Rattle.specification.proofs.Forms.{byte_by}

-- ---- a byte of a header, of a segment

-- of the last n of k + n marks
drop-take : (k n : ℕ) (l : List Bool) → drop k (take (k + n) l) ≡ take n (drop k l)
drop-take zero n l = let e : 0 + n ≡ n = omega arith in rw e
drop-take (suc k) n [] = let e : suc k + n ≡ suc (k + n) = omega arith in rw e (sym (take-nil n))
drop-take (suc k) n (x ∷ l) = let e : suc k + n ≡ suc (k + n) = omega arith in rw e (drop-take k n l)

-- past the marks of a segment
none_left : (n k : ℕ) (l : List Bool) → n ≤ k → 0 ≡ of_bits (take 8 (drop k (take n l)))
unfolding of_bits
none_left n k l h = rw (drop_of_length-le (take n l) {i = k} (omega (arith, length-take n l)))

player-segment : (d : ℕ) (ms : List Bool) (i : ℕ) → heap.segment_byte d ms i ≡ image.cell_byte 4 (image.segment d (take 8 (drop d ms))) i
unfolding image.cell_byte
player-segment d ms i = go (test (ltb i 4)) (test (eqb i 4))
  where
    go : Test (ltb i 4) → Test (eqb i 4) → heap.segment_byte d ms i ≡ image.cell_byte 4 (image.segment d (take 8 (drop d ms))) i
    go (is_true e) f = rw e
    go (is_false e) (is_true f) =
        let x : 8 * (i - 4) ≡ 0 = omega (arith, eqb-true i 4 f) in
        rw (e, f, x, take-take 8 8 (drop d ms) (omega arith))
    go (is_false e) (is_false f) =
        let l : 8 ≤ 8 * (i - 4) = omega (arith, ltb-false i 4 e, eqb-false i 4 f) in
        rw (e, f) (none_left 8 (8 * (i - 4)) (drop d ms) l)

desk-segment : (d : ℕ) (ms : List Bool) (i : ℕ) → desk.segment_byte d ms i ≡ image.cell_byte 8 (image.segment d (take 16 (drop d ms))) i
unfolding image.cell_byte
desk-segment d ms i = go (test (ltb i 8)) (test (eqb i 8)) (test (eqb i 9))
  where
    go : Test (ltb i 8) → Test (eqb i 8) → Test (eqb i 9) → desk.segment_byte d ms i ≡ image.cell_byte 8 (image.segment d (take 16 (drop d ms))) i
    go (is_true e) f k = rw e
    go (is_false e) (is_true f) k =
        let x : 8 * (i - 8) ≡ 0 = omega (arith, eqb-true i 8 f) in
        rw (e, f, x, take-take 8 16 (drop d ms) (omega arith))
    go (is_false e) (is_false f) (is_true k) =
        let x : 8 * (i - 8) ≡ 8 = omega (arith, eqb-true i 9 k) in
        rw (e, f, k, x, drop-take 8 8 (drop d ms), drop-drop 8 d ms, take-take 8 8 (drop (d + 8) ms) (omega arith))
    go (is_false e) (is_false f) (is_false k) =
        let l : 16 ≤ 8 * (i - 8) = omega (arith, ltb-false i 8 e, eqb-false i 8 f, eqb-false i 9 k) in
        rw (e, f, k) (none_left 16 (8 * (i - 8)) (drop d ms) l)

-- either form's
abbrev header_by : kind.Form → (L i : ℕ) → ℕ
header_by Player = heap.header_byte
header_by Desk = desk.header_byte

abbrev segment_by : kind.Form → (d : ℕ) (marks : List Bool) (i : ℕ) → ℕ
segment_by Player = heap.segment_byte
segment_by Desk = desk.segment_byte

header-same : (f : kind.Form) (L i : ℕ) → i < segment_size f → header_by f L i ≡ image.cell_byte (number_size f) (image.header L) i
unfolding image.cell_byte
header-same Player L i l = rw (lt-ltb i 8 l)
header-same Desk L i l = rw (lt-ltb i 16 l)

segment-same : (f : kind.Form) (d : ℕ) (ms : List Bool) (i : ℕ) → segment_by f d ms i ≡ image.cell_byte (number_size f) (image.segment d (take (segment_size f) (drop d ms))) i
segment-same Player = player-segment
segment-same Desk = desk-segment

byte-parts : (f : kind.Form) (b : Block) (a : ℕ) → byte_by f b a
    ≡ cond (ltb a b.base) (header_by f (len b) (a + segment_size f - b.base)) (segment_by f ((a - b.base) / segment_size f * segment_size f) b.marks ((a - b.base) % segment_size f))
unfolding heap.heap_byte desk.desk_byte
byte-parts Player b a = refl
byte-parts Desk b a = refl

-- ---- whole segments

whole-less : (f : kind.Form) (S b : ℕ) → S % segment_size f ≡ 0 → b % segment_size f ≡ 0 → S ≤ b → (b - S) % segment_size f ≡ 0
whole-less Player S b e g l = omega arith
whole-less Desk S b e g l = omega arith

-- a heap block that fits and is aligned begins at a whole segment, with a segment before it
pub stands : (f : kind.Form) (m : Map) → good_map (under f m) ≡ true → (b l : ℕ) → in_heap m b ≡ true → (map_rules (under f m)).fits b l ≡ true → (map_rules (under f m)).aligned b ≡ true
    → (m.heap_start ≤ b) × ((b - m.heap_start) % segment_size f ≡ 0) × (segment_size f ≤ b - m.heap_start)
stands f m g b l h k a =
    let (S, G) : ℕ × ℕ = (m.heap_start, segment_size f) in
    let (x, _) = and-true (leb (S + G) b && leb (b + l) (heap_end m)) true (rw h at k) in
    let y = leb-true (S + G) b (and-true (leb (S + G) b) (leb (b + l) (heap_end m)) x).0 in
    (omega arith, whole-less f S b (good-true (under f m) g).heap_start_whole (eqb-true (b % G) 0 (rw h at a)) (omega arith), omega arith)

-- position q is one of the place of n segments from B on, header before, exactly if its segment is
in-segments : (f : kind.Form) (B q n : ℕ) → B % segment_size f ≡ 0 → segment_size f ≤ B → B - segment_size f ≤ q → q < B + n * segment_size f
    → (B / segment_size f ≤ suc (q / segment_size f)) × (q / segment_size f < B / segment_size f + n)
in-segments Player B q n w r l u = (omega arith, omega arith)
in-segments Desk B q n w r l u = (omega arith, omega arith)

of-segments : (f : kind.Form) (B q n : ℕ) → B % segment_size f ≡ 0 → B / segment_size f ≤ suc (q / segment_size f) → q / segment_size f < B / segment_size f + n
    → (B - segment_size f ≤ q) × (q < B + n * segment_size f)
of-segments Player B q n w l u = (omega arith, omega arith)
of-segments Desk B q n w l u = (omega arith, omega arith)

-- in the header
before : (f : kind.Form) (B q : ℕ) → B % segment_size f ≡ 0 → B - segment_size f ≤ q → q < B
    → (suc (q / segment_size f) ≡ B / segment_size f) × (q + segment_size f - B ≡ q % segment_size f) × (q % segment_size f < segment_size f)
before Player B q w l u = (omega arith, omega arith, omega arith)
before Desk B q w l u = (omega arith, omega arith, omega arith)

-- in a segment
after : (f : kind.Form) (B q : ℕ) → B % segment_size f ≡ 0 → B ≤ q
    → (suc (q / segment_size f) ≡ B / segment_size f → ⊥) × ((q - B) / segment_size f * segment_size f ≡ (q / segment_size f - B / segment_size f) * segment_size f) × ((q - B) % segment_size f ≡ q % segment_size f)
after Player B q w l = (λ k. omega arith, omega arith, omega arith)
after Desk B q w l = (λ k. omega arith, omega arith, omega arith)

-- ---- a block of the heap, by addresses and by positions from S on; q a position

module _ (f : kind.Form) (S : ℕ) (b : Block) (q : ℕ) (start : S ≤ b.base) (whole : (b.base - S) % segment_size f ≡ 0) (room : segment_size f ≤ b.base - S) where
  abbrev G : ℕ
  G = segment_size f

  abbrev B : ℕ
  B = b.base - S

  -- its segments
  abbrev n : ℕ
  n = (len b + (G - 1)) / G

  -- q is one of its place
  abbrev has : Bool
  has = leb (b.base - G) (S + q) && ltb (S + q) (b.base + n * G)

  covers-same : has ≡ image.covers G (down S b) (q / G)
  unfolding image.covers areas.segments
  covers-same =
      same_test has (leb (B / G) (suc (q / G)) && ltb (q / G) (B / G + n))
      (λ e. let (x, y) = in-facts (b.base - G) (b.base + n * G) (S + q) e in
      let (l, u) = in-segments f B q n whole room (omega arith) (omega arith) in
      rw (le-leb (B / G) (suc (q / G)) l, lt-ltb (q / G) (B / G + n) u))
      (λ e. let (x, y) = and-true (leb (B / G) (suc (q / G))) (ltb (q / G) (B / G + n)) e in
      let (l, u) = of-segments f B q n whole (leb-true (B / G) (suc (q / G)) x) (ltb-true (q / G) (B / G + n) y) in
      in-true (b.base - G) (b.base + n * G) (S + q) (omega arith) (omega arith))

  byte-same : has ≡ true → byte_by f b (S + q) ≡ image.cell_byte (number_size f) (image.own G (down S b) (q / G)) (q % G)
  unfolding image.own
  byte-same h = rw (byte-parts f b (S + q)) (go (in-facts (b.base - G) (b.base + n * G) (S + q) h).0 (test (ltb q B)))
    where
      go : b.base - G ≤ S + q → Test (ltb q B)
          → cond (ltb (S + q) b.base) (header_by f (len b) (S + q + G - b.base)) (segment_by f ((S + q - b.base) / G * G) b.marks ((S + q - b.base) % G))
          ≡ image.cell_byte (number_size f) (image.own G (down S b) (q / G)) (q % G)
      go low (is_true e) =
          let l = ltb-true q B e in
          let (x, y, z) = before f B q whole (omega arith) l in
          let o : S + q + G - b.base ≡ q + G - B = omega arith in
          rw (eq-eqb (suc (q / G)) (B / G) x, lt-ltb (S + q) b.base (omega arith), o, y) (header-same f (len b) (q % G) z)
      go low (is_false e) =
          let l = ltb-false q B e in
          let (x, y, z) = after f B q whole l in
          let o : S + q - b.base ≡ q - B = omega arith in
          rw (ne_eqb (suc (q / G)) (B / G) x, le-ltb (S + q) b.base (omega arith), o, y, z) (segment-same f ((q / G - B / G) * G) b.marks (q % G))

  -- in front of others
  pub one-heap : (bs : List Block) → cond has (byte_by f b (S + q)) (image.heap_byte (number_size f) G bs q) ≡ image.heap_byte (number_size f) G (down S b ∷ bs) q
  unfolding image.heap_byte layer
  one-heap bs = go (test has)
    where
      go : Test has → cond has (byte_by f b (S + q)) (image.heap_byte (number_size f) G bs q) ≡ image.heap_byte (number_size f) G (down S b ∷ bs) q
      go (is_true e) = rw (e, sym covers-same ∙ e) (byte-same e)
      go (is_false e) = rw (e, sym covers-same ∙ e)

-- ---- a block of the stack, by addresses and by positions from S on; q a position

codes_same : (L i : ℕ) → code_of L i ≡ code.code_of L i
unfolding code_of short_code piece_of code.code_of code.short_code code.piece_of
codes_same L i = refl

pieces-same : (L i : ℕ) → piece_byte L (piece_of L i) (i - piece_of L i) ≡ code.piece_byte L (code.piece_of L i) (i - code.piece_of L i)
unfolding piece_of piece_byte code.piece_of code.piece_byte
pieces-same L i = refl

module _ (S : ℕ) (b : Block) (q : ℕ) (start : S ≤ b.base) where
  offset : S + q - b.base ≡ q - (b.base - S)
  offset = omega arith

  pub primary-same : primary_byte b (S + q) ≡ stack.primary_own (down S b) q
  unfolding primary_byte stack.primary_own code.primary_of code.low_bits
  primary-same = rw (offset, codes_same (len b) (q - (b.base - S)))

  pub secondary-same : secondary_byte b (S + q) ≡ stack.secondary_own (down S b) q
  unfolding secondary_byte stack.secondary_own code.secondary_of
  secondary-same = rw (offset, pieces-same (len b) (q - (b.base - S)))

  pub holds_same : contains (S + q) b ≡ contains q (down S b)
  holds_same =
      let B : ℕ = b.base - S in
      same_test (contains (S + q) b) (contains q (down S b))
      (λ e. let (x, y) = in-facts b.base (b.base + len b) (S + q) e in in-true B (B + len b) q (omega arith) (omega arith))
      (λ e. let (x, y) = in-facts B (B + len b) q e in in-true b.base (b.base + len b) (S + q) (omega arith) (omega arith))

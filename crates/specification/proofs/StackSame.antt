-- The reading of a stack address is the layout's reading of its position, told by addresses. Assumes nothing.
use mathlib.Core.Path.{◌≡◌, refl, ◌∙◌}
use mathlib.Core.Bool.{Bool, true, false, cond, not, ◌&&◌, ◌||◌}
use mathlib.Core.List.{List}
use Prim.Native.Nat.{ℕ, ◌+◌, ◌-◌, ◌/◌, ◌%◌, ◌≤◌}
use native.Mathlib.Omega.{arith}
use lib.Dec.{leb, ltb, eqb}
use borrow.Author.Tests.{lt-ltb, ltb-true, ltb-false, le-leb, leb-true, eq-eqb, ne_eqb, eqb-true, eqb-false, leb-false}
use Rattle.number.specs.Little.{word}
use Rattle.number.specs.Parts.{at}
use Rattle.number.proofs.TestLaws.{Test, is_true, is_false, test, same_test, eqb_same}
use Rattle.map.specs.declared.Map.{Map}
use Rattle.plain.specs.Lift.{reading_up}
use Rattle.plain.specs.Reading.{Reading, nothing, block, damaged}
use Rattle.stack_layout.specs.Code as code
use Rattle.stack_layout.specs.Reading.{fitted, bad_piece, long_reading, code_reading, stack_reading}
use Rattle.specification.specs.Stack.{last_piece, short_code, short_length, short_offset, found, read_long, read_stack}
use Rattle.specification.proofs.HeapSame.{sums, down, past-start}

-- ---- Table 1

short-same : (L i : ℕ) → short_code L i ≡ code.short_code L i
unfolding short_code code.short_code
short-same L i = refl

length-same : (c : ℕ) → 1 ≤ c → short_length c ≡ code.short_length c
unfolding short_length code.short_length code.length_from code.short_code
length-same c l = rw (le-leb 1 c l)

offset-same : (c : ℕ) → 1 ≤ c → short_offset c ≡ code.short_offset c
unfolding code.short_offset
offset-same c l = rw (short-same (short_length c) 0, length-same c l)

-- ---- a byte, and its two low bits

low-0 : (x : ℕ) → x % 4 % 2 ≡ x % 2
low-0 x = omega arith

low-1 : (x : ℕ) → x % 4 / 2 % 2 ≡ x / 2 % 2
low-1 x = omega arith

low-zero : (x : ℕ) → x / 4 ≡ 0 → eqb x 0 ≡ eqb (x % 4) 0
low-zero x e = eqb_same x 0 (x % 4) 0 (λ k. omega arith) (λ k. omega arith)

-- ---- positions and addresses

back : (S x : ℕ) → S + x - S ≡ x
back S x = omega arith

-- a difference on one side is a sum on the other
moved : (n p i l : ℕ) → i ≤ p → ltb n (p - i + l) ≡ ltb (n + i) (p + l)
moved n p i l le =
    same_test (ltb n (p - i + l)) (ltb (n + i) (p + l))
    (λ e. let x = ltb-true n (p - i + l) e in lt-ltb (n + i) (p + l) (omega arith))
    (λ e. let x = ltb-true (n + i) (p + l) e in lt-ltb n (p - i + l) (omega arith))

-- the last piece: at offset 8 × (⌊L / 8⌋ − 1), or the one with L < o + 16
last : (L o : ℕ) → o % 8 ≡ 0 → o + 8 ≤ L → not (eqb o (last_piece L)) ≡ leb (o + 16) L
last L o e l = go (test (leb (o + 16) L))
  where
    go : Test (leb (o + 16) L) → not (eqb o (last_piece L)) ≡ leb (o + 16) L
    go (is_true t) = let x = leb-true (o + 16) L t in rw (t, ne_eqb o (last_piece L) (λ z. omega arith))
    go (is_false t) = let x = leb-false (o + 16) L t in rw (t, eq-eqb o (last_piece L) (omega arith))

bad-same : (L o j : ℕ) → (ltb L 9 || not (eqb (o % 8) 0) || ltb L (o + 8) || (ltb 7 j && not (eqb o (last_piece L))) || leb L (o + j)) ≡ bad_piece L o j
unfolding bad_piece
bad-same L o j = go (test (ltb L 9)) (test (eqb (o % 8) 0)) (test (ltb L (o + 8)))
  where
    go : Test (ltb L 9) → Test (eqb (o % 8) 0) → Test (ltb L (o + 8))
        → (ltb L 9 || not (eqb (o % 8) 0) || ltb L (o + 8) || (ltb 7 j && not (eqb o (last_piece L))) || leb L (o + j)) ≡ bad_piece L o j
    go (is_true a) b c = rw a
    go (is_false a) (is_false b) c = rw (a, b)
    go (is_false a) (is_true b) (is_true c) = rw (a, b, c)
    go (is_false a) (is_true b) (is_false c) = rw (last L o (eqb-true (o % 8) 0 b) (ltb-false L (o + 8) c))

above : (c : ℕ) → leb 63 c ≡ ltb 62 c
above c = same_test (leb 63 c) (ltb 62 c) (λ e. let x = leb-true 63 c e in lt-ltb 62 c (omega arith)) (λ e. let x = ltb-true 62 c e in le-leb 63 c (omega arith))

module _ (m : Map) (p : ℕ) where
  abbrev S : ℕ
  S = m.stack_start

  abbrev size : ℕ
  size = m.stack_size

  up : (t : Bool) (x y : Reading) → reading_up S (cond t x y) ≡ cond t (reading_up S x) (reading_up S y)
  up true x y = refl
  up false x y = refl

  -- the n bytes from i places before position p on pass the area's end
  ends : (i n : ℕ) → i ≤ p → ltb (S + size) (S + (p - i) + n) ≡ ltb (size + i) (p + n)
  ends i n l = rw (sums S (p - i) n) (past-start S size (p - i + n) ∙ moved size p i n l)

  -- x: the primary byte, of which the layout has the two low bits
  found_at : (L i x : ℕ) → found m (S + p) L i (x % 2) (eqb (x / 2 % 2) 1) ≡ reading_up S (fitted size p L i (x % 4))
  unfolding found fitted
  found_at L i x = go (test (ltb p i))
    where
      go : Test (ltb p i) → found m (S + p) L i (x % 2) (eqb (x / 2 % 2) 1) ≡ reading_up S (fitted size p L i (x % 4))
      go (is_true e) = rw (past-start S p i, e)
      go (is_false e) =
          let l = ltb-false p i e in
          rw (past-start S p i, e, down S p i l, ends i L l, low-0 x, low-1 x, up (ltb (size + i) (p + L)) damaged (block (p - i) L i (x % 2) (eqb (x / 2 % 2) 1)))

  long-at : (se : List ℕ) (j x : ℕ) → read_long m se (S + p) j (x % 2) (eqb (x / 2 % 2) 1) ≡ reading_up S (long_reading size (at se) p j (x % 4))
  unfolding read_long long_reading
  long-at se j x = go (test (ltb p j))
    where
      go : Test (ltb p j) → read_long m se (S + p) j (x % 2) (eqb (x / 2 % 2) 1) ≡ reading_up S (long_reading size (at se) p j (x % 4))
      go (is_true e) = rw (past-start S p j, e)
      go (is_false e) =
          let l = ltb-false p j e in
          let L : ℕ = word (at se) (p - j) 4 in
          let o : ℕ = word (at se) (p - j + 4) 4 in
          rw (
            past-start S p j,
            e,
            down S p j l,
            back S (p - j),
            ends j 8 l,
            bad-same L o j,
            up (ltb (size + j) (p + 8)) damaged (cond (bad_piece L o j) damaged (fitted size p L (o + j) (x % 4))),
            up (bad_piece L o j) damaged (fitted size p L (o + j) (x % 4)),
            found_at L (o + j) x,
          )

  stack_at : (pr se : List ℕ) → read_stack m pr se (S + p) ≡ reading_up S (stack_reading size (at pr) (at se) p)
  unfolding read_stack stack_reading code_reading
  stack_at pr se = let x : ℕ = at pr p in rw (back S p) (go x (test (eqb (x / 4) 0)) (test (eqb x 0)) (test (leb (x / 4) 36)))
    where
      go : (x : ℕ) → Test (eqb (x / 4) 0) → Test (eqb x 0) → Test (leb (x / 4) 36)
          → cond (eqb (x / 4) 0) (cond (eqb x 0) nothing damaged)
          (cond (leb (x / 4) 36) (found m (S + p) (short_length (x / 4)) (short_offset (x / 4)) (x % 2) (eqb (x / 2 % 2) 1))
          (cond (ltb (x / 4) 48 || leb 63 (x / 4)) damaged (read_long m se (S + p) (x / 4 - 48) (x % 2) (eqb (x / 2 % 2) 1))))
          ≡ reading_up S (code_reading size (at se) p (x / 4) (x % 4))
      go x (is_true c) (is_true y) z = rw (c, ← low-zero x (eqb-true (x / 4) 0 c), y)
      go x (is_true c) (is_false y) z = rw (c, ← low-zero x (eqb-true (x / 4) 0 c), y)
      go x (is_false c) y (is_true z) =
          let l : 1 ≤ x / 4 = omega (arith, eqb-false (x / 4) 0 c) in
          rw (c, z, offset-same (x / 4) l, length-same (x / 4) l) (found_at (code.short_length (x / 4)) (code.short_offset (x / 4)) x)
      go x (is_false c) y (is_false z) =
          rw (c, z, above (x / 4), up (ltb (x / 4) 48 || ltb 62 (x / 4)) damaged (long_reading size (at se) p (x / 4 - 48) (x % 4)), long-at se (x / 4 - 48) x)

pub stack_same : (m : Map) (pr se : List ℕ) (a : ℕ) → m.stack_start ≤ a → read_stack m pr se a ≡ reading_up m.stack_start (stack_reading m.stack_size (at pr) (at se) (a - m.stack_start))
stack_same m pr se a l = let e : m.stack_start + (a - m.stack_start) ≡ a = omega arith in rw e at (stack_at m (a - m.stack_start) pr se)

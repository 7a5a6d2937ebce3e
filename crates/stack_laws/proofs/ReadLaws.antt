-- What the code of a reading relies on. Assumes nothing.
use mathlib.Core.Path.{◌≡◌}
use mathlib.Core.Bool.{true, false, cond, not, ◌&&◌, ◌||◌}
use Prim.Native.Nat.{ℕ, ◌+◌, ◌-◌, ◌%◌, ◌<◌, ◌≤◌}
use native.Mathlib.Omega.{arith, by_contra}
use lib.Dec.{leb, ltb, eqb}
use borrow.Author.Tests.{ltb-true, ltb-false, lt-ltb, le-ltb, leb-true, leb-false, le-leb, lt-leb, eqb-true, eqb-false, ne_eqb}
use Rattle.number.proofs.TestLaws.{Test, is_true, is_false, test, same_test, or-false}
use Rattle.number.specs.Little.{word}
use Rattle.plain.specs.Reading.{damaged}
use Rattle.stack_layout.specs.Code.{short_length, short_offset}
use Rattle.stack_layout.specs.Reading.{bad_piece, fitted, long_reading, code_reading}

-- a piece that is not bad has its byte j within the block
pub piece-within : (L o j : ℕ) → bad_piece L o j ≡ false → o + j < L
unfolding bad_piece
piece-within L o j e =
    leb-false L (o + j)
    (or-false (ltb L 9 || not (eqb (o % 8) 0) || ltb L (o + 8) || (ltb 7 j && leb (o + 16) L)) (leb L (o + j)) e).1

-- l is L - o and e is L - 8, each where it does not wrap
pub clauses : (L o j l e : ℕ) → L < 4294967296 → o < 4294967296 → l < 4294967296 → e < 4294967296
    → (l + o) % 4294967296 ≡ L → (e + 8) % 4294967296 ≡ L
    → (ltb L 9 || not (eqb (o % 8) 0) || ltb e o || (ltb 7 j && leb 16 l) || leb l j) ≡ bad_piece L o j
unfolding bad_piece
clauses L o j l e h_l ho hl he p q = go (test (ltb L 9)) (test (eqb (o % 8) 0)) (test (ltb L (o + 8)))
  where
    go : Test (ltb L 9) → Test (eqb (o % 8) 0) → Test (ltb L (o + 8))
        → (ltb L 9 || not (eqb (o % 8) 0) || ltb e o || (ltb 7 j && leb 16 l) || leb l j)
        ≡ (ltb L 9 || not (eqb (o % 8) 0) || ltb L (o + 8) || (ltb 7 j && leb (o + 16) L) || leb L (o + j))
    go (is_true s) y z = rw s
    go (is_false s) (is_false t) z = rw (s, t)
    go (is_false s) (is_true t) (is_true u) =
        let a = ltb-false L 9 s in
        let b = ltb-true L (o + 8) u in
        rw (s, t, u, lt-ltb e o (omega arith))
    go (is_false s) (is_true t) (is_false u) =
        let a = ltb-false L 9 s in
        let b = ltb-false L (o + 8) u in
        let d : l + o ≡ L = omega arith in
        let v : leb 16 l ≡ leb (o + 16) L =
        same_test (leb 16 l) (leb (o + 16) L)
        (λ x. le-leb (o + 16) L (let y = leb-true 16 l x in omega arith))
        (λ x. le-leb 16 l (let y = leb-true (o + 16) L x in omega arith)) in
        let w : leb l j ≡ leb L (o + j) =
        same_test (leb l j) (leb L (o + j))
        (λ x. le-leb L (o + j) (let y = leb-true l j x in omega arith))
        (λ x. le-leb l j (let y = leb-true L (o + j) x in omega arith)) in
        rw (s, t, u, le-ltb e o (omega arith), v, w)

-- ---- damage as a length that no area holds

pub no_length : (size p m : ℕ) → size ≤ 65536 → fitted size p 4294967295 0 m ≡ damaged
unfolding fitted
no_length size p m h = rw (le-ltb p 0 (omega arith), lt-ltb (size + 0) (p + 4294967295) (omega arith))

-- ---- a piece that begins at t, which is p - j where that does not wrap

module _ (size : ℕ) (se : ℕ → ℕ) (p j t m : ℕ) (h : p < size) (b : size ≤ 65536) (k : j < 15) (e : (t + j) % 4294967296 ≡ p) where
  pub piece-outside : t < 4294967296 → size < t + 8 → long_reading size se p j m ≡ damaged
  unfolding long_reading
  piece-outside u l = go (test (ltb p j))
    where
      go : Test (ltb p j) → long_reading size se p j m ≡ damaged
      go (is_true x) = rw x
      go (is_false x) = let y = ltb-false p j x in rw (x, lt-ltb (size + j) (p + 8) (omega arith))

  pub piece_inside : t + 8 ≤ size
      → long_reading size se p j m ≡ cond (bad_piece (word se t 4) (word se (t + 4) 4) j) damaged (fitted size p (word se t 4) (word se (t + 4) 4 + j) m)
  unfolding long_reading
  piece_inside l =
      let q : p - j ≡ t = omega arith in
      rw (le-ltb p j (omega arith), le-ltb (size + j) (p + 8) (omega arith), q)

-- ---- what a code stands for

module _ (size : ℕ) (se : ℕ → ℕ) (p c m : ℕ) where
  pub code-none : (eqb c 0 || ltb 36 c) ≡ true → c < 48 → (c ≡ 0 → m ≡ 0 → ⊥) → code_reading size se p c m ≡ damaged
  unfolding code_reading
  code-none e l f = go (test (eqb c 0))
    where
      go : Test (eqb c 0) → code_reading size se p c m ≡ damaged
      go (is_true x) = rw (x, ne_eqb m 0 (f (eqb-true c 0 x)))
      go (is_false x) =
          let y = ltb-true 36 c (rw x at e) in
          rw (x, lt-leb c 36 y, lt-ltb c 48 l)

  pub code-table : (eqb c 0 || ltb 36 c) ≡ false → (1 ≤ c) × (c < 37)
  code-table e =
      let a = or-false (eqb c 0) (ltb 36 c) e in
      let x = ltb-false 36 c a.1 in
      let y = eqb-false c 0 a.0 in
      (by_contra 1 c (λ z. y (omega (arith, z))), omega (arith, x))

  pub code-short : (eqb c 0 || ltb 36 c) ≡ false → code_reading size se p c m ≡ fitted size p (short_length c) (short_offset c) m
  unfolding code_reading
  code-short e = let a = or-false (eqb c 0) (ltb 36 c) e in let x = code-table e in rw (a.0, le-leb c 36 (omega arith))

  pub code-long : 48 ≤ c → c ≤ 62 → code_reading size se p c m ≡ long_reading size se p (c - 48) m
  unfolding code_reading
  code-long a b = rw (ne_eqb c 0 (λ e. omega arith), lt-leb c 36 (omega arith), le-ltb c 48 a, le-ltb 62 c b)

  pub code-above : 62 < c → code_reading size se p c m ≡ damaged
  unfolding code_reading
  code-above a = rw (ne_eqb c 0 (λ e. omega arith), lt-leb c 36 (omega arith), le-ltb c 48 (omega arith), lt-ltb 62 c a)

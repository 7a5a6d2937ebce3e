-- The reading: what a block's own bytes are read as, and what every block that is told keeps. Assumes nothing.
use mathlib.Core.Path.{◌≡◌, refl, sym}
use mathlib.Core.Bool.{Bool, true, false, cond, ◌&&◌, ◌||◌, not}
use Prim.Native.Nat.{ℕ, ◌+◌, ◌-◌, ◌/◌, ◌%◌, ◌^◌, ◌≤◌, ◌<◌}
use native.Mathlib.Omega.{arith}
use lib.Dec.{leb, ltb, eqb}
use borrow.Author.Tests.{le-ltb, le-leb, lt-leb, ne_eqb, ltb-true, ltb-false, leb-true, leb-false, eqb-false}
use Rattle.number.specs.Little.{word}
use Rattle.number.proofs.TestLaws.{Test, is_true, is_false, test, or-false}
use Rattle.plain.specs.Reading.{Reading, nothing, block, damaged}
use Rattle.stack_layout.specs.Code.{short_code, piece_of, code_of, primary_of, secondary_of, short_length, short_offset}
use Rattle.stack_layout.specs.Reading.{fitted, bad_piece, long_reading, code_reading, stack_reading}
use Rattle.stack_layout.proofs.TableLaws.{Encoded, encoded, decoded}
use Rattle.stack_layout.proofs.CodeLaws.{Piece, piece, secondary-words, Apart, primary-apart}

-- ---- a block's own bytes

fitted-is : (size p base L m : ℕ) → base ≤ p → base + L ≤ size → fitted size p L (p - base) m ≡ block base L (p - base) (m % 2) (eqb (m / 2 % 2) 1)
unfolding fitted
fitted-is size p base L m h f =
    let q : p - (p - base) ≡ base = omega arith in
    rw (le-ltb p (p - base) (omega arith), le-ltb (size + (p - base)) (p + L) (omega arith), q)

good-piece : (L i o : ℕ) → Piece L i o → 9 ≤ L → i < L → bad_piece L o (i - o) ≡ false
unfolding bad_piece
good-piece L i o P n h =
    let a : o ≤ i = P.le in
    let v : o + (i - o) ≡ i = omega arith in
    rw (le-ltb L 9 n, P.eights, le-ltb L (o + 8) P.whole, late, v, lt-leb L i h)
  where
    late : (ltb 7 (i - o) && leb (o + 16) L) ≡ false
    late = go (test (ltb 7 (i - o)))
      where
        go : Test (ltb 7 (i - o)) → (ltb 7 (i - o) && leb (o + 16) L) ≡ false
        go (is_true e) = rw e (lt-leb (o + 16) L (P.last (omega (arith, ltb-true 7 (i - o) e))))
        go (is_false e) = rw e

long-is : (size : ℕ) (se : ℕ → ℕ) (p base L o m : ℕ) → Piece L (p - base) o → 9 ≤ L → base ≤ p → p < base + L → base + L ≤ size
    → word se (base + o) 4 ≡ L → word se (base + o + 4) 4 ≡ o → long_reading size se p (p - base - o) m ≡ block base L (p - base) (m % 2) (eqb (m / 2 % 2) 1)
unfolding long_reading
long-is size se p base L o m P n x y f e_l eo =
    let a : o ≤ p - base = P.le in
    let b : o + 8 ≤ L = P.whole in
    let t : p - (p - base - o) ≡ base + o = omega arith in
    let v : o + (p - base - o) ≡ p - base = omega arith in
    rw (
      t,
      e_l,
      eo,
      le-ltb p (p - base - o) (omega arith),
      le-ltb (size + (p - base - o)) (p + 8) (omega arith),
      good-piece L (p - base) o P n (omega arith),
      v,
    )
    (fitted-is size p base L m x f)

-- a block whose bytes are its own is read as it is
pub read-own : (size : ℕ) → size < 256 ^ 4 → (pr se : ℕ → ℕ) (p base L m : ℕ) → base ≤ p → p < base + L → base + L ≤ size → m < 4
    → pr p ≡ primary_of L (p - base) m → ((q : ℕ) → base ≤ q → q < base + L → se q ≡ secondary_of L (q - base))
    → stack_reading size pr se p ≡ block base L (p - base) (m % 2) (eqb (m / 2 % 2) 1)
unfolding stack_reading code_reading code_of
read-own size small pr se p base L m x y f n ep es =
    let A : Apart (primary_of L i m) (code_of L i) m = primary-apart L i m n in
    rw (ep, A.code, A.low) (go (test (leb L 8)))
  where
    i : ℕ
    i = p - base

    h : i < L
    h = omega arith

    go : Test (leb L 8) → code_reading size se p (cond (leb L 8) (short_code L i) (48 + (i - piece_of L i))) m ≡ block base L i (m % 2) (eqb (m / 2 % 2) 1)
    go (is_true e) =
        let E : Encoded L i (short_code L i) = encoded L i (leb-true L 8 e) h in
        rw (e, ne_eqb (short_code L i) 0 (λ z. omega (arith, E.some)), le-leb (short_code L i) 36 E.most, E.length, E.offset)
        (fitted-is size p base L m x f)
    go (is_false e) =
        let k : 9 ≤ L = leb-false L 8 e in
        let o : ℕ = piece_of L i in
        let P : Piece L i o = piece L i k h in
        let near : i < o + 15 = P.near in
        let z : 48 + (i - o) - 48 ≡ i - o = omega arith in
        let ws = secondary-words L i se base k h (omega arith) es in
        rw (
          e,
          ne_eqb (48 + (i - o)) 0 (λ z. omega arith),
          lt-leb (48 + (i - o)) 36 (omega arith),
          le-ltb (48 + (i - o)) 48 (omega arith),
          le-ltb 62 (48 + (i - o)) (omega arith),
          z,
        )
        (long-is size se p base L o m P k x y f ws.0 ws.1)

-- a zero primary byte tells no block
pub read-zero : (size : ℕ) (pr se : ℕ → ℕ) (p : ℕ) → pr p ≡ 0 → stack_reading size pr se p ≡ nothing
unfolding stack_reading code_reading
read-zero size pr se p e = rw e

-- ---- what every block that is told keeps

-- n is the two low bits of the primary byte
pub record Told (size p b L o m : ℕ) (t : Bool) (n : ℕ) : Type 0 where
  pub some : 1 ≤ L
  pub fits : b + L ≤ size
  pub low : b ≤ p
  pub offset : o ≡ p - b
  pub inside : o < L
  pub bit : m < 2
  pub written : m ≡ n % 2
  pub mark : t ≡ eqb (n / 2 % 2) 1

module _ (size : ℕ) (se : ℕ → ℕ) (p b L o m : ℕ) (t : Bool) where
  -- where a block is told, no test for damage passed
  passed : (x : Bool) (r : Reading) → cond x damaged r ≡ block b L o m t → (x ≡ false) × (r ≡ block b L o m t)
  passed true r e = absurd (let z : ◌≡◌ {A = ℕ} 0 1 = cc in omega arith)
  passed false r e = (refl, e)

  fitted-told : (K i n : ℕ) → i < K → fitted size p K i n ≡ block b L o m t → Told size p b L o m t n
  unfolding fitted
  fitted-told K i n h e =
      let r : Reading = block (p - i) K i (n % 2) (eqb (n / 2 % 2) 1) in
      let x = passed (ltb p i || ltb (size + i) (p + K)) r e in
      let u = or-false (ltb p i) (ltb (size + i) (p + K)) x.0 in
      let f : r ≡ block b L o m t = x.1 in
      let eb : p - i ≡ b = cc in
      let e_l : K ≡ L = cc in
      let eo : i ≡ o = cc in
      let em : n % 2 ≡ m = cc in
      let v = ltb-false p i u.0 in
      let w = ltb-false (size + i) (p + K) u.1 in
      record {
        some = omega arith;
        fits = omega arith;
        low = omega arith;
        offset = omega arith;
        inside = omega arith;
        bit = omega arith;
        written = sym em;
        mark = cc;
      }

  long-told : (j n : ℕ) → long_reading size se p j n ≡ block b L o m t → Told size p b L o m t n
  unfolding long_reading bad_piece
  long-told j n e =
      let K : ℕ = word se (p - j) 4 in
      let q : ℕ = word se (p - j + 4) 4 in
      let x = passed (ltb p j || ltb (size + j) (p + 8)) (cond (bad_piece K q j) damaged (fitted size p K (q + j) n)) e in
      let u = passed (bad_piece K q j) (fitted size p K (q + j) n) x.1 in
      let v = or-false (ltb K 9 || not (eqb (q % 8) 0) || ltb K (q + 8) || (ltb 7 j && leb (q + 16) K)) (leb K (q + j)) u.0 in
      fitted-told K (q + j) n (leb-false K (q + j) v.1) u.1

  code-told : (c n : ℕ) → code_reading size se p c n ≡ block b L o m t → Told size p b L o m t n
  unfolding code_reading
  code-told c n e = go (test (eqb c 0)) (test (leb c 36)) (eqb n 0) e
    where
      far : Reading
      far = cond (ltb c 48 || ltb 62 c) damaged (long_reading size se p (c - 48) n)

      go : Test (eqb c 0) → Test (leb c 36) → (z : Bool)
          → cond (eqb c 0) (cond z nothing damaged) (cond (leb c 36) (fitted size p (short_length c) (short_offset c) n) far) ≡ block b L o m t
          → Told size p b L o m t n
      go (is_true y) u true e = absurd (let x : ◌≡◌ {A = ℕ} 0 1 = cc (rw y at e) in omega arith)
      go (is_true y) u false e = absurd (let x : ◌≡◌ {A = ℕ} 0 1 = cc (rw y at e) in omega arith)
      go (is_false y) (is_true u) z e =
          let d = eqb-false c 0 y in
          fitted-told (short_length c) (short_offset c) n (decoded c (omega arith) (leb-true c 36 u)).offset (rw (y, u) at e)
      go (is_false y) (is_false u) z e = long-told (c - 48) n (passed (ltb c 48 || ltb 62 c) (long_reading size se p (c - 48) n) (rw (y, u) at e)).1

-- for all bytes: a block that is told has a byte, fits the area, holds the position, and is written and a literal as the low bits say
pub reading-told : (size : ℕ) (pr se : ℕ → ℕ) (p b L o m : ℕ) (t : Bool) → stack_reading size pr se p ≡ block b L o m t → Told size p b L o m t (pr p % 4)
unfolding stack_reading
reading-told size pr se p b L o m t e = code-told size se p b L o m t (pr p / 4) (pr p % 4) e

-- What a reading of a position tells, for all bytes: when it finds nothing, when a block, and what holds of the block.
-- Assumes nothing.
use mathlib.Core.Path.{◌≡◌, refl}
use mathlib.Core.Bool.{Bool, true, false, cond, not}
use Prim.Native.Nat.{ℕ, ◌+◌, ◌*◌, ◌-◌, ◌/◌, ◌%◌, ◌≤◌, ◌<◌}
use native.Mathlib.Omega.{arith}
use native.Mathlib.Nat.{div-add-mod', mul-mod_right, mul-sub}
use lib.Dec.{leb, ltb, eqb}
use borrow.Author.Tests.{le-ltb, lt-leb, ne_eqb, ltb-false, leb-false, eqb-true, eqb-false, not-false}
use Rattle.number.specs.Little.{word}
use Rattle.number.proofs.BitLaws.{bit_of-lt}
use Rattle.plain.specs.Reading.{Reading, nothing, block, damaged}
use Rattle.plain.specs.ShadowCalls.{is_literal}
use Rattle.heap_layout.specs.Reading.{bits_place, written_bit, heap_reading}

-- what holds of the block that the reading of position p tells
pub record Told (W G size : ℕ) (f : ℕ → ℕ) (p b L o m : ℕ) (k : Bool) : Type 0 where
  pub some : 1 ≤ L
  pub room : G ≤ b
  pub fits : b + L ≤ size
  pub low : b ≤ p
  pub offset : o ≡ p - b
  pub inside : o < L
  pub aligned : b % G ≡ 0
  pub bit : m < 2
  pub written : m ≡ written_bit W G f p
  pub mark : k ≡ false
  pub number : word f (p / G * G) W ≡ p / G * G - b + 1
  pub long : word f (b - G + W) W ≡ L

module _ (W G size : ℕ) (f : ℕ → ℕ) (p : ℕ) where
  -- a segment without a number
  pub read_none : word f (p / G * G) W ≡ 0 → heap_reading W G size f p ≡ nothing
  unfolding heap_reading
  read_none e = rw e

  -- a segment whose numbers are in order
  pub read_some : (d base L : ℕ) → word f (p / G * G) W ≡ d + 1 → p / G * G ≡ base + d → word f (base - G + W) W ≡ L
      → d % G ≡ 0 → G ≤ base → 1 ≤ L → base + L ≤ size → d < L
      → heap_reading W G size f p ≡ cond (leb L (p - base)) nothing (block base L (p - base) (written_bit W G f p) false)
  unfolding heap_reading
  read_some d base L ew es e_l m room n fits within =
      let e : d + 1 - 1 ≡ d = omega arith in
      let eb : p / G * G - d ≡ base = omega arith in
      rw (
        ew,
        ne_eqb (d + 1) 0 (λ x. omega arith),
        e,
        m,
        le-ltb (p / G * G) (d + G) (omega arith),
        eb,
        e_l,
        ne_eqb L 0 (λ x. omega arith),
        le-ltb size (base + L) fits,
        lt-leb L d within,
      )

  -- a cascade of tests that ends in a block has passed each of them
  pass : (t : Bool) (x r : Reading) (b L o m : ℕ) (k : Bool) → (x ≡ block b L o m k → ⊥) → cond t x r ≡ block b L o m k → (t ≡ false) × (r ≡ block b L o m k)
  pass true x r b L o m k n e = absurd (n e)
  pass false x r b L o m k n e = (refl, e)

  not_none : (b L o m : ℕ) (k : Bool) → nothing ≡ block b L o m k → ⊥
  not_none b L o m k e = let z : ◌≡◌ {A = ℕ} 0 1 = cc in omega arith

  not-bad : (b L o m : ℕ) (k : Bool) → damaged ≡ block b L o m k → ⊥
  not-bad b L o m k e = let z : ◌≡◌ {A = ℕ} 0 1 = cc in omega arith

  -- a difference of multiples is one
  sub-aligned : (x d : ℕ) → d % G ≡ 0 → (x * G - d) % G ≡ 0
  sub-aligned x d e =
      let q : x * G - d ≡ G * (x - d / G) = rw (mul-sub G x (d / G)) (omega (arith, div-add-mod' d G)) in
      rw q (mul-mod_right G (x - d / G))

  -- for all bytes: what holds where a block is told
  pub reading-told : (b L o m : ℕ) (k : Bool) → heap_reading W G size f p ≡ block b L o m k → Told W G size f p b L o m k
  unfolding heap_reading
  reading-told b L o m k e =
      let s : ℕ = p / G * G in
      let d : ℕ = word f s W - 1 in
      let B : ℕ = s - d in
      let l : ℕ = word f (B - G + W) W in
      let (t₁, e₁) = pass (eqb (word f s W) 0) nothing _ b L o m k (not_none b L o m k) e in
      let (t₂, e₂) = pass (not (eqb (d % G) 0)) damaged _ b L o m k (not-bad b L o m k) e₁ in
      let (t₃, e₃) = pass (ltb s (d + G)) damaged _ b L o m k (not-bad b L o m k) e₂ in
      let (t₄, e₄) = pass (eqb l 0) damaged _ b L o m k (not-bad b L o m k) e₃ in
      let (t₅, e₅) = pass (ltb size (B + l)) damaged _ b L o m k (not-bad b L o m k) e₄ in
      let (t₆, e₆) = pass (leb l d) damaged _ b L o m k (not-bad b L o m k) e₅ in
      let (t₇, e₇) = pass (leb l (p - B)) nothing _ b L o m k (not_none b L o m k) e₆ in
      let eb : b ≡ B = cc in
      let el : L ≡ l = cc in
      let eo : o ≡ p - B = cc in
      let em : m ≡ written_bit W G f p = cc in
      let x₁ = eqb-false (word f s W) 0 t₁ in
      let x₃ = ltb-false s (d + G) t₃ in
      let x₄ = eqb-false l 0 t₄ in
      let x₅ = ltb-false size (B + l) t₅ in
      let x₇ = leb-false l (p - B) t₇ in
      record {
        some = omega arith;
        room = omega arith;
        fits = omega arith;
        low = omega (arith, div-add-mod' p G);
        offset = rw eb eo;
        inside = omega arith;
        aligned = rw eb (sub-aligned (p / G) d (eqb-true (d % G) 0 (not-false (eqb (d % G) 0) t₂)));
        bit = rw em (bit_of-lt (f (bits_place W G p)) (p % G % 8));
        written = em;
        mark = cc;
        number = omega arith;
        long = rw (eb, el);
      }

  -- for all bytes: no block of the heap is a literal
  pub reading-plain : is_literal (heap_reading W G size f p) ≡ false
  reading-plain = go (heap_reading W G size f p) refl
    where
      go : (r : Reading) → heap_reading W G size f p ≡ r → is_literal r ≡ false
      go nothing e = refl
      go (block b L o m k) e = (reading-told b L o m k e).mark
      go damaged e = refl

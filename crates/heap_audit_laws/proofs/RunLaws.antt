-- Segments that the audit's walk passes at once, at numbers of W bytes and segments of two numbers. Assumes nothing.
use mathlib.Core.Path.{◌≡◌, refl, sym, ap, ◌∙◌}
use mathlib.Core.Bool.{true}
use mathlib.Core.List.{List}
use Prim.Native.Nat.{ℕ, zero, suc, ◌+◌, ◌*◌, ◌/◌, ◌%◌, ◌^◌, ◌≤◌, ◌<◌}
use native.Mathlib.Omega.{arith}
use native.Mathlib.Nat.{add-zero, zero-mul, div-add-mod', lt_of_mul-lt-mul_right}
use lib.ListN.{length}
use lib.Count as count
use lib.Dec.{eqb}
use lib.Pow.{pow_pos}
use borrow.Author.Tests.{eq-eqb, eqb-true}
use Rattle.std.specs.Prelude.{Some}
use Rattle.number.specs.Little.{word}
use Rattle.number.specs.Parts.{at, zeros}
use Rattle.number.proofs.TestLaws.{and-true, same_digits}
use Rattle.number.proofs.LittleLaws.{word_lt}
use Rattle.number.proofs.WordLaws.{word_split}
use Rattle.number.proofs.ZeroLaws.{zero_word, zeros-next}
use Rattle.heap_audit_laws.specs.declared.Walk.{Walk}
use Rattle.heap_audit_laws.specs.Turn.{Kept, Stands, Turned}
use Rattle.heap_audit_laws.specs.Runs.{Owned, Passed}
use Rattle.heap_audit_laws.proofs.BitsLaws.{pow-bytes}
use Rattle.heap_audit_laws.proofs.TurnLaws.{turn-free, turn-whole}

-- ---- a segment as one number

-- its two halves
halves : (W : ℕ) (f : ℕ → ℕ) → ((q : ℕ) → f q < 256) → (p lo hi : ℕ) → lo < 256 ^ W → word f p (W + W) ≡ lo + 256 ^ W * hi
    → (word f p W ≡ lo) × (word f (p + W) W ≡ hi)
halves W f b p lo hi l e =
    let c = and-true (eqb (word f p W) lo) (eqb (word f (p + W) W) hi)
    (sym (same_digits (256 ^ W) (word f p W) lo (word f (p + W) W) hi (word_lt f p W b) l) ∙ eq-eqb _ _ (sym (word_split f p W W) ∙ e)) in
    (eqb-true _ _ c.0, eqb-true _ _ c.1)

-- zeros below bits add no ones
ones-shifted : (W y : ℕ) → y % 256 ^ W ≡ 0 → count.ones (y / 256 ^ W) ≡ count.ones y
ones-shifted W y e =
    let n : count.ones 0 ≤ 0 = count.ones-le 0 0 (omega arith) in
    let c = count.ones_cat (8 * W) (y / 256 ^ W) 0 (pow_pos (8 * W)) in
    let d : y / 256 ^ W * 2 ^ (8 * W) + 0 ≡ y = rw (pow-bytes W) (omega (arith, div-add-mod' y (256 ^ W), e)) in
    omega (arith, rw d at c)

-- one segment more, by its two numbers
pub owned-pair : (W G : ℕ) (f : ℕ → ℕ) (t d n m low high : ℕ) → Owned W G f t d n m → low ≡ word f ((t + n) * G) W
    → high ≡ word f ((t + n) * G + W) W → low ≡ d + n * G + 1 → high < 2 ^ G → Owned W G f t d (suc n) (m + count.ones high)
owned-pair W G f t d n m low high o x y u v = (m, o, sym x ∙ u, rw (← y) v, rw y)

-- one segment more, as one number: bits above its number are written ones
pub owned-more : (W G : ℕ) → G ≡ W + W → (f : ℕ → ℕ) → ((q : ℕ) → f q < 256) → (t d n m number bits : ℕ) → Owned W G f t d n m
    → number ≡ d + n * G + 1 → number < 256 ^ W → word f ((t + n) * G) G ≡ number + bits → bits % 256 ^ W ≡ 0 → bits / 256 ^ W < 2 ^ G
    → Owned W G f t d (suc n) (m + count.ones bits)
owned-more W G two f b t d n m number bits o e l x u v =
    let y : number + bits ≡ number + 256 ^ W * (bits / 256 ^ W) = omega (arith, div-add-mod' bits (256 ^ W), u) in
    let k = halves W f b ((t + n) * G) number (bits / 256 ^ W) l (ap (word f ((t + n) * G)) (sym two) ∙ x ∙ y) in
    rw (ones-shifted W bits u) at (owned-pair W G f t d n m number (bits / 256 ^ W) o (sym k.0) (sym k.1) e v)

-- the written bytes are no more than the segments' bytes
pub owned-few : (W G : ℕ) (f : ℕ → ℕ) (t d n m : ℕ) → Owned W G f t d n m → m ≤ n * G
owned-few W G f t d zero m o = omega arith
owned-few W G f t d (suc n) m (k, o, x, y, e) =
    let c : suc n * G ≡ G + n * G = omega arith in
    omega (arith, owned-few W G f t d n k o, count.ones-le G (word f ((t + n) * G + W) W) y)

-- ---- segments that are passed

-- a block that has a byte n segments on has the whole segment inside the area
in_area : (G size s d L n : ℕ) → size % G ≡ 0 → s * G + L ≤ size + d → d + n * G < L → s + n < size / G
in_area G size s d L n e l k = lt_of_mul-lt-mul_right G (omega (arith, div-add-mod' size G, e))

module _ (W G : ℕ) {h : List ℕ} {s : ℕ} {w : Walk} where
  pub passed_none : s < length h / G → Kept G (length h) s w → Passed W G h s w s w
  passed_none i k = record { on = omega arith; inside = i; same = refl; kept = k }

  -- a turn more
  pub passed-turn : {t : ℕ} {v u : Walk} → Passed W G h s w t v → Turned W G h t v (Some u) → t + 1 < length h / G → Passed W G h s w (t + 1) u
  passed-turn p k i = record { on = omega (arith, p.on); inside = i; same = p.same ∙ k.0; kept = k.1 }

module _ (W G : ℕ) (wide : 4 ≤ W) (two : G ≡ W + W) {h : List ℕ} (small : length h ≤ 131072) (bytes : (q : ℕ) → at h q < 256) {s : ℕ} {w : Walk} where
  standing : {t : ℕ} {v : Walk} → Passed W G h s w t v → Stands W G h t v (word (at h) (t * G) W) (word (at h) (t * G + W) W)
  standing p = record { inside = p.inside; small = small; bytes = bytes; kept = p.kept; lows = refl; highs = refl }

  -- a segment of zeros
  free_one : {t : ℕ} {v : Walk} → v.len ≡ 0 → Passed W G h s w t v → zeros (at h) (t * G) G ≡ true → t + 1 < length h / G → Passed W G h s w (t + 1) v
  free_one {t} {v} z p e i =
      let b = and-true (zeros (at h) (t * G) W) (zeros (at h) (t * G + W) W) (sym (zeros-next (at h) (t * G) W W) ∙ rw (← two) e) in
      passed-turn W G p
      (turn-free W G wide two (standing p) z (eqb-true _ 0 (zero_word (at h) (t * G) W ∙ b.0)) (eqb-true _ 0 (zero_word (at h) (t * G + W) W ∙ b.1)))
      i

  -- n segments of zeros, where no block goes on
  pub passed-free : (n : ℕ) {t : ℕ} {v : Walk} → v.len ≡ 0 → Passed W G h s w t v → zeros (at h) (t * G) (n * G) ≡ true → t + n < length h / G
      → Passed W G h s w (t + n) v
  passed-free zero {t} z p e i = rw (add-zero t) p
  passed-free (suc n) {t} z p e i =
      let c : suc n * G ≡ G + n * G = omega arith in
      let d : t * G + G ≡ (t + 1) * G = omega arith in
      let b = and-true (zeros (at h) (t * G) G) (zeros (at h) (t * G + G) (n * G)) (sym (zeros-next (at h) (t * G) G (n * G)) ∙ rw c at e) in
      let k : t + 1 + n ≡ t + suc n = omega arith in
      rw k at (passed-free n z (free_one z p b.0 (omega arith)) (rw d at b.1) (omega arith))

  -- n whole segments that are the block's own, where it goes on after them
  module _ (even : length h % G ≡ 0) (z : w.len ≡ 0 → ⊥) (i : s < length h / G) (k : Kept G (length h) s w) where
    pub passed-owned : (n m : ℕ) → Owned W G (at h) s w.d n m → w.d + n * G < w.len
        → Passed W G h s w (s + n) (record { len = w.len; d = w.d + n * G; blocks = w.blocks; live = w.live + n * G; written = w.written + m })
    passed-owned zero m o l =
        rw (o, zero-mul G, add-zero s, add-zero w.d, add-zero w.live, add-zero w.written) (passed_none W G i k)
    passed-owned (suc n) m (a, o, x, y, e) l =
        let p = passed-owned n a o (omega arith) in
        let t = turn-whole W G wide two (standing p) z x y (omega arith) in
        let q = passed-turn W G p t (omega (arith, in_area G (length h) s w.d w.len (suc n) even k.ends l)) in
        let e₁ : s + n + 1 ≡ s + suc n = omega arith in
        let e₂ : w.d + n * G + G ≡ w.d + suc n * G = omega arith in
        let e₃ : w.live + n * G + G ≡ w.live + suc n * G = omega arith in
        let e₄ : w.written + a + count.ones (word (at h) ((s + n) * G + W) W) ≡ w.written + m = omega arith in
        rw (e₁, e₂, e₃, e₄) at q

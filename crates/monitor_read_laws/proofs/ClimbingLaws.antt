-- The search for the next block: above which readings the climb goes on, in both layouts by positions. Assumes nothing.
use mathlib.Core.Path.{◌≡◌, refl, sym, ap, ◌∙◌}
use mathlib.Core.Bool.{Bool, true, false, cond, not, true≢false}
use mathlib.Core.Logic.{◌≢◌}
use Prim.Native.Nat.{ℕ, zero, suc, ◌+◌, ◌*◌, ◌-◌, ◌/◌, ◌%◌, ◌≤◌, ◌<◌}
use native.Mathlib.Omega.{arith}
use lib.Dec.{leb, ltb, eqb}
use native.Mathlib.Nat.{zero-add, div-add-mod', div-eq_of_lt-le}
use borrow.Author.Tests.{eq-eqb, eqb-true, eqb-false, ltb-true, ltb-false}
use Rattle.number.specs.Little.{byte_of, word}
use Rattle.number.specs.Parts.{zeros, run_of}
use Rattle.number.proofs.PartLaws.{zeros-at}
use Rattle.number.proofs.RunLaws.{run-le, run-at}
use Rattle.number.proofs.WordLaws.{AllBytes, byte_of-word}
use Rattle.number.proofs.ZeroLaws.{zero_word}
use Rattle.number.proofs.TestLaws.{Test, is_true, is_false, test}
use Rattle.plain.specs.Lift.{reading_up}
use Rattle.plain.specs.Reading.{Reading, nothing, block, damaged}
use Rattle.plain.specs.ShadowCalls.{is_damaged, is_first, stop}
use Rattle.plain.proofs.ClimbLaws.{from, climb-step}
use Rattle.heap_layout.specs.Reading.{written_bit, heap_reading}
use Rattle.heap_layout.proofs.ReadingLaws as heap
use Rattle.stack_layout.specs.Reading.{stack_reading, code_reading}

not-damaged : nothing ≡ damaged → ⊥
not-damaged e = let z : ◌≡◌ {A = ℕ} 0 1 = cc in omega arith

-- the climb goes on above such a reading
abbrev pub Goes : Reading → Type 0
Goes nothing = Unit {0}
Goes (block b l zero w t) = ⊥
Goes (block b l (suc o) w t) = Unit {0}
Goes damaged = ⊥

pub goes : (r : Reading) → is_damaged r ≡ false → is_first r ≡ false → Goes r
goes nothing d f = tt
goes (block b l zero w t) d f = true≢false f
goes (block b l (suc o) w t) d f = tt
goes damaged d f = true≢false d

goes_on : (r y : Reading) → Goes r → stop r y ≡ y
goes_on nothing y g = refl
goes_on (block b l zero w t) y g = absurd g
goes_on (block b l (suc o) w t) y g = refl
goes_on damaged y g = absurd g

pub goes-up : (s : ℕ) (r : Reading) → Goes r → Goes (reading_up s r)
goes-up s nothing g = tt
goes-up s (block b l zero w t) g = g
goes-up s (block b l (suc o) w t) g = tt
goes-up s damaged g = g

pub goes_down : (s : ℕ) (r : Reading) → Goes (reading_up s r) → Goes r
goes_down s nothing g = tt
goes_down s (block b l zero w t) g = g
goes_down s (block b l (suc o) w t) g = tt
goes_down s damaged g = g

pub goes_same : (r q : Reading) → r ≡ q → Goes q → Goes r
goes_same r q e g = rw e g

module _ (rd : ℕ → Reading) (end : ℕ) where
  -- k addresses that the climb passes
  over : (k a : ℕ) → a + k ≤ end → ((x : ℕ) → a ≤ x → x < a + k → Goes (rd x)) → from rd end a ≡ from rd end (a + k)
  over zero a h f = let e : a + 0 ≡ a = omega arith in rw e
  over (suc k) a h f =
      let e : a + suc k ≡ a + 1 + k = omega arith in
      climb-step rd end a (omega arith) ∙ goes_on (rd a) _ (f a (omega arith) (omega arith)) ∙ over k (a + 1) (omega arith) (λ x p q. f x (omega arith) (omega arith))
      ∙ ap (from rd end) (sym e)

  pub climb-over : (a b : ℕ) → a ≤ b → b ≤ end → ((x : ℕ) → a ≤ x → x < b → Goes (rd x)) → from rd end a ≡ from rd end b
  climb-over a b h k f =
      let e : a + (b - a) ≡ b = omega arith in
      over (b - a) a (omega arith) (λ x p q. f x p (omega arith)) ∙ ap (from rd end) e

  -- where the climb ends
  pub climb-first : (a b l o w : ℕ) (t : Bool) → a < end → rd a ≡ block b l o w t → o ≡ 0 → from rd end a ≡ block b l 0 w t
  climb-first a b l o w t h e z = climb-step rd end a h ∙ ap (λ r. stop r (from rd end (a + 1))) e ∙ rw z

  pub climb-damaged : (a : ℕ) → a < end → rd a ≡ damaged → from rd end a ≡ damaged
  climb-damaged a h e = climb-step rd end a h ∙ ap (λ r. stop r (from rd end (a + 1))) e

-- ---- the heap, by positions

-- the tests of a reading, and what stands below them: nothing or a block
unfoldable cascade : (t₁ t₂ t₃ t₄ t₅ t₆ : Bool) → Reading → Reading
cascade t₁ t₂ t₃ t₄ t₅ t₆ r = cond t₁ nothing (cond t₂ damaged (cond t₃ damaged (cond t₄ damaged (cond t₅ damaged (cond t₆ damaged r)))))

cascade-damaged : (t₁ t₂ t₃ t₄ t₅ t₆ : Bool) (r q : Reading) → (r ≡ damaged → ⊥) → cascade t₁ t₂ t₃ t₄ t₅ t₆ r ≡ damaged → cascade t₁ t₂ t₃ t₄ t₅ t₆ q ≡ damaged
unfolding cascade
cascade-damaged true t₂ t₃ t₄ t₅ t₆ r q n e = absurd (not-damaged e)
cascade-damaged false true t₃ t₄ t₅ t₆ r q n e = refl
cascade-damaged false false true t₄ t₅ t₆ r q n e = refl
cascade-damaged false false false true t₅ t₆ r q n e = refl
cascade-damaged false false false false true t₆ r q n e = refl
cascade-damaged false false false false false true r q n e = refl
cascade-damaged false false false false false false r q n e = absurd (n e)

module _ (W G size : ℕ) (f : ℕ → ℕ) where
  abbrev H : ℕ → Reading
  H = heap_reading W G size f

  -- by the segment at s
  abbrev tests : (s : ℕ) → Reading → Reading
  tests s =
      let d = word f s W - 1 in
      let base = s - d in
      let L = word f (base - G + W) W in
      cascade (eqb (word f s W) 0) (not (eqb (d % G) 0)) (ltb s (d + G)) (eqb L 0) (ltb size (base + L)) (leb L d)

  abbrev below : (s p w : ℕ) → Reading
  below s p w =
      let base = s - (word f s W - 1) in
      let L = word f (base - G + W) W in
      cond (leb L (p - base)) nothing (block base L (p - base) w false)

  by_tests : (p : ℕ) → H p ≡ tests (p / G * G) (below (p / G * G) p (written_bit W G f p))
  unfolding heap_reading cascade
  by_tests p = refl

  below-whole : (s p w : ℕ) → below s p w ≡ damaged → ⊥
  below-whole s p w e = go (leb (word f (s - (word f s W - 1) - G + W) W) (p - (s - (word f s W - 1)))) _ _ _ _ e
    where
      go : (t : Bool) (b l o w : ℕ) → cond t nothing (block b l o w false) ≡ damaged → ⊥
      go true b l o w e = not-damaged e
      go false b l o w e = let z : ◌≡◌ {A = ℕ} 0 1 = cc in omega arith

  same-segment : (s t p w : ℕ) → s ≡ t → tests s (below s p w) ≡ damaged → tests t (below t p w) ≡ damaged
  same-segment s t p w e h = rw e at h

  -- the readings of a segment are all damaged or none is
  one-damaged : (p x : ℕ) → x / G * G ≡ p / G * G → H x ≡ damaged → H p ≡ damaged
  one-damaged p x e h =
      by_tests p
      ∙ cascade-damaged _ _ _ _ _ _ _ _ (below-whole (p / G * G) x (written_bit W G f x)) (same-segment (x / G * G) (p / G * G) x (written_bit W G f x) e (sym (by_tests x) ∙ h))

  -- no block begins inside a segment
  inner : (x : ℕ) → x % G ≢ 0 → (H x ≡ damaged → ⊥) → Goes (H x)
  inner x n d = go (H x) refl
    where
      go : (r : Reading) → H x ≡ r → Goes r
      go nothing e = tt
      go damaged e = d e
      go (block b l zero w t) e = let k = heap.reading-told W G size f x b l 0 w t e in let z : x ≡ b = omega (arith, k.low, k.offset) in n (rw z k.aligned)
      go (block b l (suc o) w t) e = tt

  whole : (r : Reading) → Goes r → r ≡ damaged → ⊥
  whole nothing g e = not-damaged e
  whole (block b l o w t) g e = let z : ◌≡◌ {A = ℕ} 0 1 = cc in omega arith
  whole damaged g e = g

  -- where the climb goes on above the reading of position p, it does so in the rest of its segment
  pub goes-segment : (p x : ℕ) → Goes (H p) → p ≤ x → x < p / G * G + G → Goes (H x)
  goes-segment p x g i j = go (test (eqb x p))
    where
      same : x / G ≡ p / G
      same = div-eq_of_lt-le {k = p / G} G {m = x} (omega (arith, div-add-mod' p G)) (omega arith)

      go : Test (eqb x p) → Goes (H x)
      go (is_true e) = rw (eqb-true x p e) g
      go (is_false e) =
          let k = eqb-false x p e in
          let y : x / G * G ≡ p / G * G = rw same in
          inner x (λ q. omega (arith, div-add-mod' x G, div-add-mod' p G)) (λ q. whole (H p) g (one-damaged p x y q))

-- ---- the stack

-- more bytes that are 0: n of them from q on
zero_more : (f : ℕ → ℕ) (lo q n : ℕ) → ((x : ℕ) → lo ≤ x → x < q → f x ≡ 0) → ((i : ℕ) → i < n → f (q + i) ≡ 0)
    → (x : ℕ) → lo ≤ x → x < q + n → f x ≡ 0
zero_more f lo q n free more x i j = go (test (ltb x q))
  where
    go : Test (ltb x q) → f x ≡ 0
    go (is_true t) = free x i (ltb-true x q t)
    go (is_false t) = let h = ltb-false x q t in let z : q + (x - q) ≡ x = omega arith in rw z at (more (x - q) (omega arith))

pub zero-run : (f : ℕ → ℕ) (lo q n : ℕ) → ((x : ℕ) → lo ≤ x → x < q → f x ≡ 0) → zeros f q n ≡ true → (x : ℕ) → lo ≤ x → x < q + n → f x ≡ 0
zero-run f lo q n free e = zero_more f lo q n free (λ i h. zeros-at f q n i e h)

-- eight, as one number that is 0
pub zero-eight : (f : ℕ → ℕ) (lo q v : ℕ) → ((x : ℕ) → lo ≤ x → x < q → f x ≡ 0) → v ≡ word f q 8 → v ≡ 0
    → (x : ℕ) → lo ≤ x → x < q + 8 → f x ≡ 0
zero-eight f lo q v free e z = zero-run f lo q 8 free (sym (zero_word f q 8) ∙ eq-eqb (word f q 8) 0 (sym e ∙ z))

-- the low ones of eight, as the bytes of that number that are 0
pub zero-low : (f : ℕ → ℕ) → AllBytes f → (lo q v r : ℕ) → ((x : ℕ) → lo ≤ x → x < q → f x ≡ 0) → v ≡ word f q 8 → r ≡ run_of (λ j. eqb (byte_of v j) 0) 0 8
    → (x : ℕ) → lo ≤ x → x < q + r → f x ≡ 0
zero-low f bf lo q v r free e er = zero_more f lo q r free each
  where
    t : ℕ → Bool
    t j = eqb (byte_of v j) 0

    each : (i : ℕ) → i < r → f (q + i) ≡ 0
    each i h =
        let k = run-le t 0 8 in
        let z : byte_of v i ≡ 0 = eqb-true (byte_of v i) 0 (rw (zero-add i) at (run-at t 0 8 i (omega arith))) in
        sym (byte_of-word f bf 8 q i (omega arith)) ∙ ap (λ (y : ℕ). byte_of y i) (sym e) ∙ z

pub zero-byte : (size : ℕ) (pr se : ℕ → ℕ) (p : ℕ) → pr p ≡ 0 → stack_reading size pr se p ≡ nothing
unfolding stack_reading code_reading
zero-byte size pr se p e = rw e

-- What blocks, origins and referents keep, address by address, when a block begins or goes and when a pointer is set. Assumes nothing.
use mathlib.Core.Path.{◌≡◌, refl, sym, ap, ◌∙◌}
use mathlib.Core.Logic.{◌≢◌, ◌⊎◌, inl, inr}
use mathlib.Core.Bool.{Bool, true, false, cond, ◌&&◌}
use Prim.Native.Nat.{ℕ, suc, ◌+◌, ◌-◌, ◌%◌, ◌≤◌, ◌<◌}
use native.Mathlib.Omega.{arith}
use lib.Dec.{leb, ltb, eqb}
use borrow.Author.Tests.{lt-ltb, le-leb, ltb-true, leb-true, eq-eqb, ne_eqb, eqb-true, eqb-false}
use Rattle.number.proofs.TestLaws.{Test, is_true, is_false, test, and-true, not-both, false_of}
use Rattle.origins_list.specs.Cells.{Held, empty, put, touches, cut}
use Rattle.origins_list.proofs.SpotLaws.{Spot, vacant, taken, spans, is_base, has_four, without}

-- ---- spans

pub spans-true : (b l a : ℕ) → spans b l a ≡ true → (b ≤ a) × (a < b + l)
spans-true b l a e = let t = and-true (leb b a) (ltb a (b + l)) e in (leb-true b a t.0, ltb-true a (b + l) t.1)

pub true-spans : (b l a : ℕ) → b ≤ a → a < b + l → spans b l a ≡ true
true-spans b l a x y = rw (le-leb b a x, lt-ltb a (b + l) y)

pub touches-true : (b l c : ℕ) → touches b l c ≡ true → (c < b + l) × (b < c + 4)
touches-true b l c e = let t = and-true (ltb c (b + l)) (ltb b (c + 4)) e in (ltb-true c (b + l) t.0, ltb-true b (c + 4) t.1)

-- a block touches the cell of each of its addresses
pub spans-touches : (b l c : ℕ) → spans b l c ≡ true → touches b l c ≡ true
spans-touches b l c e = let h = spans-true b l c e in rw (lt-ltb c (b + l) h.1, lt-ltb b (c + 4) (omega (arith, h)))

-- of aligned addresses no others
pub touches-spans : (b l c : ℕ) → b % 4 ≡ 0 → c % 4 ≡ 0 → touches b l c ≡ true → spans b l c ≡ true
touches-spans b l c x y e = let h = touches-true b l c e in true-spans b l c (omega (arith, x, y, h)) h.0

pub no-taken : (b l : ℕ) → vacant ≡ taken b l → ⊥
no-taken b l e = let z : ◌≡◌ {A = ℕ} 0 1 = cc in omega arith

-- ---- what is kept

-- a block stands at each of its addresses
abbrev pub Whole : (ℕ → Spot) → Type 0
Whole s = (a b l : ℕ) → s a ≡ taken b l → (b ≤ a) × (a < b + l) × ((c : ℕ) → b ≤ c → c < b + l → s c ≡ taken b l)

-- each block begins at a cell and has an origin of its own that was given before, no other cell has one, and pointers are set in cells of blocks
-- alone, to origins that were given before
pub record Keeps (s : ℕ → Spot) (f g : Held) (k : ℕ) : Type 0 where
  pub based : (a b l : ℕ) → s a ≡ taken b l → (b % 4 ≡ 0) × (1 ≤ f b) × (f b < k)
  pub unbased : (b : ℕ) → is_base b (s b) ≡ false → f b ≡ 0
  pub own : (b c l n : ℕ) → s b ≡ taken b l → s c ≡ taken c n → f b ≡ f c → b ≡ c
  pub pointed : (c : ℕ) → g c ≢ 0 → (c % 4 ≡ 0) × (has_four c (s c) ≡ true)
  pub known : (c : ℕ) → g c < k
  pub last : (1 ≤ k) × (k ≤ 4294967296)

pub keep-none : (k : ℕ) → 1 ≤ k → k ≤ 4294967296 → Keeps (λ a. vacant) empty empty k
keep-none k x y =
    record {
      based = λ a b l e. absurd (no-taken b l e);
      unbased = λ b e. refl;
      own = λ b c l n e q z. absurd (no-taken b l e);
      pointed = λ c n. absurd (n refl);
      known = λ c. omega arith;
      last = (x, y);
    }

-- a pointer is set
pub keep-put : (s : ℕ → Spot) (f g : Held) (k c v : ℕ) → Keeps s f g k → c % 4 ≡ 0 → has_four c (s c) ≡ true → v < k → Keeps s f (put c v g) k
keep-put s f g k c v K e h n =
    record { based = K.based; unbased = K.unbased; own = K.own; pointed = λ d z. pointed d z (test (eqb d c)); known = λ d. known d (test (eqb d c)); last = K.last }
  where
    pointed : (d : ℕ) → put c v g d ≢ 0 → Test (eqb d c) → (d % 4 ≡ 0) × (has_four d (s d) ≡ true)
    pointed d z (is_true t) = let q : d ≡ c = eqb-true d c t in rw q (e, h)
    pointed d z (is_false t) = K.pointed d (λ w. z (rw (t, w)))

    known : (d : ℕ) → Test (eqb d c) → put c v g d < k
    known d (is_true t) = rw t n
    known d (is_false t) = rw t (K.known d)

-- ---- a block begins

module _ (s : ℕ → Spot) (f g : Held) (k b l : ℕ) (W : Whole s) (K : Keeps s f g k) (at-cell : b % 4 ≡ 0) (some : 1 ≤ l) (room : k ≤ 4294967295)
    (alone : (a : ℕ) → spans b l a ≡ true → s a ≡ vacant) where
  abbrev began : ℕ → Spot
  began a = cond (spans b l a) (taken b l) (s a)

  -- no block began there
  pub other : (a c n : ℕ) → s a ≡ taken c n → c ≢ b
  other a c n e z =
      let w = W a c n e in
      no-taken c n (sym (alone c (true-spans b l c (omega (arith, z)) (omega (arith, z, some)))) ∙ w.2 c (omega arith) (omega (arith, w.0, w.1)))

  spans-base : spans b l b ≡ true
  spans-base = true-spans b l b (omega arith) (omega (arith, some))

  -- what stands there
  pub data Began (a : ℕ) (x : Spot) : Type 0 where
    new : spans b l a ≡ true → x ≡ taken b l → Began a x
    old : spans b l a ≡ false → x ≡ s a → Began a x

  pub began-at : (a : ℕ) → Began a (began a)
  began-at a = go (test (spans b l a))
    where
      go : Test (spans b l a) → Began a (began a)
      go (is_true t) = new t (rw t)
      go (is_false t) = old t (rw t)

  -- the origin of a base that began before
  pub put-old : (c : ℕ) → c ≢ b → put b k f c ≡ f c
  put-old c n = rw (ne_eqb c b n)

  pub put-new : put b k f b ≡ k
  put-new = rw (eq-eqb b b refl)

  pub keep-begin : Keeps began (put b k f) g (suc k)
  keep-begin =
      record {
        based = λ a c n e. based a c n e (began-at a);
        unbased = λ c e. unbased c e (test (eqb c b));
        own = λ c d m n e q z. own c d m n e q z (began-at c) (began-at d);
        pointed = λ c n. let p = K.pointed c n in (p.0, at_old c p.1);
        known = λ c. omega (arith, K.known c);
        last = (omega arith, omega (arith, room));
      }
    where
      based : (a c n : ℕ) → began a ≡ taken c n → Began a (began a) → (c % 4 ≡ 0) × (1 ≤ put b k f c) × (put b k f c < suc k)
      based a c n e (new t q) =
          let z : b ≡ c = cc in rw (← z, put-new) (at-cell, K.last.0, omega arith)
      based a c n e (old t q) =
          let e' : s a ≡ taken c n = sym q ∙ e in
          let h = K.based a c n e' in
          rw (put-old c (other a c n e')) (h.0, h.1, omega (arith, h.2))

      unbased : (c : ℕ) → is_base c (began c) ≡ false → Test (eqb c b) → put b k f c ≡ 0
      unbased c e (is_true t) =
          let z : c ≡ b = eqb-true c b t in
          absurd (not-both (is_base c (began c)) (rw (z, spans-base) (eq-eqb b b refl)) e)
      unbased c e (is_false t) = put-old c (eqb-false c b t) ∙ K.unbased c (before (began-at c) e)
        where
          before : Began c (began c) → is_base c (began c) ≡ false → is_base c (s c) ≡ false
          before (new u q) e = rw (alone c u)
          before (old u q) e = rw (← q) e

      origin : (c n : ℕ) → began c ≡ taken c n → Began c (began c) → (c ≡ b) ⊎ ((c ≢ b) × (s c ≡ taken c n))
      origin c n e (new u q) = inl (let z : b ≡ c = cc in sym z)
      origin c n e (old u q) = let e' : s c ≡ taken c n = sym q ∙ e in inr (other c c n e', e')

      own : (c d m n : ℕ) → began c ≡ taken c m → began d ≡ taken d n → put b k f c ≡ put b k f d → Began c (began c) → Began d (began d) → c ≡ d
      own c d m n e q z u v = go (origin c m e u) (origin d n q v)
        where
          go : (c ≡ b) ⊎ ((c ≢ b) × (s c ≡ taken c m)) → (d ≡ b) ⊎ ((d ≢ b) × (s d ≡ taken d n)) → c ≡ d
          go (inl x) (inl y) = x ∙ sym y
          go (inl x) (inr y) =
              let p : k ≡ f d = sym put-new ∙ ap (put b k f) (sym x) ∙ z ∙ put-old d y.0 in absurd (omega (arith, p, K.based d d n y.1))
          go (inr x) (inl y) =
              let p : f c ≡ k = sym (put-old c x.0) ∙ z ∙ ap (put b k f) y ∙ put-new in absurd (omega (arith, p, K.based c c m x.1))
          go (inr x) (inr y) = K.own c d m n x.1 y.1 (sym (put-old c x.0) ∙ z ∙ put-old d y.0)

      at_old : (c : ℕ) → has_four c (s c) ≡ true → has_four c (began c) ≡ true
      at_old c h = go (began-at c)
        where
          go : Began c (began c) → has_four c (began c) ≡ true
          go (new u q) = absurd (not-both (has_four c (s c)) h (rw (alone c u)))
          go (old u q) = rw q h

-- ---- a block goes

module _ (s : ℕ → Spot) (f g : Held) (k x l : ℕ) (W : Whole s) (K : Keeps s f g k) (there : s x ≡ taken x l) where
  aligned : x % 4 ≡ 0
  aligned = (K.based x x l there).0

  -- what stands there
  pub data Left (a : ℕ) (y : Spot) : Type 0 where
    gone : spans x l a ≡ true → y ≡ vacant → Left a y
    kept : spans x l a ≡ false → y ≡ s a → Left a y

  pub left_at : (a : ℕ) → Left a (without x l s a)
  left_at a = go (test (spans x l a))
    where
      go : Test (spans x l a) → Left a (without x l s a)
      go (is_true t) = gone t (rw t)
      go (is_false t) = kept t (rw t)

  -- a block that is left stood before, and the one that goes does not touch its base
  pub remains : (a b n : ℕ) → without x l s a ≡ taken b n → (s a ≡ taken b n) × (touches x l b ≡ false)
  remains a b n e = go (left_at a)
    where
      go : Left a (without x l s a) → (s a ≡ taken b n) × (touches x l b ≡ false)
      go (gone t q) = absurd (no-taken b n (sym q ∙ e))
      go (kept t q) =
          let e' : s a ≡ taken b n = sym q ∙ e in
          let w = W a b n e' in (
            e',
            false_of (touches x l b) (λ h.
                let sp = spans-true x l b (touches-spans x l b aligned (K.based a b n e').0 h) in
                let p : taken x l ≡ taken b n = sym ((W x x l there).2 b sp.0 sp.1) ∙ w.2 b (omega arith) (omega (arith, w.0, w.1)) in
                let y : x ≡ b = cc in
                let z : l ≡ n = cc in
                not-both (spans x l a) (true-spans x l a (omega (arith, w.0, y)) (omega (arith, w.1, y, z))) t),
          )

  -- what is not touched is not spanned
  unspanned : (c : ℕ) → touches x l c ≡ false → without x l s c ≡ s c
  unspanned c t = rw (false_of (spans x l c) (λ h. not-both (touches x l c) (spans-touches x l c h) t))

  pub keep-free : Keeps (without x l s) (cut x l f) (cut x l g) k
  keep-free =
      record {
        based = λ a b n e. let r = remains a b n e in rw r.1 (K.based a b n r.0);
        unbased = λ b e. unbased b e (test (touches x l b));
        own = λ b c m n e q z.
            let r = remains b b m e in let t = remains c c n q in K.own b c m n r.0 t.0 (rw (r.1, t.1) at z);
        pointed = λ c n. pointed c n (test (touches x l c));
        known = λ c. known c (test (touches x l c));
        last = K.last;
      }
    where
      unbased : (b : ℕ) → is_base b (without x l s b) ≡ false → Test (touches x l b) → cut x l f b ≡ 0
      unbased b e (is_true t) = rw t
      unbased b e (is_false t) = rw t (K.unbased b (rw (unspanned b t) at e))

      pointed : (c : ℕ) → cut x l g c ≢ 0 → Test (touches x l c) → (c % 4 ≡ 0) × (has_four c (without x l s c) ≡ true)
      pointed c n (is_true t) = absurd (n (rw t))
      pointed c n (is_false t) = rw (unspanned c t) (K.pointed c (rw t at n))

      known : (c : ℕ) → Test (touches x l c) → cut x l g c < k
      known c (is_true t) = rw t (omega (arith, K.last))
      known c (is_false t) = rw t (K.known c)

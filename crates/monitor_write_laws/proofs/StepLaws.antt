-- What a call that writes comes to, of whatever rules and layout, by what its tests say. Assumes nothing.
use mathlib.Core.Path.{◌≡◌, refl, ap, ◌∙◌}
use mathlib.Core.Bool.{Bool, true, false, not}
use mathlib.Core.Logic.{◌≢◌}
use mathlib.Core.List.{[], ◌∷◌}
use Prim.Native.Nat.{ℕ, zero, suc}
use lib.Dec.{eqb}
use borrow.Author.Tests.{eq-eqb, ne_eqb}
use Rattle.types.specs.declared.Beginning.{Beginning}
use Rattle.plain.specs.Block.{begun}
use Rattle.plain.specs.Rules.{Rules}
use Rattle.plain.specs.Reading.{Reading}
use Rattle.plain.specs.Ops.{Ops, mark_range, read_any}
use Rattle.plain.specs.Call.{Call, begin, free, remove, written, Answer, refusal, done, first_of, unless, allows, is_stack}
use Rattle.plain.specs.ShadowCalls.{is_damaged, is_first, in_one, is_literal, length_of, shadow_step}
use Rattle.monitor_write_laws.specs.AreaCalls.{written_refusal}

module _ {S : Type 0} (R : Rules) (O : Ops S) (s : S) where
  abbrev step : Call → S × Answer
  step c = shadow_step R O c s

  module _ (how : Beginning) (b l : ℕ) where
    pub begin-3 : l ≡ 0 → step (begin how b l) ≡ (s, refusal 3)
    unfolding shadow_step
    begin-3 e = rw e

    pub begin-4 : l ≢ 0 → allows R how b l ≡ false → step (begin how b l) ≡ (s, refusal 4)
    unfolding shadow_step
    begin-4 n f = rw (ne_eqb l 0 n, f)

    pub begin-5 : l ≢ 0 → allows R how b l ≡ true → R.aligned b ≡ false → step (begin how b l) ≡ (s, refusal 5)
    unfolding shadow_step
    begin-5 n f a = rw (ne_eqb l 0 n, f, a)

    pub begin-6 : l ≢ 0 → allows R how b l ≡ true → R.aligned b ≡ true → O.vacant s b l ≡ false → step (begin how b l) ≡ (s, refusal 6)
    unfolding shadow_step
    begin-6 n f a v = rw (ne_eqb l 0 n, f, a, v)

    pub begin-0 : l ≢ 0 → allows R how b l ≡ true → R.aligned b ≡ true → O.vacant s b l ≡ true → (t : S) → t ≡ O.stamp s (begun how b l)
        → step (begin how b l) ≡ (t, done)
    unfolding shadow_step
    begin-0 n f a v t e = rw (ne_eqb l 0 n, f, a, v, e)

  -- what free and remove do by what is read at an address of their area
  abbrev pub ended : (a : ℕ) → Reading → S × Answer
  ended a r = unless (first_of ((8, is_damaged r) ∷ (7, not (is_first r)) ∷ [])) s (O.erase s a (length_of r), done)

  pub free-reads : (a : ℕ) → a ≢ 0 → R.inside a ≡ true → R.heap a ≡ true → (r : Reading) → read_any R O s a ≡ r → step (free a) ≡ ended a r
  unfolding shadow_step
  free-reads zero n i h r e = absurd (n refl)
  free-reads (suc a) n i h r e = rw (i, h) (ap (ended (suc a)) e)

  pub free-4 : (a : ℕ) → a ≢ 0 → R.inside a ≡ false → step (free a) ≡ (s, refusal 4)
  unfolding shadow_step
  free-4 zero n i = absurd (n refl)
  free-4 (suc a) n i = rw i

  pub free-15 : (a : ℕ) → a ≢ 0 → R.inside a ≡ true → R.heap a ≡ false → step (free a) ≡ (s, refusal 15)
  unfolding shadow_step
  free-15 zero n i h = absurd (n refl)
  free-15 (suc a) n i h = rw (i, h)

  -- C's null pointer
  pub free-null : (a : ℕ) → a ≡ 0 → step (free a) ≡ (s, done)
  unfolding shadow_step
  free-null a e = rw e

  pub remove-reads : (a : ℕ) → R.inside a ≡ true → R.heap a ≡ false → (r : Reading) → read_any R O s a ≡ r → step (remove a) ≡ ended a r
  unfolding shadow_step
  remove-reads a i h r e = rw (i, h) (ap (ended a) e)

  pub remove-4 : (a : ℕ) → is_stack R a ≡ false → step (remove a) ≡ (s, refusal 4)
  unfolding shadow_step
  remove-4 a i = rw i

  module _ (a : ℕ) where
    abbrev pub marks : (n : ℕ) → Bool → Reading → S × Answer
    marks n i r = unless (first_of ((3, eqb n 0) ∷ (4, not i) ∷ (8, is_damaged r) ∷ (7, not (in_one n r)) ∷ (13, is_literal r) ∷ [])) s (mark_range O s a n, done)

    pub written_is : (n : ℕ) (i : Bool) (r : Reading) → R.inside a ≡ i → read_any R O s a ≡ r → step (written a n) ≡ marks n i r
    unfolding shadow_step
    written_is n i r e h = ap (marks n (R.inside a)) h ∙ ap (λ (x : Bool). marks n x r) e

    pub written-3 : (n : ℕ) → n ≡ 0 → step (written a n) ≡ (s, refusal 3)
    unfolding shadow_step
    written-3 n e = rw (eq-eqb n 0 e)

    pub written_4 : (n : ℕ) → n ≢ 0 → R.inside a ≡ false → step (written a n) ≡ (s, refusal 4)
    written_4 n m i = written_is n false (read_any R O s a) i refl ∙ rw (ne_eqb n 0 m)

    -- an address of an area, by its reading
    pub written-reads : R.inside a ≡ true → (r : Reading) → read_any R O s a ≡ r → (n : ℕ) → n ≢ 0
        → step (written a n) ≡ unless (written_refusal true n r) s (mark_range O s a n, done)
    written-reads i r e n m = written_is n true r i e ∙ rw (ne_eqb n 0 m)

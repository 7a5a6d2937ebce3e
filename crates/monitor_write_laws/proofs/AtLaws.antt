-- A call at an address of an area is the call on that area's shadows at the position. Assumes nothing.
use mathlib.Core.Path.{◌≡◌, refl, sym, ap, ◌∙◌}
use mathlib.Core.Bool.{Bool, true, false, cond, not, ◌&&◌}
use mathlib.Core.List.{◌++◌}
use Prim.Native.Nat.{ℕ, zero, suc, ◌+◌, ◌-◌, ◌≤◌, ◌<◌}
use native.Mathlib.Omega.{arith}
use borrow.Author.Tests.{ne_eqb}
use Rattle.number.proofs.TestLaws.{Test, is_true, is_false, test, same_test}
use Rattle.map.specs.declared.Position.{Position}
use Rattle.types.specs.declared.Beginning.{Beginning}
use Rattle.plain.specs.Block.{begun}
use Rattle.plain.specs.Rules.{Rules}
use Rattle.plain.specs.Reading.{Reading, nothing, block, damaged}
use Rattle.plain.specs.Lift.{Shifted, reading_up}
use Rattle.plain.specs.Ops.{Ops, mark_range, read_any}
use Rattle.plain.specs.Call.{Call, begin, Answer, done, first_of, unless, by_rules}
use Rattle.plain.specs.ShadowCalls.{is_damaged, in_one, is_literal, by_shadows, shadows_after, shadow_step}
use Rattle.plain.proofs.LiftLaws.{Unshifted}
use Rattle.monitor_write_laws.specs.AreaCalls.{written_refusal}
use Rattle.monitor_write_laws.specs.Checks.{ending_of, ended_by}
use Rattle.monitor_write_laws.proofs.StepLaws.{ended}

-- ---- an area's rules at a position

module _ (x : ℕ) (A E : Rules) (d : Shifted x A E) (u : Unshifted x A E) (b l p : ℕ) (le : x ≤ b) (e : p ≡ b - x) where
  again : x + p ≡ b
  again = omega arith

  pub fits-same : A.fits b l ≡ E.fits p l
  fits-same =
      same_test (A.fits b l) (E.fits p l) (λ f. rw e (d.s_fits b l f).1) (λ f. rw again at (u.u-fits p l f))

  pub aligned-same : A.fits b l ≡ true → A.aligned b ≡ E.aligned p
  aligned-same f =
      same_test (A.aligned b) (E.aligned p) (λ a. rw e (d.s_aligned b l f a)) (λ a. rw again at (u.u-aligned p l (sym fits-same ∙ f) a))

-- ---- marks from an address on are marks from its position on

pub range_at : {S X : Type 0} (O : Ops S) (P : Ops X) (put : X → S) (x n a : ℕ) (y : X) → x ≤ a
    → ((b : ℕ) → a ≤ b → b < a + n → (z : X) → O.mark (put z) b ≡ put (P.mark z (b - x))) → mark_range O (put y) a n ≡ put (mark_range P y (a - x) n)
unfolding mark_range
range_at O P put x zero a y le h = refl
range_at O P put x (suc n) a y le h =
    let e : suc a - x ≡ suc (a - x) = omega arith in
    rw (h a (omega arith) (omega arith) y, range_at O P put x n (suc a) (P.mark y (a - x)) (omega arith) (λ b i j. h b (omega arith) (omega arith)), e)

-- ---- address a of the whole is position p of an area whose own shadows are x: `put` puts them beside the rest

pub record At {S X : Type 0} (R : Rules) (O : Ops S) (s : S) (a : ℕ) (E : Rules) (P : Ops X) (x : X) (p : ℕ) (put : X → S) : Type 0 where
  pub start : ℕ
  pub whole : s ≡ put x
  pub inside : R.inside a ≡ true
  pub fits : (l : ℕ) → R.fits a l ≡ E.fits p l
  pub aligned : (l : ℕ) → R.fits a l ≡ true → R.aligned a ≡ E.aligned p
  pub heap : R.heap a ≡ E.heap p
  pub read : O.read s a ≡ reading_up start (P.read x p)
  pub vacant : (l : ℕ) → O.vacant s a l ≡ P.vacant x p l
  pub stamp : (how : Beginning) (l : ℕ) → O.stamp s (begun how a l) ≡ put (P.stamp x (begun how p l))
  pub erase : (l : ℕ) → O.erase s a l ≡ put (P.erase x p l)
  pub mark : (n : ℕ) → in_one n (P.read x p) ≡ true → mark_range O s a n ≡ put (mark_range P x p n)

-- what an area's call leaves, beside the rest
abbrev pub beside : {S X : Type 0} → (X → S) → X × Answer → S × Answer
beside put r = (put r.0, r.1)

-- the first number that holds, or 0
abbrev refused_by : {S : Type 0} → Rules → Ops S → Call → S → ℕ
refused_by R O c s = first_of (by_rules R c ++ by_shadows R O c s)

-- where no number holds, the bytes lie in one block
pub written-passed : (t : Bool) (n : ℕ) (r : Reading) → written_refusal t n r ≡ 0 → in_one n r ≡ true
written-passed t n r e = go (is_damaged r) (in_one n r) (t && is_literal r) e
  where
    go : (d i k : Bool) → ◌≡◌ {A = ℕ} (cond d 8 (cond (not i) 7 (cond k 13 0))) 0 → i ≡ true
    go true i k e = absurd (omega arith)
    go false true k e = refl
    go false false k e = absurd (omega arith)

module _ {S X : Type 0} (R : Rules) (O : Ops S) (s : S) (a : ℕ) (E : Rules) (P : Ops X) (x : X) (p : ℕ) (put : X → S) (i : At R O s a E P x p put) where
  -- the same number, and what is accepted beside the rest
  beside_same : (k j : ℕ) (t : S) (y : X) → k ≡ j → (j ≡ 0 → t ≡ put y) → unless k s (t, done) ≡ beside put (unless j x (y, done))
  beside_same k zero t y e h = rw (e, h refl)
  beside_same k (suc j) t y e h = rw (e, i.whole)

  pub begin-at : (how : Beginning) (l : ℕ) → shadow_step R O (begin how a l) s ≡ beside put (shadow_step E P (begin how p l) x)
  unfolding shadow_step
  begin-at how l = beside_same (refused_by R O c s) (refused_by E P d x) (shadows_after R O c s) (shadows_after E P d x) (go (test (E.fits p l))) (λ z. i.stamp how l)
    where
      c : Call
      c = begin how a l

      d : Call
      d = begin how p l

      go : Test (E.fits p l) → refused_by R O c s ≡ refused_by E P d x
      go (is_true f) = rw (i.vacant l, i.aligned l (i.fits l ∙ f), i.fits l, i.heap)
      go (is_false f) = rw (i.fits l, f)

  pub there : read_any R O s a ≡ reading_up i.start (P.read x p)
  unfolding read_any
  there = rw i.inside i.read

  -- what is read at the address decides what is read at the position
  pub ended_at : (q : Position) → q.0 ≡ p → (r : Reading)
      → ended R O s a (reading_up i.start r) ≡ ended_by (λ k l. put (P.erase x k l)) s (ending_of r q)
  ended_at q e nothing = refl
  ended_at q e damaged = refl
  ended_at q e (block b l zero w t) = ap (λ (y : S). (y, done)) (i.erase l) ∙ rw e
  ended_at q e (block b l (suc o) w t) = rw (ne_eqb (suc o) 0 (omega arith))

-- A block that begins on any state of the right lengths, an image or not: it is read at its base, and marks of its bytes leave what the marked
-- block would have left. The law that each layout meets, by addresses and of two areas as one, and what follows of marking the whole block.
-- Assumes nothing.
use mathlib.Core.Path.{◌≡◌, refl, sym, ap, ◌∙◌}
use mathlib.Core.Bool.{true, false}
use Prim.Native.Nat.{ℕ, zero, suc, ◌+◌, ◌-◌, ◌≤◌, ◌<◌}
use native.Mathlib.Omega.{arith}
use native.Mathlib.Nat.{sub_self}
use lib.ListN.{set, length-set, length-replicate}
use Rattle.number.proofs.TestLaws.{Test, is_true, is_false, test, false_of}
use Rattle.types.specs.declared.Beginning.{Beginning}
use Rattle.types.specs.declared.Beginning.TheVariants.{Written}
use Rattle.plain.specs.Block.{Block, len, starts_written, starts_literal, begun, contains, mark_block}
use Rattle.plain.specs.Rules.{Rules, Proper, Sound}
use Rattle.plain.specs.Reading.{Reading, nothing, block, damaged}
use Rattle.plain.specs.Ops.{Ops, mark_range}
use Rattle.plain.specs.ShadowCalls.{in_one, is_literal}
use Rattle.plain.specs.Lift.{Shifted, reading_up, lift_ops, down}
use Rattle.plain.specs.Join.{join_rules, join_ops, Separate}
use Rattle.plain.proofs.BlockLaws.{contains-true, true-contains}
use Rattle.plain.proofs.KeptLaws.{mark-proper}
use Rattle.plain.proofs.BegunLaws.{set_many, set_all}

-- the block may stand there
pub record Stands (R : Rules) (b : Block) : Type 0 where
  pub some : 1 ≤ len b
  pub fits : R.fits b.base (len b) ≡ true
  pub aligned : R.aligned b.base ≡ true
  pub proper : Proper R b

pub record Stamped (R : Rules) {S : Type 0} (O : Ops S) (Fit : S → Type 0) : Type 0 where
  pub stamp-fit : (s : S) → Fit s → (b : Block) → Fit (O.stamp s b)
  pub stamp-read : (s : S) → Fit s → (b : Block) → Stands R b → in_one (len b) (O.read (O.stamp s b) b.base) ≡ true
  pub stamp-literal : (s : S) → Fit s → (b : Block) → Stands R b → is_literal (O.read (O.stamp s b) b.base) ≡ b.literal
  pub stamp-mark : (s : S) → Fit s → (b : Block) → Stands R b → (a : ℕ) → contains a b ≡ true
      → O.mark (O.stamp s b) a ≡ O.stamp s (mark_block a b)

-- ---- by addresses

pub lift-stamped : (s : ℕ) (A E : Rules) → Shifted s A E → {S : Type 0} (O : Ops S) (Fit : S → Type 0) → Stamped E O Fit → Stamped A (lift_ops s O) Fit
lift-stamped s A E H O Fit I =
    record {
      stamp-fit = λ h k b. I.stamp-fit h k (down s b);
      stamp-read = λ h k b t. up (len b) (O.read (O.stamp h (down s b)) (b.base - s)) (I.stamp-read h k (down s b) (below b t));
      stamp-literal = λ h k b t. still (O.read (O.stamp h (down s b)) (b.base - s)) ∙ I.stamp-literal h k (down s b) (below b t);
      stamp-mark = λ h k b t a e.
          I.stamp-mark h k (down s b) (below b t) (a - s) (held b t a (contains-true a b e))
          ∙ ap (λ (i : ℕ). O.stamp h (record { base = b.base - s; marks = set b.marks i true; literal = b.literal })) (place b t a (contains-true a b e));
    }
  where
    below : (b : Block) → Stands A b → Stands E (down s b)
    below b t =
        record {
          some = t.some;
          fits = (H.s_fits b.base (len b) t.fits).1;
          aligned = H.s_aligned b.base (len b) t.fits t.aligned;
          proper = λ x. (sym (H.s_heap b.base) ∙ (t.proper x).0, (t.proper x).1);
        }

    up : (n : ℕ) (r : Reading) → in_one n r ≡ true → in_one n (reading_up s r) ≡ true
    up n nothing e = e
    up n (block b l o w t) e = e
    up n damaged e = e

    still : (r : Reading) → is_literal (reading_up s r) ≡ is_literal r
    still nothing = refl
    still (block b l o w t) = refl
    still damaged = refl

    held : (b : Block) → Stands A b → (a : ℕ) → (b.base ≤ a) × (a < b.base + len b) → contains (a - s) (down s b) ≡ true
    held b t a h = let k = (H.s_fits b.base (len b) t.fits).0 in true-contains (a - s) (down s b) (omega arith) (omega arith)

    place : (b : Block) → Stands A b → (a : ℕ) → (b.base ≤ a) × (a < b.base + len b) → a - s - (b.base - s) ≡ a - b.base
    place b t a h = let k = (H.s_fits b.base (len b) t.fits).0 in omega arith

-- ---- two areas as one

pub join-stamped : (A B : Rules) → Sound A → Sound B → Separate A B → {X Y : Type 0} (OA : Ops X) (OB : Ops Y) (FA : X → Type 0) (FB : Y → Type 0)
    → Stamped A OA FA → Stamped B OB FB → Stamped (join_rules A B) (join_ops A OA OB) (λ s. FA s.0 × FB s.1)
join-stamped A B GA GB Z {X} {Y} OA OB FA FB IA IB =
    record {
      stamp-fit = λ s k b. fit s k b (test (A.inside b.base));
      stamp-read = λ s k b t. reads s k b t (test (A.inside b.base));
      stamp-literal = λ s k b t. literals s k b t (test (A.inside b.base));
      stamp-mark = λ s k b t a e. marks s k b t a e (contains-true a b e) (test (A.inside b.base));
    }
  where
    O : Ops (X × Y)
    O = join_ops A OA OB

    in-a : (b : Block) → Stands (join_rules A B) b → A.inside b.base ≡ true → Stands A b
    in-a b t i = record { some = t.some; fits = rw i at t.fits; aligned = rw i at t.aligned; proper = λ x. (rw i at (t.proper x).0, (t.proper x).1) }

    in_b : (b : Block) → Stands (join_rules A B) b → A.inside b.base ≡ false → Stands B b
    in_b b t i = record { some = t.some; fits = rw i at t.fits; aligned = rw i at t.aligned; proper = λ x. (rw i at (t.proper x).0, (t.proper x).1) }

    fit : (s : X × Y) → FA s.0 × FB s.1 → (b : Block) → Test (A.inside b.base) → FA (O.stamp s b).0 × FB (O.stamp s b).1
    fit s k b (is_true i) = rw i (IA.stamp-fit s.0 k.0 b, k.1)
    fit s k b (is_false i) = rw i (k.0, IB.stamp-fit s.1 k.1 b)

    reads : (s : X × Y) → FA s.0 × FB s.1 → (b : Block) → Stands (join_rules A B) b → Test (A.inside b.base)
        → in_one (len b) (O.read (O.stamp s b) b.base) ≡ true
    reads s k b t (is_true i) = rw i (IA.stamp-read s.0 k.0 b (in-a b t i))
    reads s k b t (is_false i) = rw i (IB.stamp-read s.1 k.1 b (in_b b t i))

    literals : (s : X × Y) → FA s.0 × FB s.1 → (b : Block) → Stands (join_rules A B) b → Test (A.inside b.base)
        → is_literal (O.read (O.stamp s b) b.base) ≡ b.literal
    literals s k b t (is_true i) = rw i (IA.stamp-literal s.0 k.0 b (in-a b t i))
    literals s k b t (is_false i) = rw i (IB.stamp-literal s.1 k.1 b (in_b b t i))

    marks : (s : X × Y) → FA s.0 × FB s.1 → (b : Block) → Stands (join_rules A B) b → (a : ℕ) → contains a b ≡ true
        → (b.base ≤ a) × (a < b.base + len b) → Test (A.inside b.base) → O.mark (O.stamp s b) a ≡ O.stamp s (mark_block a b)
    marks s k b t a e h (is_true i) =
        let j : A.inside a ≡ true = GA.in_inside b.base (len b) a (in-a b t i).fits h.0 h.1 in
        rw (i, j, IA.stamp-mark s.0 k.0 b (in-a b t i) a e)
    marks s k b t a e h (is_false i) =
        let y = GB.in_inside b.base (len b) a (in_b b t i).fits h.0 h.1 in
        let j : A.inside a ≡ false = false_of (A.inside a) (λ x. Z.no_share_lem a x y) in
        rw (i, j, IB.stamp-mark s.1 k.1 b (in_b b t i) a e)

-- ---- marks of the whole block

module _ (R : Rules) {S : Type 0} (O : Ops S) (Fit : S → Type 0) (I : Stamped R O Fit) (s : S) (k : Fit s) where
  mark-stamped : (n a : ℕ) (b : Block) → Stands R b → b.base ≤ a → a + n ≤ b.base + len b
      → mark_range O (O.stamp s b) a n ≡ O.stamp s (record { base = b.base; marks = set_many b.marks (a - b.base) n; literal = b.literal })
  unfolding mark_range set_many
  mark-stamped zero a b t x y = refl
  mark-stamped (suc n) a b t x y =
      let ln : len (mark_block a b) ≡ len b = length-set b.marks (a - b.base) true in
      let u : Stands R (mark_block a b) = record { some = rw ln t.some; fits = rw ln t.fits; aligned = t.aligned; proper = mark-proper R a b t.proper } in
      let e : suc a - b.base ≡ suc (a - b.base) = omega arith in
      rw (I.stamp-mark s k b t a (true-contains a b x (omega arith)), mark-stamped n (suc a) (mark_block a b) u (omega arith) (omega (arith, ln)), e)

  -- to begin a block that is no literal and then mark all its bytes is to begin it as written
  pub begin-marked : (h : Beginning) → starts_literal h ≡ false → (b l : ℕ) → Stands R (begun h b l)
      → mark_range O (O.stamp s (begun h b l)) b l ≡ O.stamp s (begun Written b l)
  begin-marked h nl b l t =
      mark-stamped l b (begun h b l) t (omega arith) (omega (arith, length-replicate l (starts_written h)))
      ∙ rw (nl, sub_self b, set_all (starts_written h) l)

-- Two areas beside one another are one: their rules, their shadows, their image. Assumes nothing.
use Rattle.std.specs.Prelude.{◌≡◌, Bool, true, cond, ◌||◌, List, [], ◌∷◌, ◌++◌, ℕ, ◌+◌, ◌≤◌, ◌<◌, max}
use Rattle.std.proofs.Math.Option.{Option, none, some}
use Rattle.plain.specs.Block.{Block}
use Rattle.plain.specs.Rules.{Rules}
use Rattle.plain.specs.Reading.{Tally, tally}
use Rattle.plain.specs.Ops.{Ops}

-- the blocks whose base is so
unfoldable pub only : (ℕ → Bool) → List Block → List Block
only p [] = []
only p (c ∷ cs) = cond (p c.base) (c ∷ only p cs) (only p cs)

-- what the rules of the area that holds an address say: A's where the address is A's, else B's
abbrev pub by_area : {X : Type 0} → Rules → Rules → (a : ℕ) → (Rules → X) → X
by_area A B a says = cond (A.inside a) (says A) (says B)

-- the segments are those of A
abbrev pub join_rules : Rules → Rules → Rules
join_rules A B =
    record {
      inside = λ a. A.inside a || B.inside a;
      fits = λ b l. by_area A B b (λ R. R.fits b l);
      aligned = λ b. by_area A B b (λ R. R.aligned b);
      low = λ b l. by_area A B b (λ R. R.low b l);
      high = λ b l. by_area A B b (λ R. R.high b l);
      heap = λ a. by_area A B a (λ R. R.heap a);
      top = max A.top B.top;
      segment = A.segment;
      gaps = λ bs. A.gaps (only A.inside bs) ++ B.gaps (only B.inside bs);
    }

abbrev pub plus : Option Tally → Option Tally → Option Tally
plus none t = none
plus (some s) none = none
plus (some (tally h k l w)) (some (tally h' k' l' w')) = some (tally (h + h') (k + k') (l + l') (w + w'))

-- what the shadows of the one area say, or those of the other; one of them changes, and the other stays
abbrev pub read_one : {X Y Z : Type 0} → Bool → (X → Z) → (Y → Z) → X × Y → Z
read_one first f g s = cond first (f s.0) (g s.1)

abbrev pub write_one : {X Y : Type 0} → Bool → (X → X) → (Y → Y) → X × Y → X × Y
write_one {X} {Y} first f g s = cond {A = X × Y} first (f s.0, s.1) (s.0, g s.1)

abbrev pub join_ops : {X Y : Type 0} → Rules → Ops X → Ops Y → Ops (X × Y)
join_ops A OA OB =
    record {
      cleared = (OA.cleared, OB.cleared);
      read = λ s a. read_one (A.inside a) (λ x. OA.read x a) (λ y. OB.read y a) s;
      vacant = λ s b l. read_one (A.inside b) (λ x. OA.vacant x b l) (λ y. OB.vacant y b l) s;
      stamp = λ s b. write_one (A.inside b.base) (λ x. OA.stamp x b) (λ y. OB.stamp y b) s;
      erase = λ s b l. write_one (A.inside b) (λ x. OA.erase x b l) (λ y. OB.erase y b l) s;
      mark = λ s a. write_one (A.inside a) (λ x. OA.mark x a) (λ y. OB.mark y a) s;
      marked = λ s a. read_one (A.inside a) (λ x. OA.marked x a) (λ y. OB.marked y a) s;
      audit = λ s. plus (OA.audit s.0) (OB.audit s.1);
      gaps = λ s. OA.gaps s.0 ++ OB.gaps s.1;
    }

abbrev pub join_image : {X Y : Type 0} → Rules → Rules → (List Block → X) → (List Block → Y) → List Block → X × Y
join_image A B im_a im_b bs = (im_a (only A.inside bs), im_b (only B.inside bs))

-- the areas share no address, and no footprint of the one meets one of the other. Interface of the proofs: no demand rests on it
pub record Separate (A B : Rules) : Type 0 where
  pub no_share_lem : (a : ℕ) → A.inside a ≡ true → B.inside a ≡ true → ⊥
  pub no_meet : (b l b' l' : ℕ) → 1 ≤ l → 1 ≤ l' → A.fits b l ≡ true → A.aligned b ≡ true → B.fits b' l' ≡ true → B.aligned b' ≡ true
      → A.low b l < B.high b' l' → B.low b' l' < A.high b l → ⊥

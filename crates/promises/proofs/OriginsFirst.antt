-- The first demand of the form with origins, from the player's own: see specification_origins, Votes.antt. Assumes nothing.
use mathlib.Core.Path.{◌≡◌, refl, ◌∙◌}
use mathlib.Core.Logic.{◌≢◌}
use mathlib.Core.Bool.{Bool, true, false, cond, not, ◌&&◌, ◌||◌}
use mathlib.Core.List.{List, [], ◌∷◌}
use Prim.Native.Nat.{ℕ, zero, suc, ◌%◌}
use native.Mathlib.Omega.{arith}
use lib.Dec.{leb, eqb}
use borrow.Author.Tests.{ne_eqb, eqb-true, eqb-false}
use Rattle.number.proofs.TestLaws.{Test, is_true, is_false, test}
use Rattle.map.specs.FormMap as library
use Rattle.types.specs.Call as plains
use Rattle.types.specs.Call.{clear, begin, free, remove, written, ask, valid, initialised, next, audit, place, Answer, number, refusal, Refusal, first_of, unless}
use Rattle.types.specs.Origins.{Call, plain, point, copy, live}
use Rattle.demands.proofs.Alters as plain-alters
use Rattle.demands_origins.proofs.Demand1 as demand
use Rattle.demands_origins.proofs.PlainKinds as kinds
use Rattle.demands_origins.proofs.Alters as alters
use Rattle.specification.specs.Map.{Map, Shadows, good, right_lengths}
use Rattle.specification.specs.Heap.{player}
use Rattle.specification.specs.Call as Plain-Form
use Rattle.specification.specs.Table as table
use Rattle.specification.specs.Table.{row3, row4, row5, row6}
use Rattle.specification.specs.Votes as plain-votes
use Rattle.specification.specs.Votes.{SameLengths}
use Rattle.specification.proofs.Same.{player-call}
use Rattle.specification_origins.specs.Cells.{right_cells}
use Rattle.specification_origins.specs.Origins.{Lent, last_origin, call}
use Rattle.specification_origins.specs.Votes.{number_of, rows, FirstVote}
use Rattle.specification_origins.proofs.OriginsSame.{call_same}

-- the rows from 3 on
abbrev past_two : List Refusal → List Refusal
past_two [] = []
past_two (r ∷ []) = []
past_two (q ∷ (r ∷ rs)) = rs

-- ---- the numbers of the plain kinds. g, f, c: the map is good, shadows and cells have their lengths; r: the player's answer

abbrev early : (g f c : Bool) → ℕ → ℕ
early g f c k = cond (not g) 1 (cond (not f || not c) 2 k)

itself : (k : ℕ) → cond (not (eqb k 0)) k 0 ≡ k
itself zero = refl
itself (suc k) = rw (ne_eqb (suc k) 0 (λ i. omega arith))

refused-by : {X : Type 0} (k : ℕ) (x : X) (r : X × Answer) → number r.1 ≡ k → number (unless k x r).1 ≡ k
refused-by zero x r e = e
refused-by (suc k) x r e = refl

-- a kind that records nothing
other : {X : Type 0} (g f c : Bool) (k : ℕ) (x y : X) (r : Answer) → number r ≡ cond (not g) 1 (cond (not f) 2 k)
    → number (unless (early g f c (cond (not (eqb (number r) 0)) (number r) 0)) x (y, r)).1 ≡ early g f c k
other false f c k x y r e = refl
other true false c k x y r e = refl
other true true false k x y r e = refl
other true true true k x y r e = rw (itself (number r)) (refused-by (number r) x (y, r) refl ∙ e)

-- a recording: t₃ to t₆ are the player's conditions, u that of 5 for a base that is no multiple of 4, v that of 12
recorded : {X : Type 0} (g f c t₃ t₄ t₅ u t₆ v : Bool) (x y : X) (r : Answer)
    → number r ≡ cond (not g) 1 (cond (not f) 2 (cond t₃ 3 (cond t₄ 4 (cond t₅ 5 (cond t₆ 6 0)))))
    → number (unless (early g f c (cond (leb 1 (number r) && leb (number r) 5) (number r)
    (cond u 5 (cond (not (eqb (number r) 0)) (number r) (cond v 12 0))))) x (y, r)).1
    ≡ early g f c (cond t₃ 3 (cond t₄ 4 (cond (t₅ || u) 5 (cond t₆ 6 (cond v 12 0)))))
recorded false f c t₃ t₄ t₅ u t₆ v x y r e = refl
recorded true false c t₃ t₄ t₅ u t₆ v x y r e = refl
recorded true true false t₃ t₄ t₅ u t₆ v x y r e = refl
recorded true true true true t₄ t₅ u t₆ v x y r e = rw e
recorded true true true false true t₅ u t₆ v x y r e = rw e
recorded true true true false false true u t₆ v x y r e = rw e
recorded true true true false false false true true v x y r e = rw e
recorded true true true false false false true false v x y r e = rw e
recorded true true true false false false false true v x y r e = rw e
recorded true true true false false false false false true x y r e = rw e
recorded true true true false false false false false false x y r e = rw e e

-- the player's numbers are those of its table
abbrev pub ByTheTable : Map → Type 0
ByTheTable m = (c : plains.Call) (s : Shadows) → plain-votes.number_of player m c s ≡ first_of (table.rows player m c s)

module _ (m : Map) (t : ByTheTable m) (x : Lent) where
  abbrev s : Shadows
  s = x.shadows

  abbrev answered : plains.Call → Answer
  answered c = (Plain-Form.call player m c s).1

  abbrev from-two : ℕ → ℕ
  from-two k = early (good m) (right_lengths m s) (right_cells m x.cells) k

  unrecorded : (c : plains.Call) (y : Lent)
      → number (unless (from-two (cond (not (eqb (number (answered c)) 0)) (number (answered c)) 0)) x (y, answered c)).1
      ≡ from-two (first_of (past_two (table.rows player m c s)))
  unrecorded c y = other (good m) (right_lengths m s) (right_cells m x.cells) (first_of (past_two (table.rows player m c s))) x y (answered c) (t c s)

  by_the_table : (c : plains.Call) → number_of m (plain c) x ≡ first_of (rows m c x)
  unfolding call
  by_the_table clear = unrecorded clear _
  by_the_table (begin h b l) =
      let c : plains.Call = begin h b l in
      recorded (good m) (right_lengths m s) (right_cells m x.cells) (row3 c) (row4 player m c) (row5 player m c) (not (eqb (b % 4) 0)) (row6 player m s c)
      (not (leb 1 x.counter && leb x.counter last_origin)) x _ (answered c) (t c s)
  by_the_table (free zero) = unrecorded (free zero) _
  by_the_table (free (suc b)) = unrecorded (free (suc b)) _
  by_the_table (remove b) = unrecorded (remove b) _
  by_the_table (written a n) = unrecorded (written a n) _
  by_the_table (ask a) = unrecorded (ask a) _
  by_the_table (valid w a n o) = unrecorded (valid w a n o) _
  by_the_table (initialised a n) = unrecorded (initialised a n) _
  by_the_table (next a) = unrecorded (next a) _
  by_the_table audit = unrecorded audit _
  by_the_table (place l k) = unrecorded (place l k) _

-- ---- what is left

module _ (m : Map) where
  refused : (c : Call) (x : Lent) → number_of m c x ≢ 0 → call m c x ≡ (x, refusal (number_of m c x))
  refused c x n = rw (call_same m c x) (demand.refused_alters_nothing m c x (rw (call_same m c x) at n))

  accepted : (c : plains.Call) (x : Lent) → number_of m (plain c) x ≡ 0
      → ((call m (plain c) x).1 ≡ (Plain-Form.call player m c x.shadows).1) × ((call m (plain c) x).0.shadows ≡ (Plain-Form.call player m c x.shadows).0)
  accepted c x e = rw (call_same m (plain c) x, player-call m c x.shadows) (kinds.plain_accepted m c x (rw (call_same m (plain c) x) at e))

  shadows-long : (c : Call) (x : Lent) → SameLengths (call m c x).0.shadows x.shadows
  shadows-long (plain c) x = go (test (eqb (number_of m (plain c) x) 0))
    where
      go : Test (eqb (number_of m (plain c) x) 0) → SameLengths (call m (plain c) x).0.shadows x.shadows
      go (is_true t) =
          rw ((accepted c x (eqb-true (number_of m (plain c) x) 0 t)).1, player-call m c x.shadows)
          (plain-alters.lengths_kept (library.player m) c x.shadows)
      go (is_false t) = rw (refused (plain c) x (eqb-false (number_of m (plain c) x) 0 t)) (refl, refl, refl)
  shadows-long (point c a) x = rw (call_same m (point c a) x, (alters.shadows-left m c a x).0) (refl, refl, refl)
  shadows-long (copy c a) x = rw (call_same m (copy c a) x, (alters.shadows-left m c a x).1) (refl, refl, refl)
  shadows-long (live c a) x = rw (call_same m (live c a) x, (alters.shadows-left m c a x).2) (refl, refl, refl)

  pub first_by : ByTheTable m → FirstVote m
  first_by t =
      record {
        refused_alters_nothing = refused;
        by_the_table = λ c x. by_the_table m t x c;
        plain_accepted = accepted;
        lengths_kept = λ c x. let l = alters.cell-lengths-kept m c x in (shadows-long c x, rw (call_same m c x) l.0, rw (call_same m c x) l.1);
      }

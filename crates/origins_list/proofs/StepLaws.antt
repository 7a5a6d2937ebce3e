-- Each call keeps what the plain list of this form carries, and what the history tells of it. Assumes nothing.
use mathlib.Core.Path.{◌≡◌, refl, sym, ◌∙◌, fun_ext}
use mathlib.Core.Logic.{◌≢◌}
use mathlib.Core.Bool.{Bool, true, false, cond, not, ◌&&◌, ◌||◌, false≢true}
use mathlib.Core.List.{List, ◌∷◌}
use mathlib.Core.Option.{Option, none, some}
use Prim.Native.Nat.{ℕ, zero, suc, ◌%◌, ◌≤◌, ◌<◌}
use native.Mathlib.Omega.{arith}
use lib.Dec.{leb, eqb}
use borrow.Author.Tests.{ne_eqb, leb-true, eqb-true, eqb-false}
use Rattle.number.proofs.TestLaws.{Test, is_true, is_false, test, and-true, or-false, not-both}
use Rattle.types.specs.declared.Beginning.{Beginning}
use Rattle.plain.specs.Block.{Block, len, starts_literal, contains, holds, has_base}
use Rattle.plain.specs.Blocks as blocks
use Rattle.plain.specs.Blocks.{find, found, any, mark_all}
use Rattle.plain.specs.Rules.{Rules, Placed, Sound, meets}
use Rattle.plain.specs.Call as base
use Rattle.plain.specs.PlainList.{list_after}
use Rattle.plain.specs.Call.{clear, begin, free, remove, written, ask, valid, initialised, next, audit, place, number, first_of, unless, allows}
use Rattle.plain.proofs.LayerLaws.{own_of}
use Rattle.plain.proofs.ListLaws.{find-has}
use Rattle.plain.proofs.KeptLaws.{remove-placed, marks-placed}
use Rattle.plain.proofs.RunLaws.{Joins, begun-proper, free-accepted, remove-accepted, keep-begin}
use Rattle.plain.proofs.RunLaws as lists
use Rattle.origins_list.specs.Call.{Call, plain, point, copy, live, is_cell, is_origin, ends, leaves, role_of}
use Rattle.origins_list.specs.Cells.{put}
use Rattle.origins_list.specs.OriginList.{OriginList, origin_found, origin_held, can_point, by_origins, without_block, origins_after, origin_answer, origin_step}
use Rattle.origins_list.specs.History.{History}
use Rattle.origins_list.proofs.SpotLaws.{Spot, vacant, taken, spot, spans, has_four, without, there, any-four, spot-marks, spot-insert, spot-alone, spot-remove, spot_base}
use Rattle.origins_list.proofs.KeepLaws.{Whole, Keeps, spans-true, keep-none, keep-put, keep-free}
use Rattle.origins_list.proofs.KeepLaws as cells
use Rattle.origins_list.proofs.HistoryLaws.{Tells}
use Rattle.origins_list.proofs.ToldLaws.{origin_there, tells-refused, tells-pointer, tells-point, tells-copy, tells-clear, tells-plain, tells-begin, tells-free}

-- ---- what an accepted call says

pub record Begins (R : Rules) (h : Beginning) (b l : ℕ) (x : OriginList) : Type 0 where
  pub joins : Joins R h b l x.blocks
  pub at-cell : b % 4 ≡ 0
  pub room : x.counter ≤ 4294967295

pub begins : (R : Rules) (h : Beginning) (b l : ℕ) (x : OriginList) → first_of (by_origins R (plain (begin h b l)) x) ≡ 0 → Begins R h b l x
begins R h b l x =
    go (test (eqb l 0)) (test (allows R h b l)) (test (R.aligned b)) (test (is_cell b)) (test (any (meets R b l) x.blocks)) (test (is_origin x.counter))
  where
    go : Test (eqb l 0) → Test (allows R h b l) → Test (R.aligned b) → Test (is_cell b) → Test (any (meets R b l) x.blocks) → Test (is_origin x.counter)
        → ◌≡◌ {A = ℕ} (cond (eqb l 0) 3 (cond (not (allows R h b l)) 4 (cond (not (R.aligned b)) 5 (cond (not (is_cell b)) 5
        (cond (any (meets R b l) x.blocks) 6 (cond (not (is_origin x.counter)) 12 0)))))) 0
        → Begins R h b l x
    go (is_true n) f a c m k e = absurd (omega (arith, rw n at e))
    go (is_false n) (is_false f) a c m k e = absurd (omega (arith, rw (n, f) at e))
    go (is_false n) (is_true f) (is_false a) c m k e = absurd (omega (arith, rw (n, f, a) at e))
    go (is_false n) (is_true f) (is_true a) (is_false c) m k e = absurd (omega (arith, rw (n, f, a, c) at e))
    go (is_false n) (is_true f) (is_true a) (is_true c) (is_true m) k e = absurd (omega (arith, rw (n, f, a, c, m) at e))
    go (is_false n) (is_true f) (is_true a) (is_true c) (is_false m) (is_false k) e = absurd (omega (arith, rw (n, f, a, c, m, k) at e))
    go (is_false n) (is_true f) (is_true a) (is_true c) (is_false m) (is_true k) e =
        let z : l ≢ 0 = eqb-false l 0 n in
        let t = and-true (R.fits b l) (not (starts_literal h && R.heap b)) f in
        record {
          joins = record { some = omega arith; fits = t.0; aligned = a; alone = m; proper = begun-proper R h b l t.1 };
          at-cell = eqb-true (b % 4) 0 c;
          room = leb-true x.counter 4294967295 (and-true (leb 1 x.counter) (leb x.counter 4294967295) k).1;
        }

-- an accepted call has number 0
pub accepted-0 : (R : Rules) (c : Call) (x : OriginList) → number (origin_answer R c x) ≡ 0
accepted-0 R (plain c) x = lists.accepted-0 R c x.blocks
accepted-0 R (point c a) x = refl
accepted-0 R (copy t f) x = refl
accepted-0 R (live c a) x = refl

-- a test that must fail for a number to be 0
pub passes : (t : Bool) (n k : ℕ) → 1 ≤ n → cond t n k ≡ 0 → (t ≡ false) × (k ≡ 0)
passes true n k h e = absurd (omega arith)
passes false n k h e = (refl, e)

not-false : (t : Bool) → not t ≡ false → t ≡ true
not-false true e = refl
not-false false e = absurd (not-both true refl e)

module _ (R : Rules) (G : Sound R) where
  -- what is kept of a plain list
  pub record Good (x : OriginList) : Type 0 where
    pub placed : Placed R 0 x.blocks
    pub keeps : Keeps (spot x.blocks) x.origin x.referent x.counter

  pub whole : (bs : List Block) → Placed R 0 bs → Whole (spot bs)
  whole bs P a b l e = let t = there R G bs P a b l e in (t.from, t.to, t.all)

  -- a cell in which a pointer can stand
  pub can-point : (x : OriginList) (c : ℕ) → Placed R 0 x.blocks → can_point x c ≡ true → (c % 4 ≡ 0) × (has_four c (spot x.blocks c) ≡ true)
  can-point x c P e =
      let t = and-true (is_cell c) (any (holds c 4) x.blocks) e in (eqb-true (c % 4) 0 t.0, sym (any-four R G x.blocks P c) ∙ t.1)

  -- the origin of the block at an address
  pub held-there : (x : OriginList) (a : ℕ) → origin_held x a ≡ origin_there x.origin (spot x.blocks a)
  held-there x a = go (find (contains a) x.blocks)
    where
      go : (o : Option Block) → origin_found x.origin o ≡ origin_there x.origin (own_of (λ b s. taken b.base (len b)) vacant a o)
      go none = refl
      go (some b) = refl

  -- an origin that a block has was given before
  held-known : (x : OriginList) → Good x → (a : ℕ) → origin_there x.origin (spot x.blocks a) < x.counter
  held-known x g a = go (spot x.blocks a) refl
    where
      go : (y : Spot) → spot x.blocks a ≡ y → origin_there x.origin y < x.counter
      go vacant e = omega (arith, g.keeps.last)
      go (taken b l) e = (g.keeps.based a b l e).2

  -- ---- a call, and what it leaves

  abbrev pub TellsOf : (k : ℕ) → History → OriginList → Type 0
  TellsOf k h x = Tells k h (spot x.blocks) x.origin x.referent x.counter

  -- a list after an accepted call, and what the history tells of it
  pub record After (c : Call) (x y : OriginList) : Type 0 where
    pub good : Good y
    pub told : (k : ℕ) → 1 ≤ k → (h : History) → TellsOf k h x → TellsOf k ((c, true) ∷ h) y

  -- what is known of another view of the blocks
  viewed : (c : Call) (x y : OriginList) (s : ℕ → Spot) → ((a : ℕ) → spot y.blocks a ≡ s a) → Placed R 0 y.blocks
      → Keeps s y.origin y.referent y.counter
      → ((k : ℕ) → 1 ≤ k → (h : History) → TellsOf k h x → Tells k ((c, true) ∷ h) s y.origin y.referent y.counter) → After c x y
  viewed c x y s e P K t =
      let q : spot y.blocks ≡ s = fun_ext e in
      record { good = record { placed = P; keeps = rw q K }; told = λ k o h T. rw q (t k o h T) }

  module _ (x : OriginList) (g : Good x) where
    abbrev s : ℕ → Spot
    s = spot x.blocks

    W : Whole s
    W = whole x.blocks g.placed

    -- a call that leaves the blocks where they are, and origins, referents and counter
    abbrev marked : List Block → OriginList
    marked bs = record { blocks = bs; origin = x.origin; referent = x.referent; counter = x.counter }

    asked : (c : base.Call) → role_of c ≡ leaves → After (plain c) x x
    asked c r = record { good = g; told = λ k o h T. tells-plain k o h s x.origin x.referent x.counter T c r }

    after-clear : After (plain clear) x (origins_after (plain clear) x)
    unfolding find
    after-clear =
        viewed (plain clear) x (origins_after (plain clear) x) (λ a. vacant) (λ a. refl) tt (keep-none x.counter g.keeps.last.0 g.keeps.last.1)
        (λ k o h T. tells-clear k o h s x.origin x.referent x.counter T clear refl)

    after-begin : (how : Beginning) (b l : ℕ) → Begins R how b l x → After (plain (begin how b l)) x (origins_after (plain (begin how b l)) x)
    after-begin how b l j =
        viewed (plain (begin how b l)) x (origins_after (plain (begin how b l)) x) (λ a. cond (spans b l a) (taken b l) (s a))
        (spot-insert R G how b l x.blocks g.placed j.joins) (keep-begin R G how b l x.blocks g.placed j.joins)
        (cells.keep-begin s x.origin x.referent x.counter b l W g.keeps j.at-cell j.joins.some j.room alone)
        (λ k o h T. tells-begin k o h s x.origin x.referent x.counter T (begin how b l) b l refl W g.keeps j.at-cell j.joins.some j.room alone)
      where
        alone : (a : ℕ) → spans b l a ≡ true → s a ≡ vacant
        alone a t = let p = spans-true b l a t in spot-alone R G how b l x.blocks g.placed j.joins a p.0 p.1

    -- a block of the list ends
    abbrev left : (base : ℕ) → Option Block → OriginList
    left y o = record { blocks = blocks.remove y x.blocks; origin = without_block o x.origin; referent = without_block o x.referent; counter = x.counter }

    after-end : (c : base.Call) (y : ℕ) → role_of c ≡ ends y → list_after c x.blocks ≡ blocks.remove y x.blocks → any (has_base y) x.blocks ≡ true
        → After (plain c) x (origins_after (plain c) x)
    after-end c y r l e = rw (r, l) (go (find (has_base y) x.blocks) refl e)
      where
        go : (o : Option Block) → find (has_base y) x.blocks ≡ o → found o ≡ true → After (plain c) x (left y o)
        go none q e = absurd (false≢true e)
        go (some d) q e =
            viewed (plain c) x (left y (some d)) (without y (len d) s) (spot-remove R G y d x.blocks g.placed q)
            (remove-placed R G y x.blocks 0 g.placed)
            (rw z (keep-free s x.origin x.referent x.counter y (len d) W g.keeps stood))
            (λ k o h T. rw z (tells-free k o h s x.origin x.referent x.counter T c y (len d) r W g.keeps stood))
          where
            z : d.base ≡ y
            z = eqb-true d.base y (find-has (has_base y) x.blocks d q).1

            stood : s y ≡ taken y (len d)
            stood = spot_base R G x.blocks g.placed y d q

    -- ---- each call, accepted

    pub after-plain : (c : base.Call) → first_of (by_origins R (plain c) x) ≡ 0 → After (plain c) x (origins_after (plain c) x)
    after-plain clear e = after-clear
    after-plain (begin h b l) e = after-begin h b l (begins R h b l x e)
    after-plain (free zero) e = asked (free zero) refl
    after-plain (free (suc y)) e = after-end (free (suc y)) (suc y) refl refl (free-accepted R y x.blocks e).2
    after-plain (remove y) e = after-end (remove y) y refl refl (remove-accepted R y x.blocks e).1
    after-plain (written a n) e =
        viewed (plain (written a n)) x (marked (mark_all a n x.blocks)) s (λ b. spot-marks n a b x.blocks) (marks-placed R n a x.blocks 0 g.placed) g.keeps
        (λ k o h T. tells-plain k o h s x.origin x.referent x.counter T (written a n) refl)
    after-plain (ask a) e = asked (ask a) refl
    after-plain (valid w a n from) e = asked (valid w a n from) refl
    after-plain (initialised a n) e = asked (initialised a n) refl
    after-plain (next a) e = asked (next a) refl
    after-plain audit e = asked audit refl
    after-plain (place l k) e = asked (place l k) refl

    -- a pointer is set in a cell in which one can stand
    pointed : (c : Call) (d v : ℕ) → can_point x d ≡ true → v < x.counter
        → ((k : ℕ) → 1 ≤ k → (h : History) → TellsOf k h x → Tells k ((c, true) ∷ h) s x.origin (put d v x.referent) x.counter)
        → After c x (record { blocks = x.blocks; origin = x.origin; referent = put d v x.referent; counter = x.counter })
    pointed c d v e n t =
        let p = can-point x d g.placed e in
        record {
          good = record { placed = g.placed; keeps = keep-put s x.origin x.referent x.counter d v g.keeps p.0 p.1 n };
          told = t;
        }

    pub after_call : (c : Call) → first_of (by_origins R c x) ≡ 0 → After c x (origins_after c x)
    after_call (plain c) e = after-plain c e
    after_call (point c a) e =
        let p = passes (not (R.inside c)) 4 (cond (not (can_point x c)) 11 0) (omega arith) e in
        let q = not-false (can_point x c) (passes (not (can_point x c)) 11 0 (omega arith) p.1).0 in
        rw (held-there x a)
        (pointed (point c a) c (origin_there x.origin (s a)) q (held-known x g a)
        (λ k o h T. tells-point k o h s x.origin x.referent x.counter T c a))
    after_call (copy t f) e =
        let p = passes (not (R.inside t) || not (R.inside f)) 4 (cond (not (can_point x t) || not (can_point x f)) 11 0) (omega arith) e in
        let q = (passes (not (can_point x t) || not (can_point x f)) 11 0 (omega arith) p.1).0 in
        pointed (copy t f) t (x.referent f) (not-false (can_point x t) (or-false (not (can_point x t)) (not (can_point x f)) q).0) (g.keeps.known f)
        (λ k o h T. tells-copy k o h s x.origin x.referent x.counter T t f)
    after_call (live c a) e =
        record {
          good = g;
          told = λ k o h T. tells-pointer k o h s x.origin x.referent x.counter T (live c a) x.referent refl (λ o p b. refl) T.set T.made;
        }

    -- ---- each call, accepted or refused

    pub step-good : (c : Call) → Good (origin_step R c x).0
    unfolding origin_step
    step-good c = go (first_of (by_origins R c x)) refl
      where
        go : (n : ℕ) → first_of (by_origins R c x) ≡ n → Good (unless n x (origins_after c x, origin_answer R c x)).0
        go zero e = (after_call c e).good
        go (suc n) e = g

    pub step-told : (c : Call) (k : ℕ) → 1 ≤ k → (h : History) → TellsOf k h x
        → TellsOf k ((c, eqb (number (origin_step R c x).1) 0) ∷ h) (origin_step R c x).0
    unfolding origin_step
    step-told c k o h T = go (first_of (by_origins R c x)) refl
      where
        go : (n : ℕ) → first_of (by_origins R c x) ≡ n
            → TellsOf k ((c, eqb (number (unless n x (origins_after c x, origin_answer R c x)).1) 0) ∷ h) (unless n x (origins_after c x, origin_answer R c x)).0
        go zero e = rw (accepted-0 R c x) ((after_call c e).told k o h T)
        go (suc n) e = rw (ne_eqb (suc n) 0 (omega arith)) (tells-refused k o h s x.origin x.referent x.counter T c)

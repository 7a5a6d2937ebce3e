-- On the image of a list that carries what it should, each call of the form with origins does what the plain list of the form does.
-- Assumes nothing.
use mathlib.Core.Path.{◌≡◌, refl, sym, ap, ◌∙◌}
use mathlib.Core.Bool.{true, false, cond, not, ◌&&◌, ◌||◌, false≢true}
use mathlib.Core.List.{List, ◌++◌}
use mathlib.Core.Option.{Option, none, some}
use Prim.Native.Nat.{ℕ, zero, suc, ◌+◌, ◌%◌, ◌≤◌}
use native.Mathlib.Omega.{arith}
use native.Mathlib.Nat.{sub-zero}
use lib.Dec.{eqb}
use lib.ListN.{length-replicate}
use borrow.Author.Tests.{eqb-true, eqb-false}
use Rattle.number.proofs.TestLaws.{Test, is_true, is_false, test, and-true}
use Rattle.types.specs.declared.Beginning.{Beginning}
use Rattle.plain.specs.Block.{Block, len, starts_written, starts_literal, begun, contains, has_base}
use Rattle.plain.specs.Blocks.{find, found, any}
use Rattle.plain.specs.Rules.{Rules, Sound, meets}
use Rattle.plain.specs.Reading.{Reading, says, lookup}
use Rattle.plain.specs.Ops.{Ops, read_any}
use Rattle.plain.specs.Images.{Images}
use Rattle.plain.specs.Call as base
use Rattle.plain.specs.Call.{clear, begin, free, remove, written, ask, valid, initialised, next, audit, place, Answer, number, refusal, done, yes_no, first_of, unless, allows, by_rules}
use Rattle.plain.specs.PlainList.{by_list, list_after, list_answer, plain_step}
use Rattle.plain.specs.ShadowCalls.{is_damaged, in_one, length_of, by_shadows, shadows_after, shadow_answer, shadow_step}
use Rattle.plain.proofs.FindLaws.{find-facts}
use Rattle.plain.proofs.KeptLaws.{base-inside}
use Rattle.plain.proofs.LayerLaws.{own_of}
use Rattle.plain.proofs.ReadBackLaws.{image-reads}
use Rattle.plain.proofs.SameLaws.{step_same}
use Rattle.plain.proofs.AnswerLaws as shadows
use Rattle.plain.proofs.RunLaws as lists
use Rattle.plain.proofs.RunLaws.{free-accepted, remove-accepted}
use Rattle.origins_list.specs.Call.{Call, plain, point, copy, live, is_cell, is_origin}
use Rattle.origins_list.specs.CellOps.{CellOps}
use Rattle.origins_list.specs.Cells.{Held, put, cell_of, CellImages}
use Rattle.origins_list.specs.StateCalls.{State, origin_read, is_pointer, by_state, cells_after, state_after, state_answer, state_step}
use Rattle.origins_list.specs.OriginList.{OriginList, origin_found, origin_held, can_point, by_origins, without_block, origin_after, referent_after, origins_after, points_into, origin_answer, origin_step}
use Rattle.origins_list.proofs.SpotLaws.{vacant, taken, has_four, there, any-four, spot_base}
use Rattle.origins_list.proofs.StepLaws.{Good, can-point}
use Rattle.origins_list.proofs.CarriedLaws.{small-origin, small-referent}

aligned-cell : (c : ℕ) → c % 4 ≡ 0 → cell_of c ≡ c
aligned-cell c e = rw e (sub-zero c)

-- two refusals or two answers that agree have the same number, and the same answer where it is 0
split : {S T : Type 0} (view : T → S) (k n : ℕ) (s : S) (t : T) (r : S × Answer) (q : T × Answer) → number r.1 ≡ 0 → number q.1 ≡ 0
    → unless k s r ≡ (view (unless n t q).0, (unless n t q).1) → (k ≡ n) × (n ≡ 0 → r ≡ (view q.0, q.1))
split view zero zero s t r q a b e = (refl, λ z. e)
split view zero (suc n) s t r q a b e =
    absurd (let z : r.1 ≡ refusal (suc n) = ap (λ (y : _). y.1) e in omega (arith, sym a ∙ ap number z))
split view (suc k) zero s t r q a b e =
    absurd (let z : refusal (suc k) ≡ q.1 = ap (λ (y : _). y.1) e in omega (arith, ap number z ∙ b))
split view (suc k) (suc n) s t r q a b e =
    (let z : refusal (suc k) ≡ refusal (suc n) = ap (λ (y : _). y.1) e in ap number z, λ z. absurd (omega arith))

module _ {S C : Type 0} (R : Rules) (G : Sound R) (O : Ops S) (image : List Block → S) (I : Images R O image)
    (X : CellOps C) (cells : (origins referents : Held) → C) (J : CellImages R.inside R.fits X cells) where
  -- what stands for a list
  abbrev pub view : OriginList → State S C
  view x = record { shadows = image x.blocks; cells = cells x.origin x.referent; counter = x.counter }

  abbrev both : OriginList × Answer → State S C × Answer
  both r = (view r.0, r.1)

  module _ (x : OriginList) (g : Good R G x) where
    reads : (a : ℕ) → read_any R O (image x.blocks) a ≡ lookup x.blocks a
    reads = image-reads R G O image I x.blocks g.placed

    -- ---- the plain kinds

    -- of a kind that has no number of its own here: as in the plain form, where the cells agree
    plainly : (c : base.Call)
        → first_of (by_state R O X (plain c) (view x)) ≡ first_of (by_rules R c ++ by_shadows R O c (image x.blocks))
        → first_of (by_origins R (plain c) x) ≡ first_of (by_rules R c ++ by_list R c x.blocks)
        → (first_of (by_rules R c ++ by_list R c x.blocks) ≡ 0
        → cells_after R O X (plain c) (view x) ≡ cells (origin_after (plain c) x) (referent_after (plain c) x))
        → state_step R O X (plain c) (view x) ≡ both (origin_step R (plain c) x)
    unfolding state_step origin_step shadow_step plain_step
    plainly c e q same =
        let h = split image (first_of (by_rules R c ++ by_shadows R O c (image x.blocks))) (first_of (by_rules R c ++ by_list R c x.blocks))
        (image x.blocks) x.blocks (shadows_after R O c (image x.blocks), shadow_answer R O c (image x.blocks))
        (list_after c x.blocks, list_answer R c x.blocks) (shadows.accepted-0 R O c (image x.blocks)) (lists.accepted-0 R c x.blocks)
        (step_same R G O image I x.blocks g.placed c) in
        rw (e, q, h.0) (go (first_of (by_rules R c ++ by_list R c x.blocks)) h.1 same)
      where
        go : (n : ℕ)
            → (n ≡ 0 → ◌≡◌ {A = S × Answer} (shadows_after R O c (image x.blocks), shadow_answer R O c (image x.blocks))
            (image (list_after c x.blocks), list_answer R c x.blocks))
            → (n ≡ 0 → cells_after R O X (plain c) (view x) ≡ cells (origin_after (plain c) x) (referent_after (plain c) x))
            → unless n (view x) (state_after R O X (plain c) (view x), state_answer R O X (plain c) (view x))
            ≡ both (unless n x (origins_after (plain c) x, origin_answer R (plain c) x))
        go zero p t =
            let u : shadows_after R O c (image x.blocks) ≡ image (list_after c x.blocks) = ap (λ (y : S × Answer). y.0) (p refl) in
            let v : shadow_answer R O c (image x.blocks) ≡ list_answer R c x.blocks = ap (λ (y : S × Answer). y.1) (p refl) in
            rw (u, v, t refl)
        go (suc n) p t = refl

    clear-same : state_step R O X (plain clear) (view x) ≡ both (origin_step R (plain clear) x)
    clear-same = plainly clear refl refl (λ z. sym J.image_cleared)

    -- the cells of the block of a base, by its reading
    ends-cells : (y : ℕ) → any (has_base y) x.blocks ≡ true
        → X.zeroed (cells x.origin x.referent) y (length_of (read_any R O (image x.blocks) y))
        ≡ cells (without_block (find (has_base y) x.blocks) x.origin) (without_block (find (has_base y) x.blocks) x.referent)
    ends-cells y e =
        ap (λ (r : Reading). X.zeroed (cells x.origin x.referent) y (length_of r)) (reads y) ∙ go (find (has_base y) x.blocks) refl e
      where
        go : (o : Option Block) → find (has_base y) x.blocks ≡ o → found o ≡ true
            → X.zeroed (cells x.origin x.referent) y (length_of (lookup x.blocks y)) ≡ cells (without_block o x.origin) (without_block o x.referent)
        go none q e = absurd (false≢true e)
        go (some d) q e =
            let s = spot_base R G x.blocks g.placed y d q in
            let t = there R G x.blocks g.placed y y (len d) s in
            let f = find-facts R G x.blocks 0 (has_base y) d g.placed q in
            let z : d.base ≡ y = eqb-true d.base y f.so in
            rw (long (find (contains y) x.blocks) s, z) (J.image_zeroed x.origin x.referent y (len d) t.some t.fits)
          where
            long : (o : Option Block) → own_of (λ b a. taken b.base (len b)) vacant y o ≡ taken y (len d) → length_of (says y o) ≡ len d
            long none e = absurd (let z : ◌≡◌ {A = ℕ} 0 1 = cc in omega arith)
            long (some b) e = let z : len b ≡ len d = cc in z

    begin-same : (h : Beginning) (b l : ℕ) → state_step R O X (plain (begin h b l)) (view x) ≡ both (origin_step R (plain (begin h b l)) x)
    unfolding state_step origin_step
    begin-same h b l =
        go (test (eqb l 0)) (test (allows R h b l)) (test (R.aligned b)) (test (is_cell b)) (test (any (meets R b l) x.blocks)) (test (is_origin x.counter))
      where
        now : OriginList
        now = origins_after (plain (begin h b l)) x

        then : State S C
        then = state_after R O X (plain (begin h b l)) (view x)

        some : eqb l 0 ≡ false → 1 ≤ l
        some n = let z = eqb-false l 0 n in omega arith

        room : allows R h b l ≡ true → R.fits b l ≡ true
        room f = (and-true (R.fits b l) (not (starts_literal h && R.heap b)) f).0

        go : Test (eqb l 0) → Test (allows R h b l) → Test (R.aligned b) → Test (is_cell b) → Test (any (meets R b l) x.blocks) → Test (is_origin x.counter)
            → unless (cond (eqb l 0) 3 (cond (not (allows R h b l)) 4 (cond (not (R.aligned b)) 5 (cond (not (is_cell b)) 5
            (cond (not (O.vacant (image x.blocks) b l)) 6 (cond (not (is_origin x.counter)) 12 0)))))) (view x) (then, done)
            ≡ both (unless (cond (eqb l 0) 3 (cond (not (allows R h b l)) 4 (cond (not (R.aligned b)) 5 (cond (not (is_cell b)) 5
            (cond (any (meets R b l) x.blocks) 6 (cond (not (is_origin x.counter)) 12 0)))))) x (now, done))
        go (is_true n) f a c m k = rw n
        go (is_false n) (is_false f) a c m k = rw (n, f)
        go (is_false n) (is_true f) (is_false a) c m k = rw (n, f, a)
        go (is_false n) (is_true f) (is_true a) (is_false c) m k = rw (n, f, a, c)
        go (is_false n) (is_true f) (is_true a) (is_true c) (is_true m) k =
            rw (n, f, a, c, I.image_vacant x.blocks g.placed b l (some n) (room f) a, m)
        go (is_false n) (is_true f) (is_true a) (is_true c) (is_false m) (is_false k) =
            rw (n, f, a, c, I.image_vacant x.blocks g.placed b l (some n) (room f) a, m, k)
        go (is_false n) (is_true f) (is_true a) (is_true c) (is_false m) (is_true k) =
            let o = some n in
            let ln = length-replicate l (starts_written h) in
            rw (
              n,
              f,
              a,
              c,
              I.image_vacant x.blocks g.placed b l o (room f) a,
              m,
              k,
              I.image_stamp x.blocks g.placed (begun h b l) (rw ln o) (rw ln (room f)) a (rw ln m),
              J.image_set_origin x.origin x.referent b x.counter (base-inside R G b l o (room f)),
              aligned-cell b (eqb-true (b % 4) 0 c),
            )

    plain-same : (c : base.Call) → state_step R O X (plain c) (view x) ≡ both (origin_step R (plain c) x)
    plain-same clear = clear-same
    plain-same (begin h b l) = begin-same h b l
    plain-same (free zero) = plainly (free zero) refl refl (λ z. refl)
    plain-same (free (suc y)) = plainly (free (suc y)) refl refl (λ z. ends-cells (suc y) (free-accepted R y x.blocks z).2)
    plain-same (remove y) = plainly (remove y) refl refl (λ z. ends-cells y (remove-accepted R y x.blocks z).1)
    plain-same (written a n) = plainly (written a n) refl refl (λ z. refl)
    plain-same (ask a) = plainly (ask a) refl refl (λ z. refl)
    plain-same (valid w a n from) = plainly (valid w a n from) refl refl (λ z. refl)
    plain-same (initialised a n) = plainly (initialised a n) refl refl (λ z. refl)
    plain-same (next a) = plainly (next a) refl refl (λ z. refl)
    plain-same audit = plainly audit refl refl (λ z. refl)
    plain-same (place l k) = plainly (place l k) refl refl (λ z. refl)

    -- ---- kinds 11 to 13

    undamaged : (a : ℕ) → is_damaged (read_any R O (image x.blocks) a) ≡ false
    undamaged a = rw (reads a) (go (find (contains a) x.blocks))
      where
        go : (o : Option Block) → is_damaged (says a o) ≡ false
        go none = refl
        go (some b) = refl

    -- a pointer can stand where it can on the list
    pointer : (c : ℕ) → is_pointer R O X (view x) c ≡ can_point x c
    pointer c = rw (reads c, any-four R G x.blocks g.placed c) (ap (λ t. is_cell c && t) (go (find (contains c) x.blocks)))
      where
        go : (o : Option Block) → in_one 4 (says c o) ≡ has_four c (own_of (λ b a. taken b.base (len b)) vacant c o)
        go none = refl
        go (some b) = refl

    -- the origin of the block at an address
    origin-at : (a : ℕ) → origin_read X (cells x.origin x.referent) (read_any R O (image x.blocks) a) ≡ origin_held x a
    origin-at a = rw (reads a) (go (find (contains a) x.blocks) refl)
      where
        go : (o : Option Block) → find (contains a) x.blocks ≡ o → origin_read X (cells x.origin x.referent) (says a o) ≡ origin_found x.origin o
        go none e = refl
        go (some b) e =
            let h = g.keeps.based a b.base (len b) (rw e) in
            let f = find-facts R G x.blocks 0 (contains a) b g.placed e in
            J.image_origin x.origin x.referent (small-origin R G x g) b.base (base-inside R G b.base (len b) f.some f.fits)
            ∙ ap x.origin (aligned-cell b.base h.0)

    -- a pointer's referent
    referent-at : (c : ℕ) → R.inside c ≡ true → c % 4 ≡ 0 → X.referent (cells x.origin x.referent) c ≡ x.referent c
    referent-at c i e = J.image_referent x.origin x.referent (small-referent R G x g) c i ∙ ap x.referent (aligned-cell c e)

    refers : (c v : ℕ) → R.inside c ≡ true → c % 4 ≡ 0 → X.set_referent (cells x.origin x.referent) c v ≡ cells x.origin (put c v x.referent)
    refers c v i e = J.image_set_referent x.origin x.referent c v i ∙ rw (aligned-cell c e)

    -- the first three numbers, and then what the call does
    point-same : (c a : ℕ) → state_step R O X (point c a) (view x) ≡ both (origin_step R (point c a) x)
    unfolding state_step origin_step
    point-same c a = rw (undamaged c, undamaged a, pointer c) (ap does (origin-at a) ∙ go (test (R.inside c)) (test (can_point x c)))
      where
        does : (referent : ℕ) → State S C × Answer
        does v =
            unless (cond (not (R.inside c)) 4 (cond (not (can_point x c)) 11 0)) (view x)
            (record { shadows = image x.blocks; cells = X.set_referent (cells x.origin x.referent) c v; counter = x.counter }, done)

        go : Test (R.inside c) → Test (can_point x c)
            → does (origin_held x a)
            ≡ both (unless (cond (not (R.inside c)) 4 (cond (not (can_point x c)) 11 0)) x (origins_after (point c a) x, done))
        go (is_false i) p = rw i
        go (is_true i) (is_false p) = rw (i, p)
        go (is_true i) (is_true p) = rw (i, p, refers c (origin_held x a) i (can-point R G x c g.placed p).0)

    copy-same : (t f : ℕ) → state_step R O X (copy t f) (view x) ≡ both (origin_step R (copy t f) x)
    unfolding state_step origin_step
    copy-same t f = rw (undamaged t, undamaged f, pointer t, pointer f) (go (test (R.inside t)) (test (R.inside f)) (test (can_point x t)) (test (can_point x f)))
      where
        does : State S C
        does = record { shadows = image x.blocks; cells = X.set_referent (cells x.origin x.referent) t (X.referent (cells x.origin x.referent) f); counter = x.counter }

        go : Test (R.inside t) → Test (R.inside f) → Test (can_point x t) → Test (can_point x f)
            → unless (cond (not (R.inside t) || not (R.inside f)) 4 (cond (not (can_point x t) || not (can_point x f)) 11 0)) (view x) (does, done)
            ≡ both (unless (cond (not (R.inside t) || not (R.inside f)) 4 (cond (not (can_point x t) || not (can_point x f)) 11 0)) x (origins_after (copy t f) x, done))
        go (is_false i) j p q = rw i
        go (is_true i) (is_false j) p q = rw (i, j)
        go (is_true i) (is_true j) (is_false p) q = rw (i, j, p)
        go (is_true i) (is_true j) (is_true p) (is_false q) = rw (i, j, p, q)
        go (is_true i) (is_true j) (is_true p) (is_true q) =
            rw (
              i,
              j,
              p,
              q,
              referent-at f j (can-point R G x f g.placed q).0,
              refers t (x.referent f) i (can-point R G x t g.placed p).0,
            )

    live_same : (c a : ℕ) → state_step R O X (live c a) (view x) ≡ both (origin_step R (live c a) x)
    unfolding state_step origin_step
    live_same c a = rw (undamaged c, undamaged a, pointer c, origin-at a) (go (test (R.inside c)) (test (can_point x c)))
      where
        go : Test (R.inside c) → Test (can_point x c)
            → unless (cond (not (R.inside c)) 4 (cond (not (can_point x c)) 11 0)) (view x)
            (view x, yes_no (not (eqb (X.referent (cells x.origin x.referent) c) 0) && eqb (origin_held x a) (X.referent (cells x.origin x.referent) c)))
            ≡ both (unless (cond (not (R.inside c)) 4 (cond (not (can_point x c)) 11 0)) x (x, yes_no (points_into x c a)))
        go (is_false i) p = rw i
        go (is_true i) (is_false p) = rw (i, p)
        go (is_true i) (is_true p) = rw (i, p, referent-at c i (can-point R G x c g.placed p).0)

    -- every call
    pub state-same : (c : Call) → state_step R O X c (view x) ≡ both (origin_step R c x)
    state-same (plain c) = plain-same c
    state-same (point c a) = point-same c a
    state-same (copy t f) = copy-same t f
    state-same (live c a) = live_same c a

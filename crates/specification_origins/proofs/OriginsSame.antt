-- The calls of the form with origins are the ones that the library is proved against, on every map, argument, shadow, cell and counter.
-- Assumes nothing.
use mathlib.Core.Path.{◌≡◌, refl, ap, ◌∙◌}
use mathlib.Core.Bool.{Bool, true, false, cond, not, ◌&&◌, ◌||◌}
use mathlib.Core.List.{List, ◌++◌, append-nil}
use Prim.Native.Nat.{ℕ, zero, suc, ◌%◌}
use native.Mathlib.Omega.{arith}
use lib.Dec.{leb, eqb}
use borrow.Author.Tests.{ne_eqb}
use Rattle.number.proofs.TestLaws.{Test, is_true, is_false, test, and-true}
use Rattle.map.specs.declared.Form.TheVariants.{Player}
use Rattle.map.specs.FormMap as library
use Rattle.map.specs.Map.{good_map}
use Rattle.types.specs.declared.Beginning.{Beginning}
use Rattle.types.specs.Reading.{Reading, nothing, block, damaged}
use Rattle.types.specs.Call as plains
use Rattle.types.specs.Call.{clear, begin, free, remove, written, ask, valid, initialised, next, audit, place, Answer, number, done, Refusal, first_of, unless}
use Rattle.types.specs.Origins.{Call, plain, point, copy, live}
use Rattle.plain.specs.Areas.{map_rules}
use Rattle.plain.specs.Call.{allows, is_stack, by_rules}
use Rattle.plain.specs.Ops.{Ops, read_any}
use Rattle.plain.specs.Rules.{Rules}
use Rattle.plain.specs.ShadowCalls as shadow
use Rattle.plain.specs.ShadowCalls.{by_shadows, shadows_after, shadow_answer}
use Rattle.plain.proofs.AnswerLaws.{accepted-0}
use Rattle.shadows.specs.Shadows.{lengths_fit, shadow_ops}
use Rattle.monitor_base.specs.Calls as monitor
use Rattle.cells_layout.specs.Cells.{cell_ops, cells_fit}
use Rattle.origins_list.specs.Call.{role_of}
use Rattle.origins_list.specs.Call as role
use Rattle.origins_list.specs.CellOps.{CellOps}
use Rattle.origins_list.specs.StateCalls.{origin_read}
use Rattle.origins_base.specs.Calls as base
use Rattle.specification.specs.Map.{Map, Shadows, good, right_lengths}
use Rattle.specification.specs.Heap.{player}
use Rattle.specification.specs.Readings as readings
use Rattle.specification.proofs.MapSame.{good-same, lengths-same}
use Rattle.specification.proofs.CallSame.{reading-same}
use Rattle.specification.proofs.Same.{player-call}
use Rattle.specification_origins.specs.Cells.{Cells, right_cells, without_cells}
use Rattle.specification_origins.specs.Origins.{Lent, does, ends, leaves, with_cells, origin_of, call}
use Rattle.specification_origins.proofs.CellsSame.{right-same, origin-same, referent-same, set-origin, set-referent, without-same}

-- ---- what a plain kind is, here and in the library

-- one that ends a block is refused where its base is in neither area
pub data Kind : plains.Call → Type 0 where
  clearing : Kind clear
  recording : (how : Beginning) (b l : ℕ) → Kind (begin how b l)
  ending : (c : plains.Call) (b : ℕ) → does c ≡ ends b → role_of c ≡ role.ends b
      → ((R : Rules) (more : List Refusal) → first_of (by_rules R c ++ more) ≡ 0 → R.inside b ≡ true) → Kind c
  leaving : (c : plains.Call) → does c ≡ leaves → role_of c ≡ role.leaves → Kind c

not-4 : (t : Bool) (k : ℕ) → cond (not t) 4 k ≡ 0 → t ≡ true
not-4 true k e = refl
not-4 false k e = absurd (omega arith)

pub kind : (c : plains.Call) → Kind c
kind clear = clearing
kind (begin how b l) = recording how b l
kind (free zero) = leaving (free zero) refl refl
kind (free (suc b)) = ending (free (suc b)) (suc b) refl refl (λ R more e. not-4 (R.inside (suc b)) _ e)
kind (remove b) = ending (remove b) b refl refl (λ R more e. (and-true (R.inside b) (not (R.heap b)) (not-4 (is_stack R b) _ e)).0)
kind (written a n) = leaving (written a n) refl refl
kind (ask a) = leaving (ask a) refl refl
kind (valid w a n from) = leaving (valid w a n from) refl refl
kind (initialised a n) = leaving (initialised a n) refl refl
kind (next a) = leaving (next a) refl refl
kind audit = leaving audit refl refl
kind (place l k) = leaving (place l k) refl refl

-- ---- the order of refusals. g, f, c: the map is good, shadows and cells have their lengths

-- 1, 2, or the first of the other numbers
abbrev pub early : (g f c : Bool) → ℕ → ℕ
early g f c k = cond (not g) 1 (cond (not f) 2 (cond (not c) 2 k))

-- a plain call by itself, j its first other number; and with cells beside it, r what it gave, own what follows from its number
abbrev pub alone : {S : Type 0} → (g f : Bool) (j : ℕ) → S → S × Answer → S × Answer
alone g f j s r = unless (cond (not g) 1 (cond (not f) 2 j)) s r

abbrev pub beside : {S X : Type 0} → (g f c : Bool) (own : ℕ → ℕ) → X → (S → X) → S × Answer → X × Answer
beside g f c own x mk r = unless (early g f c (own (number r.1))) x (mk r.0, r.1)

-- a call that records nothing
pub carried : {S X : Type 0} (g f c : Bool) (j : ℕ) (s after : S) (r : Answer) (x z : X) (mk : S → X) → number r ≡ 0 → (g ≡ true → j ≡ 0 → mk after ≡ z)
    → beside g f c (λ k. cond (not (eqb k 0)) k 0) x mk (alone g f j s (after, r)) ≡ unless (early g f c j) x (z, r)
carried false f c j s after r x z mk e k = refl
carried true false c j s after r x z mk e k = refl
carried true true false zero s after r x z mk e k = refl
carried true true false (suc j) s after r x z mk e k = refl
carried true true true zero s after r x z mk e k = rw (e, k refl refl)
carried true true true (suc j) s after r x z mk e k = rw (ne_eqb (suc j) 0 (λ i. omega arith))

-- a recording: t₃ to t₆ are its conditions in the plain form, u that of 5 for a base that is no multiple of 4, v that of 12
pub recorded : {S X : Type 0} (g f c t₃ t₄ t₅ u t₆ v : Bool) (s after : S) (x : X) (mk : S → X)
    → beside g f c (λ k. cond (leb 1 k && leb k 5) k (cond u 5 (cond (not (eqb k 0)) k (cond v 12 0)))) x mk
    (alone g f (cond t₃ 3 (cond t₄ 4 (cond t₅ 5 (cond t₆ 6 0)))) s (after, done))
    ≡ unless (early g f c (cond t₃ 3 (cond t₄ 4 (cond t₅ 5 (cond u 5 (cond t₆ 6 (cond v 12 0))))))) x (mk after, done)
recorded false f c t₃ t₄ t₅ u t₆ v s after x mk = refl
recorded true false c t₃ t₄ t₅ u t₆ v s after x mk = refl
recorded true true false t₃ t₄ t₅ u t₆ v s after x mk = refl
recorded true true true true t₄ t₅ u t₆ v s after x mk = refl
recorded true true true false true t₅ u t₆ v s after x mk = refl
recorded true true true false false true u t₆ v s after x mk = refl
recorded true true true false false false true true v s after x mk = refl
recorded true true true false false false true false v s after x mk = refl
recorded true true true false false false false true v s after x mk = refl
recorded true true true false false false false false true s after x mk = refl
recorded true true true false false false false false false s after x mk = refl

-- 2 twice is 2 once
twice : (f c : Bool) (k : ℕ) → cond (not f || not c) 2 k ≡ cond (not f) 2 (cond (not c) 2 k)
twice true c k = refl
twice false c k = refl

pub not-and : (s t : Bool) → (not s || not t) ≡ not (s && t)
not-and true t = refl
not-and false t = refl

-- ---- the calls

module _ (m : Map) (x : Lent) where
  abbrev R : Rules
  R = map_rules (library.player m)

  abbrev O : Ops Shadows
  O = shadow_ops (library.player m)

  abbrev X : CellOps Cells
  X = cell_ops m

  abbrev s : Shadows
  s = x.shadows

  abbrev y : Cells
  y = x.cells

  abbrev G : Bool
  G = good_map (library.player m)

  abbrev L : Bool
  L = lengths_fit (library.player m) s

  abbrev C : Bool
  C = cells_fit m y

  reads : G ≡ true → (a : ℕ) → readings.reading player m s a ≡ read_any R O s a
  reads g a = reading-same Player m s g a

  early-same : (k : ℕ) → cond (not (good m)) 1 (cond (not (right_lengths m s) || not (right_cells m y)) 2 k) ≡ early G L C k
  early-same k = rw (good-same Player m, lengths-same Player m s, right-same m y, twice L C k)

  -- the state with other block shadows
  abbrev like : Cells → (counter : ℕ) → Shadows → Lent
  like cells k t = record { shadows = t; cells = cells; counter = k }

  with-same : {c : plains.Call} → Kind c → with_cells m c x (monitor.call (library.player m) c s) ≡ base.call m (plain c) x
  unfolding monitor.call base.call
  with-same clearing =
      rw (early-same _)
      (carried G L C 0 s O.cleared done x (like X.cleared x.counter O.cleared) (like X.cleared x.counter) refl (λ g z. refl))
  with-same (recording how b l) =
      rw (early-same _, set-origin m y b x.counter)
      (recorded G L C (eqb l 0) (not (allows R how b l)) (not (R.aligned b)) (not (eqb (b % 4) 0)) (not (O.vacant s b l)) (not (role.is_origin x.counter))
      s (shadows_after R O (begin how b l) s) x (like (X.set_origin y b x.counter) (suc x.counter)))
  with-same (ending c b d r i) =
      let after : Shadows = shadows_after R O c s in
      let ended : ℕ = shadow.length_of (read_any R O s b) in
      let here : ℕ = readings.length_of (readings.reading player m s b) in
      rw (d, r, early-same _, append-nil (by_shadows R O c s))
      (carried G L C (first_of (by_rules R c ++ by_shadows R O c s)) s after (shadow_answer R O c s) x (like (X.zeroed y b ended) x.counter after)
      (like (without_cells m y b here) x.counter) (accepted-0 R O c s)
      (λ g z. rw (reads g b, without-same m y b ended (i R (by_shadows R O c s) z))))
  with-same (leaving c d r) =
      let after : Shadows = shadows_after R O c s in
      rw (d, r, early-same _, append-nil (by_shadows R O c s))
      (carried G L C (first_of (by_rules R c ++ by_shadows R O c s)) s after (shadow_answer R O c s) x (like y x.counter after) (like y x.counter) (accepted-0 R O c s) (λ g z. refl))

  origin-of : (r : Reading) → origin_of m y r ≡ origin_read X y r
  origin-of nothing = refl
  origin-of (block b l o w t) = origin-same m y b
  origin-of damaged = refl

  when-good : G ≡ true → (c : Call) → call m c x ≡ base.call m c x
  unfolding call base.call
  when-good g (plain c) = ap (with_cells m c x) (player-call m c s) ∙ with-same (kind c)
  when-good g (point c a) =
      rw (
        early-same _,
        reads g c,
        reads g a,
        origin-of (read_any R O s a),
        set-referent m y c (origin_read X y (read_any R O s a)),
        not-and (eqb (c % 4) 0) (shadow.in_one 4 (read_any R O s c)),
      )
  when-good g (copy t f) =
      rw (
        early-same _,
        reads g t,
        reads g f,
        referent-same m y f,
        set-referent m y t (X.referent y f),
        not-and (eqb (t % 4) 0) (shadow.in_one 4 (read_any R O s t)),
        not-and (eqb (f % 4) 0) (shadow.in_one 4 (read_any R O s f)),
      )
  when-good g (live c a) =
      rw (
        early-same _,
        reads g c,
        reads g a,
        origin-of (read_any R O s a),
        referent-same m y c,
        not-and (eqb (c % 4) 0) (shadow.in_one 4 (read_any R O s c)),
      )

  when-bad : G ≡ false → (c : Call) → call m c x ≡ base.call m c x
  unfolding call base.call
  when-bad b (plain c) = rw (good-same Player m, b)
  when-bad b (point c a) = rw (good-same Player m, b)
  when-bad b (copy t f) = rw (good-same Player m, b)
  when-bad b (live c a) = rw (good-same Player m, b)

pub call_same : (m : Map) (c : Call) (x : Lent) → call m c x ≡ base.call m c x
call_same m c x = go (test (good_map (library.player m)))
  where
    go : Test (good_map (library.player m)) → call m c x ≡ base.call m c x
    go (is_true g) = when-good m x g c
    go (is_false b) = when-bad m x b c

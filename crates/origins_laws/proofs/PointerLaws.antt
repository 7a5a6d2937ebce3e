-- The calls of pointers, by what is read where their addresses lie. Assumes nothing.
use mathlib.Core.Path.{◌≡◌, refl, sym, ap, ◌∙◌}
use mathlib.Core.Bool.{Bool, true, false, not, ◌&&◌, ◌||◌}
use mathlib.Core.Logic.{◌≢◌}
use Prim.Native.Nat.{ℕ, zero, suc}
use native.Mathlib.Omega.{arith}
use lib.Dec.{eqb}
use Rattle.number.proofs.TestLaws.{Test, is_true, is_false, test}
use Rattle.map.specs.declared.Map.{Map}
use Rattle.map.specs.FormMap.{player}
use Rattle.map.specs.Map.{good_map}
use Rattle.plain.specs.Areas.{map_rules}
use Rattle.plain.specs.Reading.{Reading, nothing, block, damaged}
use Rattle.plain.specs.Ops.{read_any}
use Rattle.plain.specs.Call.{Answer, refusal, done, yes_no, first_of, unless}
use Rattle.plain.specs.ShadowCalls.{is_damaged, in_one}
use Rattle.shadows.specs.Shadows.{Shadows, lengths_fit, shadow_ops}
use Rattle.map.specs.declared.Located.{Located}
use Rattle.map.specs.declared.Located.TheVariants.{Heap, Stack, Outside}
use Rattle.map.specs.Locating.{Lies}
use Rattle.monitor_base.proofs.LocatingLaws.{read-heap, read-stack, read_out}
use Rattle.monitor_read_laws.specs.Asked.{reading_at}
use Rattle.monitor_read_laws.proofs.JudgingLaws.{up-damaged, up_one}
use Rattle.origins_list.specs.Call.{Call, point, copy, live}
use Rattle.origins_list.specs.StateCalls.{state_after, state_answer}
use Rattle.cells_layout.specs.Cells.{Cells, cells_fit, cell_ops}
use Rattle.origins_base.specs.Calls.{State, refusals, call}
use Rattle.origins_base.proofs.CallLaws.{early}
use Rattle.origins_laws.specs.CellsAt.{CellAt, referent_at, set_referent_at, origin_at}
use Rattle.origins_laws.specs.Pointers.{BaseAt, point_refusal, copy_refusal, point_number, copy_number, origin_held, CellLies}
use Rattle.origins_laws.proofs.AtLaws.{referent-at, set-referent-at, heap-base, stack-base, cells-at-heap, cells-at-stack, origin-at}

-- neither of two cells is refused
pub both-pointers : (p q : Bool) → (not p || not q) ≡ not (p && q)
both-pointers true q = refl
both-pointers false q = refl

-- ---- any call, by its number

module _ (m : Map) (c : Call) (x : State) (k : ℕ) where
  pub number-early : k ≡ early m x → k ≢ 0 → k ≡ first_of (refusals m c x)
  number-early e n = go (test (good_map (player m))) (test (lengths_fit (player m) x.shadows)) (test (cells_fit m x.cells))
    where
      go : Test (good_map (player m)) → Test (lengths_fit (player m) x.shadows) → Test (cells_fit m x.cells) → k ≡ first_of (refusals m c x)
      go (is_false g) l f = rw g (rw g at e)
      go (is_true g) (is_false l) f = rw (g, l) (rw (g, l) at e)
      go (is_true g) (is_true l) (is_false f) = rw (g, l, f) (rw (g, l, f) at e)
      go (is_true g) (is_true l) (is_true f) = absurd (n (rw (g, l, f) at e))

  abbrev after : State × Answer
  after = (state_after (map_rules (player m)) (shadow_ops (player m)) (cell_ops m) c x, state_answer (map_rules (player m)) (shadow_ops (player m)) (cell_ops m) c x)

  pub call-refused : k ≡ first_of (refusals m c x) → k ≢ 0 → call m c x ≡ (x, refusal k)
  unfolding call
  call-refused e n = go (first_of (refusals m c x)) e
    where
      go : (j : ℕ) → k ≡ j → unless j x after ≡ (x, refusal k)
      go zero q = absurd (n q)
      go (suc j) q = rw q

  pub call-accepted : k ≡ first_of (refusals m c x) → k ≡ 0 → call m c x ≡ after
  unfolding call
  call-accepted e z = ap (λ j. unless j x after) (sym e ∙ z)

-- ---- right map and lengths

module _ (m : Map) (s : Shadows) (x : Cells) (ok : good_map (player m) ≡ true) (fit : lengths_fit (player m) s ≡ true) (cells : cells_fit m x ≡ true) where
  abbrev read : Located → Reading
  read l = reading_at 4 8 l s.0 s.1.0 s.1.1

  abbrev read_of : ℕ → Reading
  read_of a = read_any (map_rules (player m)) (shadow_ops (player m)) s a

  -- what the readings of an address and of where it lies both tell
  read-damaged : (a : ℕ) (l : Located) → Lies m a l → is_damaged (read_of a) ≡ is_damaged (read l)
  read-damaged a (Heap p) e = ap is_damaged (read-heap (player m) s ok fit a p.0 e.0 e.1).0 ∙ up-damaged m.heap_start (read (Heap p))
  read-damaged a (Stack p) e = ap is_damaged (read-stack (player m) s ok fit a p.0 e.0 e.1).0 ∙ up-damaged m.stack_start (read (Stack p))
  read-damaged a Outside e = ap is_damaged (read_out (player m) s a e).0

  read_one : (n a : ℕ) (l : Located) → Lies m a l → in_one n (read_of a) ≡ in_one n (read l)
  read_one n a (Heap p) e = ap (in_one n) (read-heap (player m) s ok fit a p.0 e.0 e.1).0 ∙ up_one n m.heap_start (read (Heap p))
  read_one n a (Stack p) e = ap (in_one n) (read-stack (player m) s ok fit a p.0 e.0 e.1).0 ∙ up_one n m.stack_start (read (Stack p))
  read_one n a Outside e = ap (in_one n) (read_out (player m) s a e).0

  inside : (a : ℕ) (l : Located) → Lies m a l → (l ≡ Outside → ⊥) → (map_rules (player m)).inside a ≡ true
  inside a (Heap p) e n = (read-heap (player m) s ok fit a p.0 e.0 e.1).1
  inside a (Stack p) e n = (read-stack (player m) s ok fit a p.0 e.0 e.1).1
  inside a Outside e n = absurd (n refl)

  -- the base of a block that is read has a cell
  base-at : (a : ℕ) (l : Located) → Lies m a l → BaseAt l (read l) x
  base-at a (Heap p) e = go (read (Heap p)) refl
    where
      go : (r : Reading) → read (Heap p) ≡ r → BaseAt (Heap p) r x
      go nothing q = tt
      go damaged q = tt
      go (block b l o w k) q = let h = cells-at-heap m s x ok fit cells 0 0 (omega arith) in ((heap-base m s x ok fit cells p.0 b l o w k q).1, h.1, h.2)
  base-at a (Stack p) e = go (read (Stack p)) refl
    where
      go : (r : Reading) → read (Stack p) ≡ r → BaseAt (Stack p) r x
      go nothing q = tt
      go damaged q = tt
      go (block b l o w k) q = let h = cells-at-stack m s x ok fit cells 0 0 (omega arith) in ((stack-base m s x ok fit cells p.0 b l o w k q).1, h.1, h.2)
  base-at a Outside e = tt

  -- its origin is that of the block that holds the address
  pub origin-held : (a : ℕ) (l : Located) → Lies m a l → (r : Reading) → r ≡ read l → (v : ℕ) → v ≡ origin_at l r x → v ≡ origin_held m s x a
  origin-held a l e r er v ev = ev ∙ ap (λ r. origin_at l r x) er ∙ sym (origin-at m s x ok fit cells a l e)

  pub has_base : (a : ℕ) (l : Located) → Lies m a l → (r : Reading) → r ≡ read l → BaseAt l r x
  has_base a l e r er = rw er (base-at a l e)

  -- ---- the numbers

  pub point_number_lem : (c a : ℕ) (l k : Located) → Lies m c l → Lies m a k → (l ≡ Outside → ⊥) → (r q : Reading) → r ≡ read l → q ≡ read k
      → (z : ℕ) → z ≡ point_refusal c r q → z ≡ point_number m s x c a
  point_number_lem c a l k e d n r q er eq z ez = ez ∙ rw (er, eq, ok, fit, cells, inside c l e n, read-damaged c l e, read-damaged a k d, read_one 4 c l e)

  pub point-number-4 : (c a : ℕ) → Lies m c Outside → 4 ≡ point_number m s x c a
  point-number-4 c a e = rw (ok, fit, cells, (read_out (player m) s c e).1)

  module _ (t f : ℕ) where
    pub copy_number_lem : (l k : Located) → Lies m t l → Lies m f k → (l ≡ Outside → ⊥) → (k ≡ Outside → ⊥) → (r q : Reading) → r ≡ read l → q ≡ read k
        → (z : ℕ) → z ≡ copy_refusal t f r q → z ≡ copy_number m s x t f
    copy_number_lem l k e d n o r q er eq z ez =
        ez ∙ rw (er, eq, ok, fit, cells, inside t l e n, inside f k d o, read-damaged t l e, read-damaged f k d, read_one 4 t l e, read_one 4 f k d)

    pub copy-number-to : Lies m t Outside → 4 ≡ copy_number m s x t f
    copy-number-to e = rw (ok, fit, cells, (read_out (player m) s t e).1)

    pub copy-number-from : (l : Located) → Lies m t l → (l ≡ Outside → ⊥) → Lies m f Outside → 4 ≡ copy_number m s x t f
    copy-number-from l e n d = rw (ok, fit, cells, inside t l e n, (read_out (player m) s f d).1)

-- ---- the calls, by the number that the check gave, and the answer

module _ (m : Map) (s : Shadows) (x : Cells) (b : Answer) (n : ℕ) where
  abbrev state : Cells → State
  state y = record { shadows = s; cells = y; counter = n }

  refuses : (c : Call) (k : ℕ) → k ≡ first_of (refusals m c (state x)) → k ≢ 0 → b ≡ refusal k → (state x, b) ≡ call m c (state x)
  refuses c k e z eb = ap (λ b. (state x, b)) eb ∙ sym (call-refused m c (state x) k e z)

  not-out : (l : Located) → CellAt l x → l ≡ Outside → ⊥
  not-out l h e = rw e at h

  module _ (c a k : ℕ) (e : k ≡ point_number m s x c a) where
    pub point-refused : k ≢ 0 → b ≡ refusal k → (state x, b) ≡ call m (point c a) (state x)
    point-refused = refuses (point c a) k e

    pub live-refused : k ≢ 0 → b ≡ refusal k → (state x, b) ≡ call m (live c a) (state x)
    live-refused = refuses (live c a) k e

    module _ (z : k ≡ 0) (l : Located) (h : CellLies m s x c l) (v : ℕ) (ev : v ≡ origin_held m s x a) where
      pub point-done : (y : Cells) → y ≡ set_referent_at l v x → b ≡ done → (state y, b) ≡ call m (point c a) (state x)
      point-done y ey eb = rw (eb, ey, call-accepted m (point c a) (state x) k e z, ← ev, set-referent-at m x c l v h.0 (not-out l h.1))

      pub live-done : (r : ℕ) → r ≡ referent_at l x → b ≡ yes_no (not (eqb r 0) && eqb v r) → (state x, b) ≡ call m (live c a) (state x)
      live-done r er eb = rw (eb, er, call-accepted m (live c a) (state x) k e z, ← ev, referent-at m x c l h.0 (not-out l h.1))

  module _ (t f k : ℕ) (e : k ≡ copy_number m s x t f) where
    pub copy-refused : k ≢ 0 → b ≡ refusal k → (state x, b) ≡ call m (copy t f) (state x)
    copy-refused = refuses (copy t f) k e

    module _ (z : k ≡ 0) (l : Located) (h : CellLies m s x t l) (v : ℕ) (ev : v ≡ (cell_ops m).referent x f) where
      pub copy_done : (y : Cells) → y ≡ set_referent_at l v x → b ≡ done → (state y, b) ≡ call m (copy t f) (state x)
      copy_done y ey eb = rw (eb, ey, call-accepted m (copy t f) (state x) k e z, ← ev, set-referent-at m x t l v h.0 (not-out l h.1))

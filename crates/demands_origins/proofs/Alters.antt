-- What each call of the form with origins leaves, proved: see specs/Alters.antt for what each says. Assumes nothing.
use mathlib.Core.Path.{◌≡◌, refl, sym, ◌∙◌}
use mathlib.Core.Bool.{Bool, true, false, cond, not}
use Prim.Native.Nat.{ℕ, zero, suc, ◌*◌}
use native.Mathlib.Omega.{arith}
use lib.ListN.{length, length-replicate}
use Rattle.number.proofs.TestLaws.{Test, is_true, is_false, test}
use Rattle.number.proofs.PartLaws.{length_over}
use Rattle.map.specs.declared.Map.{Map}
use Rattle.map.specs.FormMap.{player}
use Rattle.map.specs.Map.{good_map}
use Rattle.plain.specs.Areas.{map_rules}
use Rattle.plain.specs.Join.{write_one}
use Rattle.plain.specs.Call.{Answer, first_of, unless}
use Rattle.shadows.specs.Shadows.{lengths_fit, shadow_ops}
use Rattle.demands.specs.Addresses.{in_heap}
use Rattle.origins_list.specs.Call.{Call, plain, point, copy, live, Role, clears, begins, ends, leaves, role_of}
use Rattle.origins_list.specs.StateCalls.{cells_by, state_after, state_answer}
use Rattle.cells_layout.specs.Area.{set_half, zero_cells}
use Rattle.cells_layout.specs.Cells.{Cells, cells_fit, cell_ops}
use Rattle.cells_layout.proofs.FitLaws.{CellLengths, cells-fit-true}
use Rattle.origins_base.specs.Calls.{State, refusals, call}
use Rattle.demands_origins.specs.Alters.{ShadowsLeft, CellLengthsKept}

-- what an accepted call leaves and answers
abbrev does : Map → Call → State → State × Answer
does m c x = (state_after (map_rules (player m)) (shadow_ops (player m)) (cell_ops m) c x, state_answer (map_rules (player m)) (shadow_ops (player m)) (cell_ops m) c x)

-- ---- what stays

-- what a call leaves where it is accepted, it leaves where it is refused
kept : {A : Type 0} (f : State → A) (k : ℕ) (x : State) (r : State × Answer) → f r.0 ≡ f x → f (unless k x r).0 ≡ f x
kept f zero x r e = e
kept f (suc k) x r e = refl

stays : {A : Type 0} (f : State → A) (m : Map) (c : Call) (x : State) → f (does m c x).0 ≡ f x → f (call m c x).0 ≡ f x
unfolding call
stays f m c x e = kept f (first_of (refusals m c x)) x (does m c x) e

pub shadows-left : ShadowsLeft
shadows-left m c a x = (
  stays (λ (y : State). y.shadows) m (point c a) x refl,
  stays (λ (y : State). y.shadows) m (copy c a) x refl,
  stays (λ (y : State). y.shadows) m (live c a) x refl,
)

-- ---- lengths

-- y has the lengths of x
abbrev AsLong : Cells → Cells → Type 0
AsLong x y = (length y.0 ≡ length x.0) × (length y.1 ≡ length x.1)

module _ (m : Map) where
  set_long : (x : Cells) (a p q v : ℕ) → AsLong x (write_one (in_heap (player m) a) (λ h. set_half h p v) (λ h. set_half h q v) x)
  unfolding set_half
  set_long x a p q v = go (test (in_heap (player m) a))
    where
      go : Test (in_heap (player m) a) → AsLong x (write_one (in_heap (player m) a) (λ h. set_half h p v) (λ h. set_half h q v) x)
      go (is_true h) = rw h (length_over p 4 _ x.0, refl)
      go (is_false h) = rw h (refl, length_over q 4 _ x.1)

  zeroed-long : (x : Cells) (b l : ℕ) → AsLong x ((cell_ops m).zeroed x b l)
  unfolding zero_cells
  zeroed-long x b l = go (test (in_heap (player m) b))
    where
      go : Test (in_heap (player m) b) → AsLong x ((cell_ops m).zeroed x b l)
      go (is_true h) = rw h (length_over _ _ _ x.0, refl)
      go (is_false h) = rw h (refl, length_over _ _ _ x.1)

  by-role : (r : Role) (x : State) → CellLengths m x.cells → AsLong x.cells (cells_by (map_rules (player m)) (shadow_ops (player m)) (cell_ops m) r x)
  by-role clears x f = (length-replicate (2 * m.heap_size) 0 ∙ sym f.0, length-replicate (2 * m.stack_size) 0 ∙ sym f.1)
  by-role (begins b l) x f = set_long x.cells b _ _ x.counter
  by-role (ends b) x f = zeroed-long x.cells b _
  by-role leaves x f = (refl, refl)

  after-long : (c : Call) (x : State) → CellLengths m x.cells → AsLong x.cells (does m c x).0.cells
  after-long (plain c) x f = by-role (role_of c) x f
  after-long (point c a) x f = set_long x.cells c _ _ _
  after-long (copy t g) x f = set_long x.cells t _ _ _
  after-long (live c a) x f = (refl, refl)

-- where the number is 0 the cells fit
cells_fit_lem : (g f c : Bool) (k : ℕ) → cond (not g) 1 (cond (not f) 2 (cond (not c) 2 k)) ≡ 0 → c ≡ true
cells_fit_lem true true true k e = refl
cells_fit_lem true true false k e = absurd (omega arith)
cells_fit_lem true false c k e = absurd (omega arith)
cells_fit_lem false f c k e = absurd (omega arith)

pub cell-lengths-kept : CellLengthsKept
unfolding call
cell-lengths-kept m c x = go (first_of (refusals m c x)) refl
  where
    go : (k : ℕ) → first_of (refusals m c x) ≡ k → AsLong x.cells (unless k x (does m c x)).0.cells
    go zero z =
        after-long m c x (cells-fit-true m x.cells (cells_fit_lem (good_map (player m)) (lengths_fit (player m) x.shadows) (cells_fit m x.cells) _ z))
    go (suc k) z = (refl, refl)

-- Demand 3 for the form with origins, proved: see specs/Demand3.antt for what each says. Assumes nothing.
use mathlib.Core.Path.{◌≡◌, refl, sym, ap, ◌∙◌}
use mathlib.Core.Logic.{◌≢◌}
use mathlib.Core.Bool.{Bool, true, false, not, ◌&&◌, ◌||◌}
use mathlib.Core.List.{List, [], ◌∷◌}
use Prim.Native.Nat.{ℕ, ◌%◌, ◌≤◌}
use native.Mathlib.Omega.{arith}
use native.Mathlib.Nat.{sub-zero}
use Rattle.number.proofs.TestLaws.{not-both}
use Rattle.map.specs.declared.Map.{Map}
use Rattle.map.specs.FormMap.{player}
use Rattle.map.specs.Map.{good_map}
use Rattle.map.proofs.MapLaws.{good-true}
use Rattle.plain.specs.Rules.{Sound}
use Rattle.plain.specs.Areas.{map_rules}
use Rattle.plain.specs.Call.{clear, Answer, number, done}
use Rattle.plain.specs.Run.{run}
use Rattle.plain.proofs.RunLaws.{run-same, run-each}
use Rattle.shadows.specs.Shadows.{shadow_ops, image}
use Rattle.shadows.proofs.ShadowLaws.{image_fits, map-sound, shadow-images}
use Rattle.origins_list.specs.Call.{Call, plain}
use Rattle.origins_list.specs.OriginList.{OriginList, first_list, first_list_at, origin_step}
use Rattle.origins_list.specs.StateCalls.{state_step}
use Rattle.origins_list.specs.Cells.{cell_of}
use Rattle.origins_list.proofs.StepLaws.{Good, step-good}
use Rattle.origins_list.proofs.CarriedLaws.{no-8, carries, small-origin, small-referent, carried, first_good}
use Rattle.origins_list.proofs.SameLaws.{state-same}
use Rattle.cells_layout.specs.Cells.{cell_ops, cell_image}
use Rattle.cells_layout.proofs.FitLaws.{cells-image-fits}
use Rattle.cells_layout.proofs.CellImages.{cell-images}
use Rattle.origins_base.specs.Calls.{State, call, first_state_at, image_of}
use Rattle.origins_base.proofs.CallLaws.{call_step}
use Rattle.demands.specs.Addresses.{in_heap, in_stack, outside}
use Rattle.demands_origins.specs.Alters.{origin_in, referent_in}
use Rattle.demands_origins.specs.Demand3.{state_run, list_run, state_reached, list_reached, WholeRun, NoDamage, StaysCarried, ClearedRun, CellsHold}
use Rattle.demands_origins.proofs.CellLaws.{origin-words, referent-words}

within-one : (h k : Bool) → (not h && not k) ≡ false → (h || k) ≡ true
within-one true k e = refl
within-one false true e = refl
within-one false false e = absurd (not-both true refl e)

-- ---- one call

module _ (m : Map) (ok : good_map (player m) ≡ true) where
  pub sound : Sound (map_rules (player m))
  sound = map-sound (player m) ok

  abbrev pub GoodList : OriginList → Type 0
  GoodList x = Good (map_rules (player m)) sound x

  pub one-call : (x : OriginList) → GoodList x → (c : Call)
      → call m c (image_of m x) ≡ (image_of m (origin_step (map_rules (player m)) c x).0, (origin_step (map_rules (player m)) c x).1)
  one-call x g c =
      call_step m c (image_of m x) ok (image_fits (player m) x.blocks) (cells-image-fits m x.origin x.referent)
      ∙ state-same (map_rules (player m)) sound (shadow_ops (player m)) (image (player m)) (shadow-images (player m) ok) (cell_ops m) (cell_image m) (cell-images m ok) x g c

  -- what stands for the first list is the first state
  pub first-image : (k : ℕ) → image_of m (first_list_at k) ≡ first_state_at m k
  first-image k = rw ((shadow-images (player m) ok).image_nil, (cell-images m ok).image_cleared)

  -- ---- a run, from any good list

  pub run-from : (x : OriginList) → GoodList x → (cs : List Call) → state_run m (image_of m x) cs ≡ list_run m x cs
  run-from x g cs =
      run-same (image_of m) GoodList (call m) (origin_step (map_rules (player m))) (λ c y h. one-call y h c) (λ c y h. step-good (map_rules (player m)) sound y h c) cs x g

  pub reached-from : (cs : List Call) (x : OriginList) → GoodList x
      → (state_reached m (image_of m x) cs ≡ image_of m (list_reached m x cs)) × GoodList (list_reached m x cs)
  unfolding state_reached list_reached
  reached-from [] x g = (refl, g)
  reached-from (c ∷ cs) x g =
      rw (one-call x g c) (reached-from cs (origin_step (map_rules (player m)) c x).0 (step-good (map_rules (player m)) sound x g c))

  pub first-list : (k : ℕ) → 1 ≤ k → k ≤ 4294967296 → GoodList (first_list_at k)
  first-list k o n = first_good (map_rules (player m)) sound k o n

  pub reached : (k : ℕ) → 1 ≤ k → k ≤ 4294967296 → (cs : List Call)
      → (state_reached m (first_state_at m k) cs ≡ image_of m (list_reached m (first_list_at k) cs)) × GoodList (list_reached m (first_list_at k) cs)
  reached k o n cs = rw (← first-image k) (reached-from cs (first_list_at k) (first-list k o n))

  -- the two numbers of a cell
  cells_at : (x : OriginList) → GoodList x → (c : ℕ) → outside (player m) c ≡ false → c % 4 ≡ 0
      → (origin_in m (image_of m x).cells c ≡ x.origin c) × (referent_in m (image_of m x).cells c ≡ x.referent c)
  cells_at x g c i e =
      let J = cell-images m ok in
      let t : (map_rules (player m)).inside c ≡ true = within-one (in_heap (player m) c) (in_stack (player m) c) i in
      let z : cell_of c ≡ c = rw e (sub-zero c) in (
        ap (origin_in m (image_of m x).cells) (sym z) ∙ sym (origin-words m (good-true (player m) ok) (image_of m x).cells c) ∙ J.image_origin x.origin x.referent (small-origin (map_rules (player m)) sound x g) c t ∙ ap x.origin z,
        sym (referent-words m (good-true (player m) ok) (image_of m x).cells c e) ∙ J.image_referent x.origin x.referent (small-referent (map_rules (player m)) sound x g) c t ∙ ap x.referent z,
      )

-- ---- the statements

pub whole_run : WholeRun
whole_run m ok cs =
    ap (λ (x : State). state_run m x cs) (sym (first-image m ok 1)) ∙ run-from m ok first_list (first-list m ok 1 (omega arith) (omega arith)) cs

pub no_damage : NoDamage
no_damage m ok cs =
    rw (whole_run m ok cs) (run-each (image_of m) (origin_step (map_rules (player m))) (λ a. number a ≢ 8) (no-8 (map_rules (player m))) cs first_list)

pub stays_carried : StaysCarried
stays_carried m ok = (
  λ k o n. carries (map_rules (player m)) (sound m ok) (first_list_at k) (first-list m ok k o n),
  λ x C c. carries (map_rules (player m)) (sound m ok) (origin_step (map_rules (player m)) c x).0
      (step-good (map_rules (player m)) (sound m ok) x (carried (map_rules (player m)) (sound m ok) x C) c),
)

pub cleared_run : ClearedRun
unfolding run state_step origin_step
cleared_run m ok x l f = (zeros, λ o n cs. rw (zeros, first-image m ok x.counter) (ap (λ (r : List (Answer × State)). (done, first_state_at m x.counter) ∷ r) (later o n cs)))
  where
    zeros : call m (plain clear) x ≡ (first_state_at m x.counter, done)
    zeros = call_step m (plain clear) x ok l f

    later : 1 ≤ x.counter → x.counter ≤ 4294967296 → (cs : List Call) → state_run m (first_state_at m x.counter) cs ≡ list_run m (first_list_at x.counter) cs
    later o n cs =
        ap (λ (y : State). state_run m y cs) (sym (first-image m ok x.counter))
        ∙ run-from m ok (first_list_at x.counter) (first-list m ok x.counter o n) cs

pub cells_hold : CellsHold
cells_hold m ok k o n cs c i e =
    let r = reached m ok k o n cs in rw r.0 (cells_at m ok (list_reached m (first_list_at k) cs) r.1 c i e)

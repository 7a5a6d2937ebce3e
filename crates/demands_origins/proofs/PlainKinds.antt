-- The plain kinds in the form with origins, proved: see specs/PlainKinds.antt for what it says. Assumes nothing.
use mathlib.Core.Path.{◌≡◌, refl, sym, ◌∙◌}
use mathlib.Core.Bool.{Bool, true, false, cond, not}
use mathlib.Core.List.{List, [], ◌∷◌, ◌++◌}
use Prim.Native.Nat.{ℕ}
use native.Mathlib.Omega.{arith}
use Rattle.map.specs.declared.Map.{Map}
use Rattle.map.specs.FormMap.{player}
use Rattle.map.specs.Map.{good_map}
use Rattle.plain.specs.Areas.{map_rules}
use Rattle.plain.specs.Call as base
use Rattle.plain.specs.Call.{Refusal, first_of, by_rules}
use Rattle.plain.specs.ShadowCalls.{by_shadows}
use Rattle.shadows.specs.Shadows.{lengths_fit, shadow_ops}
use Rattle.monitor_base.specs.Calls as monitor
use Rattle.origins_list.specs.Call.{plain, Role, clears, begins, ends, leaves, role_of, is_cell, unaligned, used_up}
use Rattle.cells_layout.specs.Cells.{cells_fit}
use Rattle.origins_base.specs.Calls.{State, refusals, call}
use Rattle.demands_origins.specs.PlainKinds.{PlainAccepted}
use Rattle.demands_origins.proofs.Numbers.{number-first}

-- ---- a number of 0 stays 0 where refusals are left out

-- behind others
behind : (xs ys zs : List Refusal) → (first_of ys ≡ 0 → first_of zs ≡ 0) → first_of (xs ++ ys) ≡ 0 → first_of (xs ++ zs) ≡ 0
behind [] ys zs h e = h e
behind (x ∷ xs) ys zs h e = go x.1 e (behind xs ys zs h)
  where
    go : (t : Bool) → cond t x.0 (first_of (xs ++ ys)) ≡ 0 → (first_of (xs ++ ys) ≡ 0 → first_of (xs ++ zs) ≡ 0) → cond t x.0 (first_of (xs ++ zs)) ≡ 0
    go true e ih = e
    go false e ih = ih e

-- at the end
in-front : (xs ys : List Refusal) → first_of (xs ++ ys) ≡ 0 → first_of xs ≡ 0
in-front [] ys e = refl
in-front (x ∷ xs) ys e = go x.1 e (in-front xs ys)
  where
    go : (t : Bool) → cond t x.0 (first_of (xs ++ ys)) ≡ 0 → (first_of (xs ++ ys) ≡ 0 → first_of xs ≡ 0) → cond t x.0 (first_of xs) ≡ 0
    go true e ih = e
    go false e ih = ih e

-- the first: 2 of the cells, and 5 of a base that is no cell's
past_two : (t : Bool) (k : ℕ) → cond t 2 k ≡ 0 → k ≡ 0
past_two true k e = absurd (omega arith)
past_two false k e = e

past-five : (r : Role) (rs : List Refusal) → first_of (unaligned r ++ rs) ≡ 0 → first_of rs ≡ 0
past-five (begins b l) rs e = go (is_cell b) e
  where
    go : (t : Bool) → cond (not t) 5 (first_of rs) ≡ 0 → first_of rs ≡ 0
    go true e = e
    go false e = absurd (omega arith)
past-five clears rs e = e
past-five (ends x) rs e = e
past-five leaves rs e = e

-- ---- accepted here, accepted in the plain form

plain-first : (m : Map) (c : base.Call) (x : State) → first_of (refusals m (plain c) x) ≡ 0 → first_of (monitor.refusals (player m) c x.shadows) ≡ 0
plain-first m c x =
    let (rules, own) : List Refusal × List Refusal = (by_rules (map_rules (player m)) c, by_shadows (map_rules (player m)) (shadow_ops (player m)) c x.shadows) in
    let last : List Refusal = used_up (role_of c) x.counter in
    let later : List Refusal = unaligned (role_of c) ++ (own ++ last) in
    let unfit : Bool = not (cells_fit m x.cells) in
    behind ((1, not (good_map (player m))) ∷ (2, not (lengths_fit (player m) x.shadows)) ∷ []) ((2, unfit) ∷ (rules ++ later)) (rules ++ own)
    (λ e. behind rules later own (λ f. in-front own last (past-five (role_of c) (own ++ last) f)) (past_two unfit (first_of (rules ++ later)) e))

pub plain_accepted : PlainAccepted
unfolding call monitor.call
plain_accepted m c x e =
    let z : first_of (refusals m (plain c) x) ≡ 0 = sym (number-first m (plain c) x) ∙ e in
    rw (z, plain-first m c x z) (refl, refl)

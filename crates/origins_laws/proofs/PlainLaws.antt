-- What a plain kind other than a recording comes to in this form, by what the plain form's call comes to. Assumes nothing.
use mathlib.Core.Path.{◌≡◌, refl, sym, ap, ◌∙◌}
use mathlib.Core.Bool.{true, false, cond, true≢false}
use Prim.Native.Nat.{ℕ, zero, suc}
use Rattle.map.specs.declared.Map.{Map}
use Rattle.map.specs.FormMap.{player}
use Rattle.map.specs.Map.{good_map}
use Rattle.plain.specs.Areas.{map_rules}
use Rattle.plain.specs.Call as base
use Rattle.plain.specs.Call.{clear, begin, free, remove, written, ask, valid, initialised, next, audit, place, Answer, refusal, first_of, unless}
use Rattle.plain.specs.ShadowCalls.{shadows_after, shadow_answer}
use Rattle.shadows.specs.Shadows.{Shadows, shadow_ops}
use Rattle.monitor_base.specs.Calls as plain_form
use Rattle.origins_list.specs.Call.{Call, plain, takes_origin}
use Rattle.origins_list.specs.StateCalls.{cells_after}
use Rattle.cells_layout.specs.Cells.{Cells, cells_fit, cell_ops}
use Rattle.origins_base.specs.Calls.{State, call}
use Rattle.origins_base.proofs.CallLaws.{call-unfit}

abbrev pub state_of : Shadows → Cells → ℕ → State
state_of s y k = record { shadows = s; cells = y; counter = k }

-- cells that do not fit
pub told-unfit : (m : Map) (c : Call) (x : State) → cells_fit m x.cells ≡ false → (j : ℕ) → j ≡ cond (good_map (player m)) 2 1 → (a : Answer) → a ≡ refusal j
    → (x, a) ≡ call m c x
told-unfit m c x f j e a h = rw (h, e, call-unfit m c x f)

-- ---- cells that fit

module _ (m : Map) (s : Shadows) (y : Cells) (k : ℕ) where
  -- the cells after an accepted call
  abbrev pub cells_of : base.Call → Cells
  cells_of c = cells_after (map_rules (player m)) (shadow_ops (player m)) (cell_ops m) (plain c) (state_of s y k)

  abbrev first : base.Call → ℕ
  first c = first_of (plain_form.refusals (player m) c s)

  abbrev after : base.Call → Shadows
  after c = shadows_after (map_rules (player m)) (shadow_ops (player m)) c s

  abbrev told : base.Call → Answer
  told c = shadow_answer (map_rules (player m)) (shadow_ops (player m)) c s

  module _ (fit : cells_fit m y ≡ true) where
    -- the refusals are the plain form's, and the counter stays
    pub call-other : (c : base.Call) → takes_origin (plain c) ≡ false
        → call m (plain c) (state_of s y k) ≡ unless (first c) (state_of s y k) (state_of (after c) (cells_of c) k, told c)
    unfolding call
    call-other (begin h b l) n = absurd (true≢false n)
    call-other clear n = rw fit
    call-other (free zero) n = rw fit
    call-other (free (suc b)) n = rw fit
    call-other (remove b) n = rw fit
    call-other (written a i) n = rw fit
    call-other (ask a) n = rw fit
    call-other (valid w a i from) n = rw fit
    call-other (initialised a i) n = rw fit
    call-other (next a) n = rw fit
    call-other audit n = rw fit
    call-other (place l k) n = rw fit

    module _ (c : base.Call) (n : takes_origin (plain c) ≡ false) (stay : cells_of c ≡ y) where
      -- the shadows and the answer of a call of the plain form, with the cells and the counter as they were
      abbrev beside : Shadows × Answer → State × Answer
      beside r = (state_of r.0 y k, r.1)

      -- a kind that leaves the cells does what the plain form does
      pub call-plain : call m (plain c) (state_of s y k) ≡ beside (plain_form.call (player m) c s)
      unfolding plain_form.call
      call-plain = call-other c n ∙ rw stay (go (first c))
        where
          go : (j : ℕ) → unless j (state_of s y k) (state_of (after c) y k, told c) ≡ beside (unless j s (after c, told c))
          go zero = refl
          go (suc j) = refl

      pub told-plain : (t : Shadows) (a : Answer) → (t, a) ≡ plain_form.call (player m) c s → (state_of t y k, a) ≡ call m (plain c) (state_of s y k)
      told-plain t a e = ap beside e ∙ sym call-plain

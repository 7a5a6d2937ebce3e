-- What a plain kind that answers its number alone comes to in this form, by that number. Assumes nothing.
use mathlib.Core.Path.{◌≡◌, sym, ap, ◌∙◌}
use mathlib.Core.Bool.{true, false}
use mathlib.Core.Logic.{◌≢◌}
use Prim.Native.Nat.{ℕ, zero, suc}
use Rattle.map.specs.declared.Map.{Map}
use Rattle.map.specs.FormMap.{player}
use Rattle.plain.specs.Areas.{map_rules}
use Rattle.plain.specs.Call as base
use Rattle.plain.specs.Call.{Answer, number, refusal, done, first_of, unless}
use Rattle.plain.specs.ShadowCalls.{shadows_after, shadow_answer}
use Rattle.shadows.specs.Shadows.{Shadows, shadow_ops}
use Rattle.monitor_base.specs.Calls as plain_form
use Rattle.monitor_write_laws.proofs.CheckLaws.{told, call-first, call-refused, call-accepted}
use Rattle.origins_list.specs.Call.{plain, takes_origin}
use Rattle.cells_layout.specs.Cells.{Cells, cells_fit}
use Rattle.origins_base.specs.Calls.{call}
use Rattle.origins_laws.proofs.PlainLaws.{state_of, cells_of, call-other}

-- refused by a number that is known by an equation, or accepted
module _ {S : Type 0} (s : S) where
  pub by_number : (i j : ℕ) (r : S × Answer) → j ≡ i → j ≢ 0 → unless i s r ≡ (s, refusal j)
  by_number zero j r e n = absurd (n e)
  by_number (suc i) j r e n = rw e

  pub by_zero : (i : ℕ) (r : S × Answer) → i ≡ 0 → unless i s r ≡ r
  by_zero i r e = rw e

-- a kind other than a recording, and what the plain form's call comes to
module _ (m : Map) (s : Shadows) (y : Cells) (k : ℕ) (fit : cells_fit m y ≡ true) (c : base.Call) (n : takes_origin (plain c) ≡ false)
    (alone : shadow_answer (map_rules (player m)) (shadow_ops (player m)) c s ≡ done) (t : Shadows) (a : Answer) (e : (t, a) ≡ plain_form.call (player m) c s) where
  first : number a ≡ first_of (plain_form.refusals (player m) c s)
  first = ap told e ∙ call-first (player m) c s alone

  -- refused, with nothing changed
  pub other-refused : number a ≢ 0 → (state_of t y k, a) ≡ call m (plain c) (state_of s y k)
  other-refused z =
      let same : ◌≡◌ {A = Shadows × Answer} (t, a) (s, refusal (number a)) = e ∙ call-refused (player m) c s alone (number a) (ap told e) z in
      ap (λ (r : Shadows × Answer). (state_of r.0 y k, r.1)) same
      ∙ sym (call-other m s y k fit c n ∙ by_number (state_of s y k) (first_of (plain_form.refusals (player m) c s)) (number a) _ first z)

  -- accepted: what the plain form leaves of the shadows, and what this one leaves of the cells
  pub other-accepted : number a ≡ 0 → (z : Cells) → z ≡ cells_of m s y k c → (state_of t z k, a) ≡ call m (plain c) (state_of s y k)
  other-accepted w z g =
      let same : ◌≡◌ {A = Shadows × Answer} (t, a) (shadows_after (map_rules (player m)) (shadow_ops (player m)) c s, done) = e ∙ call-accepted (player m) c s alone (sym (ap told e) ∙ w) in
      ap (λ (r : Shadows × Answer). (state_of r.0 z k, r.1)) same
      ∙ rw (g, ← alone) (sym (call-other m s y k fit c n ∙ by_zero (state_of s y k) (first_of (plain_form.refusals (player m) c s)) _ (sym first ∙ w)))

-- What a free and a remove come to in this form, by what the plain form's check found. Assumes nothing.
use mathlib.Core.Path.{◌≡◌, refl, sym, ap, ◌∙◌}
use mathlib.Core.Bool.{true}
use mathlib.Core.Logic.{◌≢◌}
use Prim.Native.Nat.{ℕ, zero, suc, ◌+◌, ◌*◌, ◌%◌, ◌≤◌}
use native.Mathlib.Omega.{arith}
use lib.ListN.{length}
use Rattle.map.specs.declared.Map.{Map}
use Rattle.map.specs.declared.Area.TheVariants as area
use Rattle.map.specs.declared.Position.{Position}
use Rattle.map.specs.FormMap.{player}
use Rattle.map.specs.Map.{good_map}
use Rattle.map.proofs.MapLaws.{zero-outside}
use Rattle.plain.specs.Areas.{map_rules}
use Rattle.plain.specs.Call as base
use Rattle.plain.specs.Call.{free, Answer, number, refusal, done}
use Rattle.plain.specs.ShadowCalls.{shadow_answer}
use Rattle.shadows.specs.Shadows.{Shadows, lengths_fit, shadow_ops}
use Rattle.monitor_base.specs.Calls as plain_form
use Rattle.map.specs.Locating.{Lies}
use Rattle.map.specs.declared.Located.{Located}
use Rattle.map.specs.declared.Located.TheVariants.{Heap, Outside}
use Rattle.monitor_write_laws.specs.Checks.{block_length}
use Rattle.monitor_write_laws.proofs.CheckLaws.{told, number-good}
use Rattle.cells_layout.specs.Cells.{Cells, cells_fit, cell_ops}
use Rattle.origins_laws.specs.CellsAt.{zeroed_at}
use Rattle.origins_laws.proofs.AtLaws.{zeroed-at, cells-at-heap, cells-at-stack}
use Rattle.origins_list.specs.Call.{plain, ends, role_of}
use Rattle.origins_base.specs.Calls.{call}
use Rattle.origins_laws.proofs.PlainLaws.{state_of, told-plain}
use Rattle.origins_write_laws.proofs.NumberLaws.{other-refused, other-accepted}

-- a call that ends the block of a base, where the cells fit
module _ (m : Map) (s : Shadows) (y : Cells) (fit : cells_fit m y ≡ true) (c : base.Call) (b : ℕ) (role : role_of c ≡ ends b)
    (alone : shadow_answer (map_rules (player m)) (shadow_ops (player m)) c s ≡ done) where
  -- refused, with nothing changed
  pub settled-call : (j : ℕ) → j ≢ 0 → ◌≡◌ {A = Shadows × Answer} (s, refusal j) (plain_form.call (player m) c s)
      → (k : ℕ) (a : Answer) → a ≡ refusal j → (state_of s y k, a) ≡ call m (plain c) (state_of s y k)
  settled-call j n e k a q = other-refused m s y k fit c (rw role) alone s a (rw q e) (λ z. n (sym (ap number q) ∙ z))

  module _ (t : Shadows) (e : ◌≡◌ {A = Shadows × Answer} (t, done) (plain_form.call (player m) c s)) where
    -- the block is found in an area: its place is zeroed, and its cells are
    pub ended-call : (x : Located) → (x ≡ Outside → ⊥) → Lies m b x → (l : ℕ) → l ≡ block_length (player m) s b → (z : Cells) → z ≡ zeroed_at x l y
        → (k : ℕ) (a : Answer) → a ≡ refusal 0 → (state_of t z k, a) ≡ call m (plain c) (state_of s y k)
    ended-call x n h l q z v k a r =
        other-accepted m s y k fit c (rw role) alone t a (rw r e) (ap number r) z
        (v ∙ sym (zeroed-at m y b x l h n) ∙ ap ((cell_ops m).zeroed y b) q ∙ rw role)

    good : (good_map (player m) ≡ true) × (lengths_fit (player m) s ≡ true)
    good = number-good (player m) c s alone (sym (ap told e))

    -- there are cells for the block
    pub heap-ready : (p l : ℕ) → p + l ≤ length s.0 → (2 * (p + l) ≤ length y.0) × (length y.0 % 8 ≡ 0) × (length y.0 ≤ 262144)
    heap-ready p l h = cells-at-heap m s y good.0 good.1 fit p l h

    pub stack-ready : (p l : ℕ) → p + l ≤ length s.1.0 → (2 * (p + l) ≤ length y.1) × (length y.1 % 8 ≡ 0) × (length y.1 ≤ 262144)
    stack-ready p l h = cells-at-stack m s y good.0 good.1 fit p l h

-- ---- free: C's null pointer lies in neither area

-- so a block that is freed has a base other than 0
pub free-ends : (m : Map) (s t : Shadows) (b : ℕ) (p : Position) → Lies m b (Heap p) → ◌≡◌ {A = Shadows × Answer} (t, done) (plain_form.call (player m) (free b) s)
    → role_of (free b) ≡ ends b
free-ends m s t zero p h q =
    let ok = (number-good (player m) (free zero) s refl (sym (ap told q))).0 in
    absurd (let e : area.Heap ≡ area.Outside = sym h.0 ∙ zero-outside (player m) ok in let c : ◌≡◌ {A = ℕ} 0 1 = cc in omega arith)
free-ends m s t (suc b) p h q = refl

module _ (m : Map) (s : Shadows) (y : Cells) (fit : cells_fit m y ≡ true) where
  -- nothing was to be erased
  pub free-settled : (b j : ℕ) → (j ≡ 0 → b ≡ 0) → ◌≡◌ {A = Shadows × Answer} (s, refusal j) (plain_form.call (player m) (free b) s)
      → (k : ℕ) (a : Answer) → a ≡ refusal j → (state_of s y k, a) ≡ call m (plain (free b)) (state_of s y k)
  free-settled zero j f e k a q = told-plain m s y k fit (free zero) refl refl s a (rw q e)
  free-settled (suc b) zero f e k a q = absurd (omega (arith, f refl))
  free-settled (suc b) (suc j) f e k a q = settled-call m s y fit (free (suc b)) (suc b) refl refl (suc j) (λ z. omega arith) e k a q

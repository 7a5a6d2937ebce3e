-- A request is served by its plan, whatever the form. Assumes nothing.
use mathlib.Core.Path.{◌≡◌, refl}
use Prim.Native.Nat.{ℕ, zero, suc}
use native.Mathlib.Omega.{arith}
use Rattle.map.specs.declared.Map.{Map}
use Rattle.plain.specs.Call.{Answer, done, refusal}
use Rattle.calls_format.specs.Records.{Asked, new_map, call}
use Rattle.calls_format.specs.Running.{map_number, serve_by}
use Rattle.calls_format.proofs.ServeLaws.{served-call, served-refused, served-accepted}
use Rattle.calls_plan.specs.Plan.{step, refused, answered_by, planned}

-- what a program keeps is a view of its buffers, by the map
module _ {C X : Type 0} (cleared : Map → X → X) (call_on : Map → C → X → X × Answer) (clear : C) (m : Map) (view : Map → X) where
  pub served-no : (r : Asked C) (k : ℕ) → refused k ≡ planned clear m r → ((m, view m), refusal k) ≡ serve_by cleared call_on r (m, view m)
  served-no (call c) k e = absurd (let z : ◌≡◌ {A = ℕ} 0 1 = cc in omega arith)
  served-no (new_map n) k e = go (map_number n) refl e
    where
      go : (j : ℕ) → j ≡ map_number n → refused k ≡ answered_by clear j n → ((m, view m), refusal k) ≡ serve_by cleared call_on (new_map n) (m, view m)
      go zero q w = absurd (let z : ◌≡◌ {A = ℕ} 0 1 = cc in omega arith)
      go (suc j) q w = let z : k ≡ suc j = cc in rw z (served-refused cleared call_on n (suc j) (m, view m) q (omega arith))

  -- clear under an accepted map leaves what is told of it
  pub served-step : ((n : Map) → map_number n ≡ 0 → call_on n clear (view n) ≡ (cleared n (view m), done))
      → (r : Asked C) (m' : Map) (c : C) (a : Answer) (x' : X) → step m' c ≡ planned clear m r → (x', a) ≡ call_on m' c (view m')
      → ((m', x'), a) ≡ serve_by cleared call_on r (m, view m)
  served-step f (call c₁) m' c a x' e w =
      let x : m' ≡ m = cc in
      let y : c ≡ c₁ = cc in
      rw x (served-call cleared call_on m c₁ a (view m) x' (rw (x, y) at w))
  served-step f (new_map n) m' c a x' e w = go (map_number n) refl e
    where
      go : (j : ℕ) → map_number n ≡ j → step m' c ≡ answered_by clear j n → ((m', x'), a) ≡ serve_by cleared call_on (new_map n) (m, view m)
      go zero q v =
          let x : m' ≡ n = cc in
          let y : c ≡ clear = cc in
          rw x (served-accepted cleared call_on n a (m, view m) x' q (rw (x, y, f n q) at w))
      go (suc j) q v = absurd (let z : ◌≡◌ {A = ℕ} 0 1 = cc in omega arith)

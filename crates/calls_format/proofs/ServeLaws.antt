-- Serving requests of any form: what each request leaves, and that a run on states is the run on plain lists. Assumes nothing.
use mathlib.Core.Path.{◌≡◌, refl, ap}
use mathlib.Core.Bool.{true}
use mathlib.Core.Logic.{◌≢◌}
use Prim.Native.Nat.{ℕ, zero, suc}
use native.Mathlib.Omega.{arith}
use Rattle.number.proofs.TestLaws.{Test, is_true, is_false, test}
use Rattle.map.specs.declared.Map.{Map}
use Rattle.map.specs.FormMap.{player}
use Rattle.map.specs.Map.{good_map}
use Rattle.plain.specs.Call.{Answer, refusal, done, unless}
use Rattle.calls_format.specs.Records.{new_map, call}
use Rattle.calls_format.specs.Running.{map_number, under_map, serve_by}

-- an accepted map is good
pub accepted-good : (m : Map) → map_number m ≡ 0 → good_map (player m) ≡ true
accepted-good m = go (test (good_map (player m)))
  where
    go : Test (good_map (player m)) → map_number m ≡ 0 → good_map (player m) ≡ true
    go (is_true g) e = g
    go (is_false g) e = absurd (omega (arith, rw g at e))

-- ---- one request

module _ {C X : Type 0} (cleared : Map → X → X) (call_on : Map → C → X → X × Answer) where
  pub served-call : (m : Map) (c : C) (a : Answer) (x x' : X) → (x', a) ≡ call_on m c x → ((m, x'), a) ≡ serve_by cleared call_on (call c) (m, x)
  unfolding serve_by
  served-call m c a x x' e = ap (under_map m) e

  pub served-refused : (m : Map) (k : ℕ) (s : Map × X) → k ≡ map_number m → k ≢ 0 → (s, refusal k) ≡ serve_by cleared call_on (new_map m) s
  unfolding serve_by
  served-refused m k s e n = rw (← e) (go k n)
    where
      go : (k : ℕ) → k ≢ 0 → (s, refusal k) ≡ unless k s ((m, cleared m s.1), done)
      go zero n = absurd (n refl)
      go (suc k) n = refl

  pub served-accepted : (m : Map) (a : Answer) (s : Map × X) (x' : X) → map_number m ≡ 0 → ◌≡◌ {A = X × Answer} (x', a) (cleared m s.1, done)
      → ((m, x'), a) ≡ serve_by cleared call_on (new_map m) s
  unfolding serve_by
  served-accepted m a s x' z e = rw z (ap (under_map m) e)

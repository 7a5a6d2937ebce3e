-- A request of this program is served by its plan. Assumes nothing.
use mathlib.Core.Path.{◌≡◌, refl}
use mathlib.Core.List.{List}
use Prim.Native.Nat.{ℕ, zero, suc, ◌≤◌}
use lib.ListN.{length}
use Rattle.map.specs.declared.Map.{Map}
use Rattle.plain.specs.Call.{Answer, clear, refusal}
use Rattle.origins_list.specs.Call.{Call, plain}
use Rattle.origins_base.specs.Calls as form
use Rattle.calls_format.specs.Records as records
use Rattle.calls_format.specs.Records.{new_map, call}
use Rattle.calls_format.specs.Running.{map_number}
use Rattle.calls_plan.specs.Plan.{step, refused, answered_by, planned}
use Rattle.calls_plan.proofs.PlanLaws as any
use Rattle.calls_origins_format.specs.Records.{Request, asked}
use Rattle.calls_origins_format.specs.Running.{cleared, serve}
use Rattle.calls_origins_format.specs.Kept.{parts, kept}
use Rattle.calls_origins_format.proofs.KeptLaws.{parts-cleared}
use Rattle.calls_origins_plan.specs.Plan.{lifted}

-- what the plain program may be asked for is planned as there
pub planned-plain : (m : Map) (r : records.Request) → lifted (planned clear m r) ≡ planned (plain clear) m (asked r)
planned-plain m (call c) = refl
planned-plain m (new_map n) = go (map_number n)
  where
    go : (k : ℕ) → lifted (answered_by clear k n) ≡ answered_by (plain clear) k n
    go zero = refl
    go (suc k) = refl

module _ (m : Map) (h p s x y : List ℕ) (k : ℕ) where
  abbrev view : Map → form.State
  view n = parts n h p s x y k

  pub served-no : (r : Request) (n : ℕ) → refused n ≡ planned (plain clear) m r → (kept m h p s x y k, refusal n) ≡ serve r (kept m h p s x y k)
  unfolding serve
  served-no r n e = any.served-no cleared form.call (plain clear) m view r n e

  pub served-step : (r : Request) (m' : Map) (c : Call) (a : Answer) (h' p' s' x' y' : List ℕ) (k' : ℕ) → step m' c ≡ planned (plain clear) m r
      → 32768 ≤ length h → 16384 ≤ length p → 16384 ≤ length s → 65536 ≤ length x → 32768 ≤ length y
      → (parts m' h' p' s' x' y' k', a) ≡ form.call m' c (parts m' h p s x y k)
      → (kept m' h' p' s' x' y' k', a) ≡ serve r (kept m h p s x y k)
  unfolding serve
  served-step r m' c a h' p' s' x' y' k' e lh lp ls lx ly w =
      any.served-step cleared form.call (plain clear) m view (λ n z. parts-cleared n h p s x y z lh lp ls lx ly k (view m) refl) r m' c a
      (parts m' h' p' s' x' y' k') e w

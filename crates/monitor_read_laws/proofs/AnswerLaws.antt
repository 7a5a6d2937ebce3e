-- The outcome of a call that leaves the shadows as they were. Assumes nothing.
use mathlib.Core.Path.{◌≡◌, sym, ap, ◌∙◌}
use mathlib.Core.Logic.{◌≢◌}
use Prim.Native.Nat.{ℕ}
use Rattle.map.specs.FormMap.{FormMap}
use Rattle.plain.specs.Call.{Call, refusal}
use Rattle.plain.specs.Call as plain
use Rattle.shadows.specs.Shadows.{Shadows}
use Rattle.monitor_base.specs.declared.Answer.{Answer}
use Rattle.monitor_base.specs.Answers.{answer_of}
use Rattle.monitor_base.specs.Calls.{call}
use Rattle.monitor_base.proofs.CallLaws.{early, call-early}

module _ (m : FormMap) (c : Call) (s : Shadows) (r : Answer) where
  -- the answer is x, and so is the call's
  pub answers : (x : plain.Answer) → answer_of r ≡ x → call m c s ≡ (s, x) → (s, answer_of r) ≡ call m c s
  answers x e h = ap (λ y. (s, y)) e ∙ sym h

  -- 1 or 2
  pub refuses : (k : ℕ) → answer_of r ≡ refusal k → k ≡ early m s → k ≢ 0 → (s, answer_of r) ≡ call m c s
  refuses k e h n = answers (refusal k) e (call-early m c s k h n)

-- The audit of a map's shadows, by the audits of its areas. Assumes nothing.
use mathlib.Core.Path.{◌≡◌, refl, ◌∙◌}
use mathlib.Core.Bool.{true}
use mathlib.Core.List.{[], ◌∷◌}
use Prim.Native.Nat.{◌+◌}
use native.Mathlib.Nat.{add-zero, zero-add}
use lib.ListN.{length}
use Rattle.map.specs.FormMap.{FormMap}
use Rattle.map.specs.Map.{good_map}
use Rattle.std.specs.Prelude.{Option, Some, None}
use Rattle.plain.specs.declared.Totals.{Totals}
use Rattle.plain.specs.Answers.{heap_tally, stack_tally}
use Rattle.plain.specs.Areas.{map_rules}
use Rattle.plain.specs.Call.{audit, unless, first_of}
use Rattle.plain.specs.Join.{plus}
use Rattle.plain.specs.ShadowCalls.{is_none, audit_answer, shadow_step}
use Rattle.heap_layout.specs.Ops.{heap_ops}
use Rattle.stack_layout.specs.Ops.{stack_ops}
use Rattle.shadows.specs.Shadows.{Shadows, lengths_fit, shadow_ops}
use Rattle.shadows.proofs.TotalLaws.{audit-small}
use Rattle.monitor_read_laws.specs.Audited.{audits_answer, sums_fit}
use Rattle.monitor_base.specs.Calls.{call}
use Rattle.monitor_base.proofs.CallLaws.{call_step}
use Rattle.monitor_base.proofs.LocatingLaws.{heap-lengths, stack-lengths}

module _ (m : FormMap) (s : Shadows) (ok : good_map m ≡ true) (fit : lengths_fit m s ≡ true) (h k : Option Totals)
    (eh : heap_tally h ≡ (heap_ops m.width m.segment (length s.0)).audit s.0) (ek : stack_tally k ≡ (stack_ops (length s.1.0)).audit s.1) where
  both : (shadow_ops m).audit s ≡ plus (heap_tally h) (stack_tally k)
  both =
      let x = (heap-lengths m s ok fit).0 in
      let y = (stack-lengths m s ok fit).0 in
      rw (eh, ek, x, y)

  pub sums-fit : sums_fit h k
  sums-fit = go h k both
    where
      go : (h k : Option Totals) → (shadow_ops m).audit s ≡ plus (heap_tally h) (stack_tally k) → sums_fit h k
      go None k e = tt
      go (Some h) None e = tt
      go (Some h) (Some k) e = audit-small m s ok fit (h.blocks + 0) (0 + k.blocks) (h.live + k.live) (h.written + k.written) e

  step : shadow_step (map_rules m) (shadow_ops m) audit s ≡ (s, audits_answer h k)
  unfolding shadow_step
  step = rw both (go h k)
    where
      go : (h k : Option Totals) → let t = plus (heap_tally h) (stack_tally k) in unless (first_of ((8, is_none t) ∷ [])) s (s, audit_answer t) ≡ (s, audits_answer h k)
      go None k = refl
      go (Some h) None = refl
      go (Some h) (Some k) = rw (add-zero h.blocks, zero-add k.blocks)

  pub audits : call m audit s ≡ (s, audits_answer h k)
  audits = call_step m audit s ok fit ∙ step

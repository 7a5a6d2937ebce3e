-- The totals of an audit fit 32 bits. Assumes nothing.
use mathlib.Core.Path.{◌≡◌, sym, ap, ◌∙◌}
use mathlib.Core.Bool.{true}
use mathlib.Core.Option.{some}
use Prim.Native.Nat.{ℕ, ◌≤◌}
use native.Mathlib.Omega.{arith}
use Rattle.map.specs.FormMap.{FormMap}
use Rattle.map.specs.Map.{good_map}
use Rattle.map.proofs.MapLaws.{good-true}
use Rattle.plain.specs.Areas.{map_rules}
use Rattle.plain.specs.Blocks.{live, written}
use Rattle.plain.specs.Reading.{tally, tally_of}
use Rattle.plain.proofs.TotalLaws.{written-live, placed-live}
use Rattle.shadows.specs.Shadows.{Shadows, lengths_fit, shadow_ops}
use Rattle.shadows.proofs.ShadowLaws.{fit-true, map-sound, shadow-images, shadow-scanned}

-- accepted shadows are the image of a placed list, whose totals are bounded
pub audit-small : (m : FormMap) (s : Shadows) → good_map m ≡ true → lengths_fit m s ≡ true → (h k l w : ℕ) → (shadow_ops m).audit s ≡ some (tally h k l w)
    → (l ≤ 4294967295) × (w ≤ 4294967295)
audit-small m s ok fit h k l w e =
    let g = good-true m ok in
    let x = (shadow-scanned m ok).scanned s (tally h k l w) (fit-true m s fit) e in
    let bs = x.0 in
    let t : some (tally h k l w) ≡ some (tally_of (map_rules m) bs) = sym e ∙ ap (shadow_ops m).audit x.2 ∙ (shadow-images m ok).image_audit bs x.1 in
    let a : l ≡ live bs = cc in
    let b : w ≡ written bs = cc in
    let small = placed-live (map_rules m) (map-sound m ok) bs 0 x.1 in
    (omega (arith, g.heap_end, g.stack_end), omega (arith, written-live bs, g.heap_end, g.stack_end))

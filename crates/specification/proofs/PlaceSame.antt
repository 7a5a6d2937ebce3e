-- The place for the next heap block is the one of the library's definition. Assumes nothing.
use mathlib.Core.Path.{◌≡◌, refl, sym, ◌∙◌}
use mathlib.Core.Bool.{Bool}
use mathlib.Core.List.{List, map, append-nil}
use mathlib.Core.Option.{Option, none, some}
use lib.ListN.{length, take}
use Prim.Native.Nat.{ℕ, zero, suc, ◌*◌, ◌/◌}
use Rattle.number.specs.Parts.{at, zeros}
use Rattle.map.specs.declared.Map.{Map}
use Rattle.map.specs.declared.Form as kind
use Rattle.map.specs.FormMap.{under, number_size, segment_size}
use Rattle.plain.specs.Areas as areas
use Rattle.plain.specs.Call as plain
use Rattle.plain.specs.Gaps.{Gap, gaps_after}
use Rattle.plain.specs.Gaps as gap
use Rattle.plain.specs.Lift.{gap_up}
use Rattle.plain.specs.Placing.{place_of}
use Rattle.plain.proofs.GapLaws.{gaps-up}
use Rattle.heap_layout.specs.Ops.{heap_gaps}
use Rattle.shadows.specs.Shadows.{shadow_ops}
use Rattle.monitor_base.specs.Calls as base
use Rattle.specification.specs.Map.{Shadows}
use Rattle.specification.specs.Form.{Form}
use Rattle.specification.specs.Place.{gaps_from, gaps, place_fields, place}
use Rattle.specification.proofs.Forms.{form}
use Rattle.specification.proofs.MapSame.{good-same, lengths-same}
use Rattle.specification.proofs.BlocksSame.{best-same}

pub fields-same : (f : kind.Form) (l n : ℕ) (o : Option Gap) → place_fields (form f) l n o ≡ place_of (segment_size f) l n o
unfolding areas.place_length areas.segments
fields-same f l n none = refl
fields-same f l n (some g) = refl

module _ (f : kind.Form) (m : Map) where
  abbrev F : Form
  F = form f

  pub gaps-after : (free : ℕ → Bool) (n i r : ℕ) → gaps_from F m free n i r ≡ gaps_after (segment_size f) m.heap_start free n i r
  unfolding gaps_from gaps_after
  gaps-after free zero i zero = refl
  gaps-after free zero i (suc r) = refl
  gaps-after free (suc n) i zero = rw (gaps-after free n (suc i) 1, gaps-after free n (suc i) 0)
  gaps-after free (suc n) i (suc r) = rw (gaps-after free n (suc i) (suc (suc r)), gaps-after free n (suc i) 0)

  pub gaps-same : (s : Shadows) → gaps F m s.0 ≡ (shadow_ops (under f m)).gaps s
  unfolding heap_gaps
  gaps-same s =
      let free : ℕ → Bool = λ i. zeros (at s.0) (i * segment_size f) (segment_size f) in
      gaps-after free (m.heap_size / segment_size f) 0 0
      ∙ sym (gaps-up (segment_size f) m.heap_start free (m.heap_size / segment_size f) 0 0)
      ∙ sym (append-nil (map (gap_up m.heap_start) (heap_gaps (number_size f) (segment_size f) m.heap_size s.0)))

  pub place_same : (s : Shadows) (l k : ℕ) → place F m l k s ≡ base.call (under f m) (plain.place l k) s
  unfolding place base.call areas.place_length areas.segments
  place_same s l k =
      let gs : List Gap = take k ((shadow_ops (under f m)).gaps s) in
      let need : ℕ = areas.place_length (segment_size f) l in
      rw (good-same f m, lengths-same f m s, gaps-same s, best-same need gs, fields-same f l (length gs) (gap.best need gs))

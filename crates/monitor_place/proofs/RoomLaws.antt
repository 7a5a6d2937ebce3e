-- The gap that is chosen fits, and the answer is its own. Assumes nothing.
use mathlib.Core.Path.{◌≡◌, sym, ap, ◌∙◌}
use mathlib.Core.Bool.{true}
use mathlib.Core.Logic.{◌≢◌}
use mathlib.Core.Option.{Option}
use Prim.Native.Nat.{ℕ, ◌+◌, ◌≤◌}
use native.Mathlib.Omega.{arith}
use lib.ListN.{length}
use borrow.Author.Tests.{ne_eqb}
use Rattle.map.specs.FormMap.{FormMap}
use Rattle.map.specs.Map.{good_map}
use Rattle.map.proofs.MapLaws.{good-true}
use Rattle.plain.specs.Areas.{place_length}
use Rattle.plain.specs.Gaps.{Gap}
use Rattle.plain.specs.Placing.{looked_at}
use Rattle.plain.specs.Call.{place}
use Rattle.plain.proofs.BestLaws.{best-some}
use Rattle.heap_layout.specs.Ops.{heap_gaps}
use Rattle.heap_gap.specs.declared.Scan.{Scan}
use Rattle.heap_gap.specs.Scans.{chosen_of, choice_of}
use Rattle.heap_gap_laws.specs.Pass.{choice}
use Rattle.shadows.specs.Shadows.{Shadows, lengths_fit}
use Rattle.monitor_base.specs.Calls.{call}
use Rattle.monitor_base.proofs.LocatingLaws.{heap-lengths}
use Rattle.monitor_read_laws.specs.Roomed.{room_answer}
use Rattle.monitor_read_laws.proofs.PlacingLaws.{places}
use Rattle.monitor_place.specs.Room.{Fits}

-- the header's segment is among the bytes that are needed
pub header-in : (G l : ℕ) → G ≤ place_length G l
unfolding place_length
header-in G l = omega arith

module _ (m : FormMap) (s : Shadows) (ok : good_map m ≡ true) (fit : lengths_fit m s ≡ true) (l k : ℕ) (g : Scan) (e : choice_of g ≡ choice m.width m.segment (place_length m.segment l) k s.0) where
  pub room_fits : g.start + g.bytes ≤ length s.0 → Fits m.segment m.heap_start l g
  room_fits b =
      record {
        inside = omega (arith, b, (heap-lengths m s ok fit).0, good-true m ok);
        holds = λ n.
            (best-some (place_length m.segment l) (looked_at k (heap_gaps m.width m.segment (length s.0) s.0)) (record { start = g.start; bytes = g.bytes })
            (sym (ap (λ (x : ℕ × Option Gap). x.1) e) ∙ rw (ne_eqb g.bytes 0 n))).fits;
      }

  pub room-answer : l ≢ 0 → call m (place l k) s ≡ (s, room_answer m.segment m.heap_start l g.looked (chosen_of g))
  room-answer n = places m s ok fit l k n ∙ ap (λ (x : ℕ × Option Gap). (s, room_answer m.segment m.heap_start l x.0 x.1)) (sym e)

-- The two areas of a good map: an address of the heap, and one of the stack, is a position of that area's shadows. Assumes nothing.
use mathlib.Core.Path.{◌≡◌, refl, sym, ◌∙◌}
use mathlib.Core.Bool.{Bool, true, false}
use Prim.Native.Nat.{ℕ, ◌+◌, ◌-◌, ◌%◌, ◌≤◌}
use native.Mathlib.Omega.{arith}
use lib.ListN.{length}
use lib.Dec.{leb}
use Rattle.number.specs.Parts.{at}
use Rattle.number.proofs.TestLaws.{and_false_r, false_of, cond-true}
use Rattle.map.specs.FormMap.{FormMap, areas}
use Rattle.map.specs.declared.Area.TheVariants.{Heap, Stack, Outside}
use Rattle.map.specs.Map.{good_map, within, area_of}
use Rattle.map.proofs.MapLaws.{Good, good-true, within-true, true-within}
use Rattle.plain.specs.Rules.{Rules}
use Rattle.plain.specs.Areas.{heap_rules, stack_rules, map_rules}
use Rattle.plain.specs.Reading.{block}
use Rattle.plain.proofs.AreaLaws.{heap-shifted, heap-unshifted, stack-shifted, stack-unshifted}
use Rattle.heap_layout.specs.Reading.{heap_reading}
use Rattle.heap_layout.specs.Ops.{heap_ops}
use Rattle.heap_layout.proofs.ReadingLaws as heap
use Rattle.stack_layout.specs.Reading.{stack_reading}
use Rattle.stack_layout.specs.Ops.{stack_ops}
use Rattle.stack_layout.proofs.ReadingLaws as stack
use Rattle.shadows.specs.Shadows.{Shadows, lengths_fit, shadow_ops}
use Rattle.shadows.proofs.ShadowLaws.{Fit, fit-true}
use Rattle.monitor_base.proofs.LocatingLaws.{area-heap, area-stack, area-out, heap-room, stack-room}
use Rattle.monitor_write_laws.proofs.AtLaws.{fits-same, aligned-same, range_at, At}

-- ---- a block that is read at its base lies in its area

pub heap-first : (W G size : ℕ) (f : ℕ → ℕ) (p b l w : ℕ) (k : Bool) → heap_reading W G size f p ≡ block b l 0 w k → (G ≤ p) × (p % G ≡ 0) × (p + l ≤ size) × (1 ≤ l)
heap-first W G size f p b l w k h =
    let t = heap.reading-told W G size f p b l 0 w k h in
    let q : p ≡ b = omega arith in
    (omega arith, rw q t.aligned, omega arith, t.some)

pub stack-first : (size : ℕ) (f g : ℕ → ℕ) (p b l w : ℕ) (k : Bool) → stack_reading size f g p ≡ block b l 0 w k → p + l ≤ size
stack-first size f g p b l w k h = let t = stack.reading-told size f g p b l 0 w k h in omega arith

-- ---- an address of neither area

pub out-fits : (m : FormMap) (a l : ℕ) → area_of (areas m) a ≡ Outside → (map_rules m).fits a l ≡ false
out-fits m a l e = let v = area-out (areas m) a e in rw v.0 (and_false_r (leb (a + l) (m.stack_start + m.stack_size)) _ v.1)

-- ---- a good map, and shadows of the right lengths

module _ (m : FormMap) (s : Shadows) (ok : good_map m ≡ true) (fit : lengths_fit m s ≡ true) (a p : ℕ) where
  abbrev hs : ℕ
  hs = m.heap_start

  abbrev hz : ℕ
  hz = m.heap_size

  abbrev ss : ℕ
  ss = m.stack_start

  abbrev sz : ℕ
  sz = m.stack_size

  good : Good m
  good = good-true m ok

  lengths : Fit m s
  lengths = fit-true m s fit

  abbrev H : Rules
  H = heap_rules m.segment hs hz

  whole-fits : within hs hz a ≡ true → (l : ℕ) → (map_rules m).fits a l ≡ H.fits a l
  whole-fits w l = cond-true (within hs hz a) (H.fits a l) ((stack_rules ss sz).fits a l) w

  pub heap-at : area_of (areas m) a ≡ Heap → p ≡ a - hs
      → At (map_rules m) (shadow_ops m) s a (heap_rules m.segment 0 (length s.0)) (heap_ops m.width m.segment (length s.0)) s.0 p (λ h. (h, s.1))
  heap-at e q =
      let w : within hs hz a ≡ true = area-heap (areas m) a e in
      let f = within-true hs hz a w in
      let down = heap-shifted m.segment hs hz good.heap_start_whole in
      let up = heap-unshifted m.segment hs hz good.heap_start_whole in
      rw lengths.0
      (record {
        start = hs;
        whole = refl;
        inside = rw w;
        fits = λ l. whole-fits w l ∙ fits-same hs H (heap_rules m.segment 0 hz) down up a l p f.0 q;
        aligned = λ l h. rw w (aligned-same hs H (heap_rules m.segment 0 hz) down up a l p f.0 q (sym (whole-fits w l) ∙ h));
        heap = rw w;
        read = rw (w, q);
        vacant = λ l. rw (w, q);
        stamp = λ t l. rw (w, q);
        erase = λ l. rw (w, q);
        mark = λ n i.
            let room = heap-room m.width m.segment hz (at s.0) p n i in
            rw q
            (range_at (shadow_ops m) (heap_ops m.width m.segment hz) (λ h. (h, s.1)) hs n a s.0 f.0
            (λ b x y z. rw (true-within hs hz b (omega arith) (omega arith))));
      })

  pub stack_at : area_of (areas m) a ≡ Stack → p ≡ a - ss
      → At (map_rules m) (shadow_ops m) s a (stack_rules 0 (length s.1.0)) (stack_ops (length s.1.0)) s.1 p (λ t. (s.0, t))
  stack_at e q =
      let v = area-stack (areas m) a e in
      let f = within-true ss sz a v.1 in
      rw lengths.1.0
      (record {
        start = ss;
        whole = refl;
        inside = rw (v.0, v.1);
        fits = λ l. rw v.0 (fits-same ss (stack_rules ss sz) (stack_rules 0 sz) (stack-shifted ss sz) (stack-unshifted ss sz) a l p f.0 q);
        aligned = λ l h. rw v.0;
        heap = rw v.0;
        read = rw (v.0, q);
        vacant = λ l. rw (v.0, q);
        stamp = λ t l. rw (v.0, q);
        erase = λ l. rw (v.0, q);
        mark = λ n i.
            let room = stack-room sz (at s.1.0) (at s.1.1) p n i in
            rw q
            (range_at (shadow_ops m) (stack_ops sz) (λ t. (s.0, t)) ss n a s.1 f.0
            (λ b x y z. rw (false_of (within hs hz b) (λ h. let k = within-true hs hz b h in good.no_share (omega arith) (omega arith)))));
      })

-- The cells of an address are those of where it lies. Assumes nothing.
use mathlib.Core.Path.{◌≡◌, refl, ap, ◌∙◌}
use mathlib.Core.Bool.{Bool, true, false}
use Prim.Native.Nat.{ℕ, ◌+◌, ◌*◌, ◌-◌, ◌%◌, ◌≤◌, ◌<◌}
use native.Mathlib.Omega.{arith}
use native.Mathlib.Nat.{add-sub_cancel_left}
use lib.ListN.{length}
use Rattle.number.specs.Parts.{at}
use Rattle.number.proofs.TestLaws.{false_of}
use Rattle.map.specs.declared.Map.{Map}
use Rattle.map.specs.declared.Area.TheVariants as area
use Rattle.map.specs.FormMap.{player}
use Rattle.map.specs.Map.{good_map, within}
use Rattle.map.proofs.MapLaws.{Good, good-true, within-true, true-within}
use Rattle.plain.specs.Areas.{map_rules}
use Rattle.plain.specs.Reading.{Reading, nothing, block, damaged}
use Rattle.plain.specs.Lift.{reading_up}
use Rattle.plain.specs.Ops.{read_any}
use Rattle.heap_layout.specs.Reading.{heap_reading}
use Rattle.heap_layout.proofs.ReadingLaws as heap
use Rattle.stack_layout.specs.Reading.{stack_reading}
use Rattle.stack_layout.proofs.ReadingLaws as stack
use Rattle.shadows.specs.Shadows.{Shadows, lengths_fit, shadow_ops}
use Rattle.map.specs.declared.Located.{Located}
use Rattle.map.specs.declared.Located.TheVariants.{Heap, Stack, Outside}
use Rattle.map.specs.Locating.{Lies}
use Rattle.monitor_base.proofs.LocatingLaws.{area-heap, area-stack, heap-position, stack-position, read-heap, read-stack, read_out, heap-lengths, stack-lengths}
use Rattle.monitor_read_laws.specs.Asked.{reading_at}
use Rattle.origins_list.specs.StateCalls.{origin_read}
use Rattle.cells_layout.specs.Cells.{Cells, cells_fit, cell_ops}
use Rattle.cells_layout.proofs.FitLaws.{CellLengths, cells-fit-true}
use Rattle.origins_laws.specs.CellsAt.{CellAt, referent_at, set_referent_at, set_origin_at, zeroed_at, origin_in, origin_at}

-- ---- the operations, by where the address lies

module _ (m : Map) (x : Cells) where
  pub referent-at : (a : ℕ) (l : Located) → Lies m a l → (l ≡ Outside → ⊥) → (cell_ops m).referent x a ≡ referent_at l x
  referent-at a (Heap p) e n = rw (area-heap m a e.0, e.1)
  referent-at a (Stack p) e n = rw ((area-stack m a e.0).0, e.1)
  referent-at a Outside e n = absurd (n refl)

  pub set-referent-at : (a : ℕ) (l : Located) (v : ℕ) → Lies m a l → (l ≡ Outside → ⊥) → (cell_ops m).set_referent x a v ≡ set_referent_at l v x
  set-referent-at a (Heap p) v e n = rw (area-heap m a e.0, e.1)
  set-referent-at a (Stack p) v e n = rw ((area-stack m a e.0).0, e.1)
  set-referent-at a Outside v e n = absurd (n refl)

  pub set-origin-at : (a : ℕ) (l : Located) (v : ℕ) → Lies m a l → (l ≡ Outside → ⊥) → (cell_ops m).set_origin x a v ≡ set_origin_at l v x
  set-origin-at a (Heap p) v e n = rw (area-heap m a e.0, e.1)
  set-origin-at a (Stack p) v e n = rw ((area-stack m a e.0).0, e.1)
  set-origin-at a Outside v e n = absurd (n refl)

  pub zeroed-at : (a : ℕ) (l : Located) (n : ℕ) → Lies m a l → (l ≡ Outside → ⊥) → (cell_ops m).zeroed x a n ≡ zeroed_at l n x
  zeroed-at a (Heap p) n e k = rw (area-heap m a e.0, e.1)
  zeroed-at a (Stack p) n e k = rw ((area-stack m a e.0).0, e.1)
  zeroed-at a Outside n e k = absurd (k refl)

-- ---- right lengths

module _ (m : Map) (s : Shadows) (x : Cells) (ok : good_map (player m) ≡ true) (fit : lengths_fit (player m) s ≡ true) (cells : cells_fit m x ≡ true) where
  good : Good (player m)
  good = good-true (player m) ok

  lengths : CellLengths m x
  lengths = cells-fit-true m x cells

  -- where an address lies there is its cell
  pub cell_at : (a : ℕ) (l : Located) → Lies m a l → (l ≡ Outside → ⊥) → CellAt l x
  cell_at a (Heap p) e n =
      let h = heap-position (player m) s ok fit a e.0 in
      (omega (arith, h.1, e.1, lengths.0, (heap-lengths (player m) s ok fit).0), omega (arith, lengths.0, good.heap_size_whole), omega (arith, lengths.0, good.heap_most))
  cell_at a (Stack p) e n =
      let h = stack-position (player m) s ok fit a e.0 in
      (omega (arith, h.1, e.1, lengths.1, (stack-lengths (player m) s ok fit).0), omega (arith, lengths.1, good.stack_size8), omega (arith, lengths.1, good.stack_most))
  cell_at a Outside e n = absurd (n refl)

  -- and the cells of a block that fits the area's shadow
  pub cells-at-heap : (p : ℕ) (n : ℕ) → p + n ≤ length s.0 → (2 * (p + n) ≤ length x.0) × (length x.0 % 8 ≡ 0) × (length x.0 ≤ 262144)
  cells-at-heap p n h =
      (omega (arith, h, lengths.0, (heap-lengths (player m) s ok fit).0), omega (arith, lengths.0, good.heap_size_whole), omega (arith, lengths.0, good.heap_most))

  pub cells-at-stack : (p : ℕ) (n : ℕ) → p + n ≤ length s.1.0 → (2 * (p + n) ≤ length x.1) × (length x.1 % 8 ≡ 0) × (length x.1 ≤ 262144)
  cells-at-stack p n h =
      (omega (arith, h, lengths.1, (stack-lengths (player m) s ok fit).0), omega (arith, lengths.1, good.stack_size8), omega (arith, lengths.1, good.stack_most))

  -- ---- the origin of the block that is read

  abbrev read : Located → Reading
  read l = reading_at 4 8 l s.0 s.1.0 s.1.1

  -- what a block that is read in an area begins with lies in that area, and has a cell there
  pub heap-base : (p b l o w : ℕ) (k : Bool) → heap_reading 4 8 (length s.0) (at s.0) p ≡ block b l o w k
      → (within m.heap_start m.heap_size (m.heap_start + b) ≡ true) × (2 * b < length x.0)
  heap-base p b l o w k e =
      let t = heap.reading-told 4 8 (length s.0) (at s.0) p b l o w k e in
      let n = heap-lengths (player m) s ok fit in
      (true-within m.heap_start m.heap_size (m.heap_start + b) (omega arith) (omega (arith, t.fits, t.some, n.0)), omega (arith, t.fits, t.some, n.0, lengths.0))

  pub stack-base : (p b l o w : ℕ) (k : Bool) → stack_reading (length s.1.0) (at s.1.0) (at s.1.1) p ≡ block b l o w k
      → (within m.heap_start m.heap_size (m.stack_start + b) ≡ false) × (2 * b < length x.1)
  stack-base p b l o w k e =
      let t = stack.reading-told (length s.1.0) (at s.1.0) (at s.1.1) p b l o w k e in
      let n = stack-lengths (player m) s ok fit in (
        false_of (within m.heap_start m.heap_size (m.stack_start + b)) (λ h.
            let u = within-true m.heap_start m.heap_size (m.stack_start + b) h in
            good.no_share (omega (arith, u, t.fits, t.some, n.0)) (omega (arith, u))),
        omega (arith, t.fits, t.some, n.0, lengths.1),
      )

  pub origin-at : (a : ℕ) (l : Located) → Lies m a l → origin_read (cell_ops m) x (read_any (map_rules (player m)) (shadow_ops (player m)) s a) ≡ origin_at l (read l) x
  origin-at a (Heap p) e = ap (origin_read (cell_ops m) x) (read-heap (player m) s ok fit a p.0 e.0 e.1).0 ∙ go (read (Heap p)) refl
    where
      go : (r : Reading) → read (Heap p) ≡ r → origin_read (cell_ops m) x (reading_up m.heap_start r) ≡ origin_in x.0 r
      go nothing q = refl
      go damaged q = refl
      go (block b l o w k) q = rw ((heap-base p.0 b l o w k q).0, add-sub_cancel_left m.heap_start b)
  origin-at a (Stack p) e = ap (origin_read (cell_ops m) x) (read-stack (player m) s ok fit a p.0 e.0 e.1).0 ∙ go (read (Stack p)) refl
    where
      go : (r : Reading) → read (Stack p) ≡ r → origin_read (cell_ops m) x (reading_up m.stack_start r) ≡ origin_in x.1 r
      go nothing q = refl
      go damaged q = refl
      go (block b l o w k) q = rw ((stack-base p.0 b l o w k q).0, add-sub_cancel_left m.stack_start b)
  origin-at a Outside e = ap (origin_read (cell_ops m) x) (read_out (player m) s a e).0

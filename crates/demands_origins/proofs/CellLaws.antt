-- What a cell holds, by its address, in the bytes at twice its position in its area. For any bytes. Assumes nothing.
use mathlib.Core.Path.{◌≡◌}
use Prim.Native.Nat.{ℕ, ◌+◌, ◌*◌, ◌-◌, ◌%◌}
use native.Mathlib.Omega.{arith}
use Rattle.number.proofs.TestLaws.{same_test}
use Rattle.map.specs.declared.Map.{Map}
use Rattle.map.specs.FormMap.{player}
use Rattle.map.specs.Map.{within}
use Rattle.map.proofs.MapLaws.{Good, within-true, true-within}
use Rattle.demands.specs.Addresses.{in_heap}
use Rattle.cells_layout.specs.Area.{origin_place, referent_place}
use Rattle.cells_layout.specs.Cells.{Cells, cell_ops}
use Rattle.demands_origins.specs.Alters.{cell_start, origin_in, referent_in}

-- ---- positions: an area's start is a multiple of 8

module _ (s a : ℕ) (e : s % 8 ≡ 0) where
  origin-place : origin_place (a - s) ≡ 2 * (cell_start a - s) + 0
  origin-place = omega arith

  referent-place : referent_place (a - s) ≡ 2 * (cell_start a - s) + 4
  referent-place = omega arith

-- a cell lies in the areas that its addresses lie in
same_area : (s z a : ℕ) → s % 8 ≡ 0 → z % 8 ≡ 0 → within s z (cell_start a) ≡ within s z a
same_area s z a e f =
    same_test (within s z (cell_start a)) (within s z a)
    (λ h. let u = within-true s z (cell_start a) h in true-within s z a (omega arith) (omega arith))
    (λ h. let u = within-true s z a h in true-within s z (cell_start a) (omega arith) (omega arith))

pub cell-start : (c : ℕ) → c % 4 ≡ 0 → cell_start c ≡ c
cell-start c e = omega arith

module _ (m : Map) (g : Good (player m)) where
  pub same_heap : (a : ℕ) → in_heap (player m) (cell_start a) ≡ in_heap (player m) a
  same_heap a = same_area m.heap_start m.heap_size a g.heap_start_whole g.heap_size_whole

  -- ---- what a cell holds

  pub origin-words : (x : Cells) (a : ℕ) → (cell_ops m).origin x a ≡ origin_in m x (cell_start a)
  origin-words x a =
      rw (same_heap a, origin-place m.heap_start a g.heap_start_whole, origin-place m.stack_start a g.stack_start8)

  pub referent-words : (x : Cells) (c : ℕ) → c % 4 ≡ 0 → (cell_ops m).referent x c ≡ referent_in m x c
  referent-words x c e =
      rw (referent-place m.heap_start c g.heap_start_whole, referent-place m.stack_start c g.stack_start8, cell-start c e)

-- The cells of a good map meet the laws of images: each operation changes the cells of its own area as it should, and those of the other stay.
-- Assumes nothing.
use mathlib.Core.Path.{◌≡◌, sym, ◌∙◌}
use mathlib.Core.Bool.{Bool, true, false, not}
use mathlib.Core.List.{List}
use Prim.Native.Nat.{ℕ, ◌+◌, ◌-◌, ◌%◌, ◌≤◌, ◌<◌}
use native.Mathlib.Omega.{arith}
use Rattle.number.proofs.TestLaws.{Test, is_true, is_false, test, cond-true}
use Rattle.map.specs.declared.Map.{Map}
use Rattle.map.specs.FormMap.{player}
use Rattle.map.specs.Map.{good_map, within}
use Rattle.map.proofs.MapLaws.{Good, good-true, within-true}
use Rattle.plain.specs.Areas.{map_rules}
use Rattle.plain.specs.Join.{read_one, write_one}
use Rattle.plain.proofs.AreaLaws.{heap-span, stack-span}
use Rattle.origins_list.specs.Cells.{Held, cut, cell_of, Small, CellImages}
use Rattle.cells_layout.specs.Area.{half_at, set_half, zero_cells}
use Rattle.cells_layout.specs.Cells.{Cells, cell_ops, cell_image}
use Rattle.cells_layout.proofs.AreaLaws.{place_of, half_of, put_if, area-cleared, area_same, area-half, area-put, area-zeroed, other-put, other-zeroed}

both : {x x' y y' : List ℕ} → x ≡ x' → y ≡ y' → ◌≡◌ {A = Cells} (x, y) (x', y')
both e d = rw (e, d)

module _ (m : Map) (G : Good (player m)) where
  abbrev hs : ℕ
  hs = m.heap_start

  abbrev hz : ℕ
  hz = m.heap_size

  abbrev ss : ℕ
  ss = m.stack_start

  abbrev sz : ℕ
  sz = m.stack_size

  hs4 : hs % 4 ≡ 0
  hs4 = omega (arith, G.heap_start_whole)

  hz4 : hz % 4 ≡ 0
  hz4 = omega (arith, G.heap_size_whole)

  ss4 : ss % 4 ≡ 0
  ss4 = omega (arith, G.stack_start8)

  sz4 : sz % 4 ≡ 0
  sz4 = omega (arith, G.stack_size8)

  -- an address of the map that is not the heap's
  in_stack : (a : ℕ) → (map_rules (player m)).inside a ≡ true → within hs hz a ≡ false → (ss ≤ a) × (a < ss + sz)
  in_stack a i t = within-true ss sz a (rw t at i)

  reads : (o : Bool) (f g : Held) → Small (half_of o f g) → (a : ℕ) → (map_rules (player m)).inside a ≡ true
      → read_one (within hs hz a) (λ h. half_at h (place_of o (a - hs))) (λ h. half_at h (place_of o (a - ss))) (cell_image m f g) ≡ half_of o f g (cell_of a)
  reads o f g small a i = go (test (within hs hz a))
    where
      go : Test (within hs hz a)
          → read_one (within hs hz a) (λ h. half_at h (place_of o (a - hs))) (λ h. half_at h (place_of o (a - ss))) (cell_image m f g)
          ≡ half_of o f g (cell_of a)
      go (is_true t) = let k = within-true hs hz a t in rw t (area-half hs hz hs4 hz4 o f g small a k.0 k.1)
      go (is_false t) = let k = in_stack a i t in rw t (area-half ss sz ss4 sz4 o f g small a k.0 k.1)

  puts : (o : Bool) (f g : Held) (a v : ℕ) → (map_rules (player m)).inside a ≡ true
      → write_one (within hs hz a) (λ h. set_half h (place_of o (a - hs)) v) (λ h. set_half h (place_of o (a - ss)) v) (cell_image m f g)
      ≡ cell_image m (put_if o (cell_of a) v f) (put_if (not o) (cell_of a) v g)
  puts o f g a v i = go (test (within hs hz a))
    where
      go : Test (within hs hz a)
          → write_one (within hs hz a) (λ h. set_half h (place_of o (a - hs)) v) (λ h. set_half h (place_of o (a - ss)) v) (cell_image m f g)
          ≡ cell_image m (put_if o (cell_of a) v f) (put_if (not o) (cell_of a) v g)
      go (is_true t) =
          let k = within-true hs hz a t in
          rw t
          (both (area-put hs hz hs4 hz4 o f g a v k.0)
          (other-put ss sz ss4 sz4 o (not o) f g a v (λ x y. G.no_share (omega arith) (omega arith))))
      go (is_false t) =
          let k = in_stack a i t in
          rw t
          (both (other-put hs hz hs4 hz4 o (not o) f g a v (λ x y. G.no_share (omega arith) (omega arith)))
          (area-put ss sz ss4 sz4 o f g a v k.0))

  zeroes : (f g : Held) (b l : ℕ) → 1 ≤ l → (map_rules (player m)).fits b l ≡ true
      → write_one (within hs hz b) (λ h. zero_cells h (b - hs) l) (λ h. zero_cells h (b - ss) l) (cell_image m f g) ≡ cell_image m (cut b l f) (cut b l g)
  zeroes f g b l n fit = go (test (within hs hz b)) fit
    where
      go : Test (within hs hz b) → (map_rules (player m)).fits b l ≡ true
          → write_one (within hs hz b) (λ h. zero_cells h (b - hs) l) (λ h. zero_cells h (b - ss) l) (cell_image m f g)
          ≡ cell_image m (cut b l f) (cut b l g)
      go (is_true t) e =
          let k = heap-span 8 hs hz b l (sym (cond-true (within hs hz b) _ _ t) ∙ e) in
          rw t
          (both (area-zeroed hs hz hs4 hz4 f g b l (omega arith) n)
          (other-zeroed ss sz ss4 sz4 f g b l (λ x y. G.no_share (omega arith) (omega arith))))
      go (is_false t) e =
          let k = stack-span ss sz b l (rw t at e) in
          rw t
          (both (other-zeroed hs hz hs4 hz4 f g b l (λ x y. G.no_share (omega arith) (omega arith)))
          (area-zeroed ss sz ss4 sz4 f g b l (omega arith) n))

pub cell-images : (m : Map) → good_map (player m) ≡ true → CellImages (map_rules (player m)).inside (map_rules (player m)).fits (cell_ops m) (cell_image m)
cell-images m e =
    let G = good-true (player m) e in
    record {
      image_same = λ f g f' g' hf hg.
          both (area_same _ _ (hs4 m G) (hz4 m G) f g f' g' (λ c x y. hf c) (λ c x y. hg c))
          (area_same _ _ (ss4 m G) (sz4 m G) f g f' g' (λ c x y. hf c) (λ c x y. hg c));
      image_cleared = both (area-cleared _ _) (area-cleared _ _);
      image_origin = λ f g small. reads m G true f g small;
      image_referent = λ f g small. reads m G false f g small;
      image_set_origin = λ f g. puts m G true f g;
      image_set_referent = λ f g. puts m G false f g;
      image_zeroed = λ f g. zeroes m G f g;
    }

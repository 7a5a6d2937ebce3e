-- The cells are those of the library's layout: what is read, stored and zeroed, and their image. Assumes nothing.
use mathlib.Core.Path.{◌≡◌, refl}
use mathlib.Core.Bool.{Bool, true, false, cond, ◌&&◌, ◌||◌}
use mathlib.Core.List.{List}
use Prim.Native.Nat.{ℕ, ◌+◌, ◌*◌, ◌-◌, ◌/◌, ◌%◌, ◌≤◌}
use native.Mathlib.Omega.{arith}
use lib.ListN.{length}
use lib.Dec.{leb, ltb}
use borrow.Author.Tests.{lt-ltb, ltb-true, ltb-false}
use Rattle.number.specs.Little.{byte_of, word}
use Rattle.number.specs.Parts.{at, tab, over, in_part}
use Rattle.number.proofs.PartLaws.{tab-ext}
use Rattle.number.proofs.TestLaws.{Test, is_true, is_false, test, same_test, in-facts, in-true, and-true, or_case, not-both}
use Rattle.cells_layout.specs.Area as area
use Rattle.cells_layout.specs.Cells.{cell_ops, cell_image, cells_fit}
use Rattle.specification.specs.Map.{Map, in_heap, in_stack, heap_end, stack_end}
use Rattle.specification_origins.specs.Cells.{Cells, right_cells, start_of, origin_at, referent_at, set_origin, set_referent, touches, without_cells, cell_byte, cells_image}

pub right-same : (m : Map) (x : Cells) → right_cells m x ≡ cells_fit m x
unfolding right_cells cells_fit
right-same m x = refl

-- ---- one cell

place : (p : ℕ) → 2 * (p - p % 4) ≡ p / 4 * 8
place p = omega arith

-- t: the address is the heap's; S and T are the starts of the areas
read_one : (t : Bool) (x : Cells) (S T : ℕ) (f : ℕ → List ℕ → ℕ) → f (cond t S T) (cond t x.0 x.1) ≡ cond t (f S x.0) (f T x.1)
read_one true x S T f = refl
read_one false x S T f = refl

change-one : (t : Bool) (x : Cells) (S T : ℕ) (f : ℕ → List ℕ → List ℕ)
    → cond {A = Cells} t (f (cond t S T) x.0, x.1) (x.0, f (cond t S T) x.1) ≡ cond {A = Cells} t (f S x.0, x.1) (x.0, f T x.1)
change-one true x S T f = refl
change-one false x S T f = refl

module _ (m : Map) (x : Cells) (a : ℕ) where
  pub origin-same : origin_at m x a ≡ (cell_ops m).origin x a
  origin-same = rw (place (a - start_of m a)) (read_one (in_heap m a) x m.heap_start m.stack_start (λ S h. word (at h) ((a - S) / 4 * 8) 4))

  pub referent-same : referent_at m x a ≡ (cell_ops m).referent x a
  referent-same = rw (place (a - start_of m a)) (read_one (in_heap m a) x m.heap_start m.stack_start (λ S h. word (at h) ((a - S) / 4 * 8 + 4) 4))

  pub set-origin : (v : ℕ) → set_origin m x a v ≡ (cell_ops m).set_origin x a v
  unfolding area.set_half
  set-origin v = rw (place (a - start_of m a)) (change-one (in_heap m a) x m.heap_start m.stack_start (λ S h. area.set_half h ((a - S) / 4 * 8) v))

  pub set-referent : (v : ℕ) → set_referent m x a v ≡ (cell_ops m).set_referent x a v
  unfolding area.set_half
  set-referent v = rw (place (a - start_of m a)) (change-one (in_heap m a) x m.heap_start m.stack_start (λ S h. area.set_half h ((a - S) / 4 * 8 + 4) v))

-- ---- the cells that touch a block: the block at S + p, byte q of the cells

touching : (S p l q : ℕ) → touches (S + p) l (S + 4 * (q / 8)) ≡ in_part (p / 4 * 8) (((p + l + 3) / 4 - p / 4) * 8) q
touching S p l q =
    let (c, low, n) : ℕ × ℕ × ℕ = (S + 4 * (q / 8), p / 4 * 8, ((p + l + 3) / 4 - p / 4) * 8) in
    same_test (ltb c (S + p + l) && ltb (S + p) (c + 4)) (leb low q && ltb q (low + n))
    (λ e. let (x, y) = and-true (ltb c (S + p + l)) (ltb (S + p) (c + 4)) e in
    let u = ltb-true c (S + p + l) x in
    let v = ltb-true (S + p) (c + 4) y in
    in-true low (low + n) q (omega arith) (omega arith))
    (λ e. let (x, y) = in-facts low (low + n) q e in rw (lt-ltb c (S + p + l) (omega (arith, x, y)), lt-ltb (S + p) (c + 4) (omega (arith, x, y))))

zeroed-at : (S p l : ℕ) (h : List ℕ) → tab 0 (length h) (λ q. cond (touches (S + p) l (S + 4 * (q / 8))) 0 (at h q)) ≡ area.zero_cells h p l
unfolding area.zero_cells over
zeroed-at S p l h =
    tab-ext (length h) 0 (λ q. cond (touches (S + p) l (S + 4 * (q / 8))) 0 (at h q)) (λ q. cond (in_part (p / 4 * 8) (((p + l + 3) / 4 - p / 4) * 8) q) 0 (at h q))
    (λ q x y. rw (touching S p l q))

zeroed-from : (S b l : ℕ) (h : List ℕ) → S ≤ b → tab 0 (length h) (λ q. cond (touches b l (S + 4 * (q / 8))) 0 (at h q)) ≡ area.zero_cells h (b - S) l
zeroed-from S b l h le = let e : S + (b - S) ≡ b = omega arith in rw e at (zeroed-at S (b - S) l h)

pub without-same : (m : Map) (x : Cells) (b l : ℕ) → (in_heap m b || in_stack m b) ≡ true → without_cells m x b l ≡ (cell_ops m).zeroed x b l
unfolding without_cells
without-same m x b l e = go (test (in_heap m b)) (test (in_stack m b))
  where
    go : Test (in_heap m b) → Test (in_stack m b) → without_cells m x b l ≡ (cell_ops m).zeroed x b l
    go (is_true h) k = rw (h, zeroed-from m.heap_start b l x.0 (in-facts m.heap_start (heap_end m) b h).0)
    go (is_false h) (is_true k) = rw (h, zeroed-from m.stack_start b l x.1 (in-facts m.stack_start (stack_end m) b k).0)
    go (is_false h) (is_false k) = absurd (or_case (in_heap m b) (in_stack m b) e (λ t. not-both (in_heap m b) t h) (λ t. not-both (in_stack m b) t k))

-- ---- the image

byte-same : (f g : ℕ → ℕ) (S q : ℕ) → cell_byte f g (S + 4 * (q / 8)) (q % 8) ≡ byte_of (cond (ltb (q % 8) 4) (f (S + q / 8 * 4)) (g (S + q / 8 * 4))) (q % 4)
byte-same f g S q = let e : 4 * (q / 8) ≡ q / 8 * 4 = omega arith in rw e (go (test (ltb (q % 8) 4)))
  where
    go : Test (ltb (q % 8) 4) → cell_byte f g (S + q / 8 * 4) (q % 8) ≡ byte_of (cond (ltb (q % 8) 4) (f (S + q / 8 * 4)) (g (S + q / 8 * 4))) (q % 4)
    go (is_true t) = let u = ltb-true (q % 8) 4 t in let z : q % 8 ≡ q % 4 = omega arith in rw (t, z)
    go (is_false t) = let u = ltb-false (q % 8) 4 t in let z : q % 8 - 4 ≡ q % 4 = omega arith in rw (t, z)

area_same : (f g : ℕ → ℕ) (S size : ℕ) → tab 0 (2 * size) (λ q. cell_byte f g (S + 4 * (q / 8)) (q % 8)) ≡ area.area_image S size f g
unfolding area.area_image
area_same f g S size =
    tab-ext (2 * size) 0 (λ q. cell_byte f g (S + 4 * (q / 8)) (q % 8)) (λ q. byte_of (cond (ltb (q % 8) 4) (f (S + q / 8 * 4)) (g (S + q / 8 * 4))) (q % 4))
    (λ q x y. byte-same f g S q)

pub cells-image : (m : Map) (f g : ℕ → ℕ) → cells_image m f g ≡ cell_image m f g
unfolding cells_image
cells-image m f g = rw (area_same f g m.heap_start m.heap_size, area_same f g m.stack_start m.stack_size)

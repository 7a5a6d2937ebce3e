-- Under a good map the image of a placed list is the image of the demands. Assumes nothing.
use mathlib.Core.Path.{◌≡◌, refl}
use mathlib.Core.Bool.{true}
use mathlib.Core.List.{List, [], ◌∷◌}
use Prim.Native.Nat.{ℕ, ◌+◌, ◌≤◌}
use Rattle.number.proofs.PartLaws.{tab-ext}
use Rattle.number.proofs.TestLaws.{Test, is_true, is_false, test, in-facts}
use Rattle.map.specs.declared.Map.{Map}
use Rattle.map.specs.declared.Form as kind
use Rattle.map.specs.FormMap.{under, number_size, segment_size}
use Rattle.map.specs.Map.{good_map}
use Rattle.plain.specs.Areas.{map_rules}
use Rattle.plain.specs.Block.{Block, len}
use Rattle.plain.specs.Rules.{Placed}
use Rattle.plain.specs.Layer.{layer}
use Rattle.plain.specs.Lift.{down, downs}
use Rattle.plain.specs.Join.{only}
use Rattle.heap_layout.specs.Image as heap
use Rattle.stack_layout.specs.Image as stack
use Rattle.shadows.specs.Shadows as shadows
use Rattle.specification.specs.Map.{stack_end, in_heap, in_stack}
use Rattle.specification.specs.Stack.{primary_byte, secondary_byte}
use Rattle.specification.specs.Form.{Form}
use Rattle.specification.specs.Image.{given, in_place, in_stack_block, image}
use Rattle.specification.proofs.Forms.{form, byte_by}
use Rattle.specification.proofs.ByteSame.{stands, one-heap, primary-same, secondary-same, holds_same}

-- ---- the heap

module _ (f : kind.Form) (m : Map) (g : good_map (under f m) ≡ true) (q : ℕ) where
  abbrev F : Form
  F = form f

  abbrev S : ℕ
  S = m.heap_start

  no_block : 0 ≡ heap.heap_byte (number_size f) (segment_size f) [] q
  unfolding heap.heap_byte heap.cell_byte layer
  no_block = refl

  -- the byte of a list, here and in the layout's image
  abbrev Heap : List Block → Type 0
  Heap bs = given (in_place F m (S + q)) (λ b. byte_by f b (S + q)) bs ≡ heap.heap_byte (number_size f) (segment_size f) (downs S (only (in_heap m) bs)) q

  heap-given : (bs : List Block) (from : ℕ) → Placed (map_rules (under f m)) from bs → Heap bs
  unfolding given only
  heap-given [] from p = no_block
  heap-given (b ∷ bs) from p = go (heap-given bs ((map_rules (under f m)).high b.base (len b)) p.later) (test (in_heap m b.base))
    where
      go : Heap bs → Test (in_heap m b.base) → Heap (b ∷ bs)
      go r (is_true h) = let (x, y, z) = stands f m g b.base (len b) h p.fits p.aligned in rw (h, r) (one-heap f S b q x y z (downs S (only (in_heap m) bs)))
      go r (is_false h) = rw (h, r)

-- ---- the stack: primary or secondary

module _ (m : Map) (q : ℕ) (byte own : Block → ℕ → ℕ) (same : (b : Block) → m.stack_start ≤ b.base → byte b (m.stack_start + q) ≡ own (down m.stack_start b) q) where
  abbrev K : ℕ
  K = m.stack_start

  abbrev Stack : List Block → Type 0
  Stack bs = given (in_stack_block m (K + q)) (λ b. byte b (K + q)) bs ≡ stack.by_block own (downs K (only (in_stack m) bs)) q

  stack-given : (bs : List Block) → Stack bs
  unfolding given only layer
  stack-given [] = refl
  stack-given (b ∷ bs) = go (stack-given bs) (test (in_stack m b.base))
    where
      go : Stack bs → Test (in_stack m b.base) → Stack (b ∷ bs)
      go r (is_true h) = let (l, _) = in-facts K (stack_end m) b.base h in rw (h, r, holds_same K b q l, same b l)
      go r (is_false h) = rw (h, r)

-- ---- the whole image

pub image_same : (f : kind.Form) (m : Map) (bs : List Block) → good_map (under f m) ≡ true → Placed (map_rules (under f m)) 0 bs → image (form f) m bs ≡ shadows.image (under f m) bs
unfolding image heap.heap_image stack.stack_image
image_same f m bs g p =
    let S : ℕ = m.heap_start in
    let K : ℕ = m.stack_start in
    rw (
      tab-ext m.heap_size 0 (λ q. given (in_place (form f) m (S + q)) (λ b. byte_by f b (S + q)) bs) (heap.heap_byte (number_size f) (segment_size f) (downs S (only (in_heap m) bs)))
          (λ q x y. heap-given f m g q bs 0 p),
      tab-ext m.stack_size 0 (λ q. given (in_stack_block m (K + q)) (λ b. primary_byte b (K + q)) bs) (stack.primary_byte (downs K (only (in_stack m) bs)))
          (λ q x y. stack-given m q primary_byte stack.primary_own (λ b. primary-same K b q) bs),
      tab-ext m.stack_size 0 (λ q. given (in_stack_block m (K + q)) (λ b. secondary_byte b (K + q)) bs) (stack.secondary_byte (downs K (only (in_stack m) bs)))
          (λ q x y. stack-given m q secondary_byte stack.secondary_own (λ b. secondary-same K b q) bs),
    )

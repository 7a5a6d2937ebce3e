-- The reading of an address looks at 2 W + 1 shadow bytes at most in the heap, at nine in the stack. Assumes nothing.
use mathlib.Core.Path.{◌≡◌, refl}
use mathlib.Core.Bool.{Bool, true, false, cond}
use mathlib.Core.List.{List, [], ◌∷◌, map}
use Prim.Native.Nat.{ℕ, ◌+◌, ◌-◌, ◌≤◌}
use native.Mathlib.Omega.{arith}
use lib.ListN.{length}
use Rattle.number.specs.Parts.{at, Each}
use Rattle.number.proofs.TestLaws.{Test, is_true, is_false, test}
use Rattle.map.specs.FormMap.{FormMap}
use Rattle.map.specs.Map.{within}
use Rattle.plain.specs.Areas.{map_rules}
use Rattle.plain.specs.Ops.{read_any}
use Rattle.heap_layout.specs.Reading.{heap_looks}
use Rattle.heap_layout.proofs.LooksLaws as heaps
use Rattle.heap_layout.proofs.LooksLaws.{length-looks, heap-looks}
use Rattle.stack_layout.specs.Reading as stack
use Rattle.stack_layout.specs.Reading.{stack_looks}
use Rattle.stack_layout.proofs.LooksLaws.{looks-nine, Agree, reading-same, looks-same}
use Rattle.shadows.specs.Shadows.{Shadows, shadow_ops, Place, heap, byte_at, stack_place, looks}

length-map : {X Y : Type 0} (f : X → Y) (xs : List X) → length (map f xs) ≡ length xs
length-map f [] = refl
length-map f (x ∷ xs) = rw (length-map f xs)

each_map : {X Y : Type 0} (f : X → Y) (P : Y → Type 0) (Q : X → Type 0) → ((x : X) → P (f x) → Q x) → (xs : List X) → Each P (map f xs) → Each Q xs
each_map f P Q h [] e = tt
each_map f P Q h (x ∷ xs) e = (h x e.0, each_map f P Q h xs e.1)

module _ (m : FormMap) (s : Shadows) (a : ℕ) where
  abbrev in_heap : Bool
  in_heap = within m.heap_start m.heap_size a

  abbrev in_stack : Bool
  in_stack = within m.stack_start m.stack_size a

  abbrev p : ℕ
  p = a - m.heap_start

  abbrev q : ℕ
  q = a - m.stack_start

  pub looks-at-few : length (looks m s a) ≤ cond in_heap (m.width + m.width + 1) 9
  looks-at-few = go (test in_heap) (test in_stack)
    where
      go : Test in_heap → Test in_stack → length (looks m s a) ≤ cond in_heap (m.width + m.width + 1) 9
      go (is_true h) k = rw (h, length-map heap (heap_looks m.width m.segment (at s.0) p), length-looks m.width m.segment (at s.0) p) (omega arith)
      go (is_false h) (is_true k) = rw (h, k, length-map stack_place (stack_looks (at s.1.0) q)) (looks-nine (at s.1.0) q)
      go (is_false h) (is_false k) = rw (h, k) (omega arith)

  -- shadows that agree on what the reading looks at
  module _ (t : Shadows) (e : Each (λ x. byte_at t x ≡ byte_at s x) (looks m s a)) where
    on-heap : in_heap ≡ true → Each (λ x. at t.0 x ≡ at s.0 x) (heap_looks m.width m.segment (at s.0) p)
    on-heap h = each_map heap (λ x. byte_at t x ≡ byte_at s x) (λ x. at t.0 x ≡ at s.0 x) (λ x y. y) (heap_looks m.width m.segment (at s.0) p) (rw h at e)

    on_stack : in_heap ≡ false → in_stack ≡ true → Each (Agree (at s.1.0) (at s.1.1) (at t.1.0) (at t.1.1)) (stack_looks (at s.1.0) q)
    on_stack h k =
        each_map stack_place (λ x. byte_at t x ≡ byte_at s x) (Agree (at s.1.0) (at s.1.1) (at t.1.0) (at t.1.1)) place
        (stack_looks (at s.1.0) q) (rw (h, k) at e)
      where
        place : (x : stack.Place) → byte_at t (stack_place x) ≡ byte_at s (stack_place x) → Agree (at s.1.0) (at s.1.1) (at t.1.0) (at t.1.1) x
        place (stack.primary y) w = w
        place (stack.secondary y) w = w

    pub reads_same : read_any (map_rules m) (shadow_ops m) t a ≡ read_any (map_rules m) (shadow_ops m) s a
    unfolding read_any
    reads_same = go (test in_heap) (test in_stack)
      where
        go : Test in_heap → Test in_stack → read_any (map_rules m) (shadow_ops m) t a ≡ read_any (map_rules m) (shadow_ops m) s a
        go (is_true h) k = rw (h, heap-looks m.width m.segment m.heap_size (at s.0) (at t.0) p (on-heap h))
        go (is_false h) (is_true k) =
            rw (h, k, reading-same m.stack_size (at s.1.0) (at s.1.1) (at t.1.0) (at t.1.1) q (on_stack h k))
        go (is_false h) (is_false k) = rw (h, k)

    pub looks-at-same : looks m t a ≡ looks m s a
    looks-at-same = go (test in_heap) (test in_stack)
      where
        go : Test in_heap → Test in_stack → looks m t a ≡ looks m s a
        go (is_true h) k = rw (h, heaps.looks-same m.width m.segment (at s.0) (at t.0) p (on-heap h))
        go (is_false h) (is_true k) = rw (h, k, looks-same (at s.1.0) (at s.1.1) (at t.1.0) (at t.1.1) q (on_stack h k))
        go (is_false h) (is_false k) = rw (h, k)

-- The reading of a heap address is the layout's reading of its position, told by addresses. Assumes nothing.
use mathlib.Core.Path.{◌≡◌, refl}
use mathlib.Core.Bool.{Bool, true, false, cond, ◌||◌}
use mathlib.Core.List.{List}
use Prim.Native.Nat.{ℕ, ◌+◌, ◌*◌, ◌-◌, ◌/◌, ◌%◌, ◌≤◌}
use native.Mathlib.Omega.{arith}
use lib.Dec.{leb, ltb, eqb}
use borrow.Author.Tests.{lt-ltb, le-ltb, ltb-true, ltb-false}
use Rattle.number.specs.Little.{word}
use Rattle.number.specs.Parts.{at}
use Rattle.number.proofs.TestLaws.{Test, is_true, is_false, test, same_test}
use Rattle.map.specs.declared.Map.{Map}
use Rattle.plain.specs.Lift.{reading_up}
use Rattle.plain.specs.Reading.{nothing, block, damaged}
use Rattle.heap_layout.specs.Reading.{bits_place, written_bit, heap_reading}
use Rattle.specification.specs.Heap.{bits_at, bit_number, read_heap}

-- three tests for damage at once, and one after the other
pub told : (S : ℕ) (t₁ t₂ t₃ t₄ : Bool) (B L o w : ℕ) → cond (t₁ || t₂ || t₃) damaged (cond t₄ nothing (block (S + B) L o w false))
    ≡ reading_up S (cond t₁ damaged (cond t₂ damaged (cond t₃ damaged (cond t₄ nothing (block B L o w false)))))
told S true t₂ t₃ t₄ B L o w = refl
told S false true t₃ t₄ B L o w = refl
told S false false true t₄ B L o w = refl
told S false false false true B L o w = refl
told S false false false false B L o w = refl

-- ---- positions and addresses

pub sums : (S x y : ℕ) → S + x + y ≡ S + (x + y)
sums S x y = omega arith

pub less : (S x y : ℕ) → S + x - (S + y) ≡ x - y
less S x y = omega arith

pub down : (S x d : ℕ) → d ≤ x → S + x - d ≡ S + (x - d)
down S x d l = omega arith

-- a sum on both sides
pub past-start : (S x y : ℕ) → ltb (S + x) (S + y) ≡ ltb x y
past-start S x y =
    same_test (ltb (S + x) (S + y)) (ltb x y)
    (λ e. let l = ltb-true (S + x) (S + y) e in lt-ltb x y (omega arith))
    (λ e. let l = ltb-true x y e in lt-ltb (S + x) (S + y) (omega arith))

module _ (m : Map) (p : ℕ) where
  abbrev S : ℕ
  S = m.heap_start

  abbrev seg : ℕ
  seg = p / 8 * 8

  e₀ : S + p - S ≡ p
  e₀ = omega arith

  e₁ : S + p - p % 8 ≡ S + seg
  e₁ = omega arith

  e₂ : S + seg - S ≡ seg
  e₂ = omega arith

  bits : S + seg + 4 - S ≡ bits_place 4 8 p
  bits = omega arith

  bit : S + p - (S + seg) ≡ p % 8 % 8
  bit = omega arith

  pub bits-at : bits_at m (S + p) - S ≡ bits_place 4 8 p
  bits-at = rw (e₀, e₁) bits

  pub bit_at : bit_number m (S + p) ≡ p % 8 % 8
  bit_at = rw (e₀, e₁) bit

  module _ (h : List ℕ) where
    abbrev w : ℕ
    w = word (at h) seg 4

    abbrev d : ℕ
    d = w - 1

    header : (B : ℕ) → 8 ≤ B → S + B - 4 - S ≡ B - 8 + 4
    header B l = omega arith

    pub heap-at : read_heap m h (S + p) ≡ reading_up S (heap_reading 4 8 m.heap_size (at h) p)
    unfolding read_heap heap_reading
    heap-at = go (test (eqb w 0)) (test (eqb (d % 8) 0)) (test (ltb seg (d + 8)))
      where
        go : Test (eqb w 0) → Test (eqb (d % 8) 0) → Test (ltb seg (d + 8)) → read_heap m h (S + p) ≡ reading_up S (heap_reading 4 8 m.heap_size (at h) p)
        go (is_true e) x y = rw (e₀, e₁, e₂, e)
        go (is_false e) (is_false x) y = rw (e₀, e₁, e₂, e, x)
        go (is_false e) (is_true x) (is_true y) =
            let l = ltb-true seg (d + 8) y in
            rw (e₀, e₁, e₂, e, x, y, lt-ltb (S + seg) (S + 8 + d) (omega arith))
        go (is_false e) (is_true x) (is_false y) =
            let l = ltb-false seg (d + 8) y in
            let B : ℕ = seg - d in
            let L : ℕ = word (at h) (B - 8 + 4) 4 in
            rw (
              e₀,
              e₁,
              e₂,
              e,
              x,
              y,
              le-ltb (S + seg) (S + 8 + d) (omega arith),
              down S seg d (omega arith),
              header B (omega arith),
              sums S B L,
              past-start S m.heap_size (B + L),
              less S p B,
              bits,
              bit,
            )
            (told S (eqb L 0) (ltb m.heap_size (B + L)) (leb L d) (leb L (p - B)) B L (p - B) (written_bit 4 8 (at h) p))

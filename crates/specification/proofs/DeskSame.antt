-- S-8: the desk's readings and written bits are those of the layout with numbers of eight bytes and segments of 16. Assumes nothing.
use mathlib.Core.Path.{◌≡◌, refl, sym}
use mathlib.Core.Bool.{Bool, true, false, cond, not, ◌||◌}
use mathlib.Core.List.{List}
use Prim.Native.Nat.{ℕ, ◌+◌, ◌*◌, ◌-◌, ◌/◌, ◌%◌, ◌≤◌, ◌<◌}
use native.Mathlib.Omega.{arith}
use lib.Dec.{leb, ltb, eqb}
use borrow.Author.Tests.{lt-ltb, le-ltb, ltb-true, ltb-false, leb-true}
use Rattle.number.specs.Little.{word}
use Rattle.number.specs.Parts.{at}
use Rattle.number.proofs.TestLaws.{Test, is_true, is_false, test}
use Rattle.map.specs.declared.Map.{Map}
use Rattle.plain.specs.Lift.{reading_up}
use Rattle.heap_layout.specs.Reading.{bits_place, written_bit, heap_reading}
use Rattle.specification.specs.Desk.{bits_at, bit_number, is_huge, read_desk}
use Rattle.specification.proofs.HeapSame.{told, sums, less, down, past-start}

-- a number of 2 to the 32 or more comes with another damage
spare : (t u v : Bool) → (t ≡ true → v ≡ true) → (t || u || v) ≡ (u || v)
spare true true v f = refl
spare true false v f = sym (f refl)
spare false u v f = refl

module _ (m : Map) (p : ℕ) where
  abbrev S : ℕ
  S = m.heap_start

  abbrev seg : ℕ
  seg = p / 16 * 16

  e₀ : S + p - S ≡ p
  e₀ = omega arith

  e₁ : S + p - p % 16 ≡ S + seg
  e₁ = omega arith

  e₂ : S + seg - S ≡ seg
  e₂ = omega arith

  e₃ : S + p - (S + seg) ≡ p % 16
  e₃ = omega arith

  e₄ : cond (ltb (p % 16) 8) 8 9 ≡ 8 + p % 16 / 8
  e₄ = go (test (ltb (p % 16) 8))
    where
      go : Test (ltb (p % 16) 8) → cond (ltb (p % 16) 8) 8 9 ≡ 8 + p % 16 / 8
      go (is_true e) = let x = ltb-true (p % 16) 8 e in rw e (omega arith)
      go (is_false e) = let x = ltb-false (p % 16) 8 e in rw e (omega arith)

  bits : S + seg + (8 + p % 16 / 8) - S ≡ bits_place 8 16 p
  bits = omega arith

  pub bits-at : bits_at m (S + p) - S ≡ bits_place 8 16 p
  bits-at = rw (e₀, e₁, e₃, e₄) bits

  pub bit_at : bit_number m (S + p) ≡ p % 16 % 8
  bit_at = rw (e₀, e₁, e₃)

  module _ (h : List ℕ) (inside : p < m.heap_size) (end : S + m.heap_size ≤ 4294967295) where
    abbrev w : ℕ
    w = word (at h) seg 8

    abbrev d : ℕ
    d = w - 1

    header : (B : ℕ) → 16 ≤ B → S + B - 8 - S ≡ B - 16 + 8
    header B l = omega arith

    huge-w : (is_huge w || not (eqb (d % 16) 0) || ltb (S + seg) (S + 16 + d)) ≡ (not (eqb (d % 16) 0) || ltb (S + seg) (S + 16 + d))
    huge-w =
        spare (is_huge w) (not (eqb (d % 16) 0)) (ltb (S + seg) (S + 16 + d))
        (λ k. let z = leb-true 4294967296 w k in lt-ltb (S + seg) (S + 16 + d) (omega arith))

    huge-L : (B L : ℕ) → (is_huge L || eqb L 0 || ltb m.heap_size (B + L)) ≡ (eqb L 0 || ltb m.heap_size (B + L))
    huge-L B L =
        spare (is_huge L) (eqb L 0) (ltb m.heap_size (B + L))
        (λ k. let z = leb-true 4294967296 L k in lt-ltb m.heap_size (B + L) (omega arith))

    pub desk-at : read_desk m h (S + p) ≡ reading_up S (heap_reading 8 16 m.heap_size (at h) p)
    unfolding read_desk heap_reading
    desk-at = go (test (eqb w 0)) (test (eqb (d % 16) 0)) (test (ltb seg (d + 16)))
      where
        go : Test (eqb w 0) → Test (eqb (d % 16) 0) → Test (ltb seg (d + 16)) → read_desk m h (S + p) ≡ reading_up S (heap_reading 8 16 m.heap_size (at h) p)
        go (is_true e) x y = rw (e₀, e₁, e₂, e)
        go (is_false e) (is_false x) y = rw (e₀, e₁, e₂, huge-w, e, x)
        go (is_false e) (is_true x) (is_true y) =
            let l = ltb-true seg (d + 16) y in
            rw (e₀, e₁, e₂, huge-w, e, x, y, lt-ltb (S + seg) (S + 16 + d) (omega arith))
        go (is_false e) (is_true x) (is_false y) =
            let l = ltb-false seg (d + 16) y in
            let B : ℕ = seg - d in
            let L : ℕ = word (at h) (B - 16 + 8) 8 in
            rw (
              e₀,
              e₁,
              e₂,
              huge-w,
              e,
              x,
              y,
              le-ltb (S + seg) (S + 16 + d) (omega arith),
              down S seg d (omega arith),
              header B (omega arith),
              sums S B L,
              past-start S m.heap_size (B + L),
              huge-L B L,
              less S p B,
              e₃,
              e₄,
              bits,
            )
            (told S (eqb L 0) (ltb m.heap_size (B + L)) (leb L d) (leb L (p - B)) B L (p - B) (written_bit 8 16 (at h) p))

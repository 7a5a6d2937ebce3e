-- One step of the audit's walk, at numbers of W bytes and segments of two numbers: what the two numbers of a segment decide. Assumes nothing.
use mathlib.Core.Path.{◌≡◌, refl, sym}
use mathlib.Core.Bool.{false, cond, ◌&&◌}
use Prim.Native.Nat.{ℕ, zero, suc, ◌+◌, ◌*◌, ◌-◌, ◌/◌, ◌^◌, ◌≤◌, ◌<◌, min}
use native.Mathlib.Omega.{arith}
use native.Mathlib.Nat.{one-le-pow, div-eq_of_lt}
use lib.Dec.{leb, eqb}
use borrow.Author.Tests.{le-leb, lt-leb, eq-eqb, ne_eqb}
use Rattle.number.specs.Little.{word}
use Rattle.number.specs.Bits.{of_bits}
use Rattle.number.proofs.TestLaws.{and_false_r}
use Rattle.number.proofs.LittleLaws.{word_lt}
use Rattle.plain.specs.Found.{bad, goes_on, begins}
use Rattle.heap_layout.specs.Image.{free, header, segment}
use Rattle.heap_layout.specs.Walk.{matches, marks_at, heap_walk}
use Rattle.heap_laws.proofs.PairLaws.{cell_free, cell-header, cell-segment}
use Rattle.heap_audit_laws.proofs.MatchLaws.{pair_matches}
use Rattle.heap_audit_laws.proofs.BitsLaws.{marks-lt, marks-fit, marks-high}

-- ---- a step, low and high the numbers of segment s

module _ (W G : ℕ) (wide : 4 ≤ W) (two : G ≡ W + W) (size : ℕ) (f : ℕ → ℕ) (bytes : (q : ℕ) → f q < 256) (n s low high : ℕ)
    (x : low ≡ word f (s * G) W) (y : high ≡ word f (s * G + W) W) where
  none_lt : 0 < 256 ^ W
  none_lt = one-le-pow W 256 (omega arith)

  free-is : matches W G size f s free ≡ (eqb low 0 && eqb high 0)
  free-is = pair_matches W G size two f s free low high 0 0 bytes x y none_lt none_lt (λ r k. cell_free W r)

  header_is : matches W G size f s (header high) ≡ (eqb low 0 && eqb high high)
  header_is =
      pair_matches W G size two f s (header high) low high 0 high bytes x y none_lt (rw y (word_lt f (s * G + W) W bytes))
      (λ r k. cell-header W high r (omega arith))

  segment-is : (d k : ℕ) → d + 1 < 256 ^ W → k ≤ G
      → matches W G size f s (segment d (marks_at W G size f s k)) ≡ (eqb low (d + 1) && eqb high (of_bits (marks_at W G size f s k)))
  segment-is d k u v =
      pair_matches W G size two f s (segment d (marks_at W G size f s k)) low high (d + 1) (of_bits (marks_at W G size f s k)) bytes x y u
      (marks-fit W G size wide two f bytes s high y k v)
      (λ r h. cell-segment W d (marks_at W G size f s k) r)

  pub walk-free : low ≡ 0 → high ≡ 0 → heap_walk W G size f (suc n) s 0 0 ≡ heap_walk W G size f n (suc s) 0 0
  unfolding heap_walk
  walk-free a b = rw (free-is, eq-eqb low 0 a, eq-eqb high 0 b)

  pub walk-low : (low ≡ 0 → ⊥) → heap_walk W G size f (suc n) s 0 0 ≡ bad
  unfolding heap_walk
  walk-low a =
      rw (
        free-is,
        ne_eqb low 0 a,
        ← y,
        header_is,
        ne_eqb low 0 a,
        and_false_r (leb 1 high && leb (suc s * G + high) size) (false && eqb high high) refl,
      )

  pub walk-past : low ≡ 0 → (high ≡ 0 → ⊥) → size < suc s * G + high → heap_walk W G size f (suc n) s 0 0 ≡ bad
  unfolding heap_walk
  walk-past a b c = rw (free-is, eq-eqb low 0 a, ne_eqb high 0 b, ← y, le-leb 1 high (omega arith), lt-leb (suc s * G + high) size c)

  pub walk-opens : low ≡ 0 → (high ≡ 0 → ⊥) → suc s * G + high ≤ size
      → heap_walk W G size f (suc n) s 0 0 ≡ begins (suc s * G) false (heap_walk W G size f n (suc s) high 0)
  unfolding heap_walk
  walk-opens a b c =
      rw (free-is, eq-eqb low 0 a, ne_eqb high 0 b, ← y, le-leb 1 high (omega arith), le-leb (suc s * G + high) size c, header_is, eq-eqb low 0 a, eq-eqb high high refl)

  module _ (L d : ℕ) (l : L ≡ 0 → ⊥) (u : d + 1 < 256 ^ W) where
    -- how many bytes of the block the segment has
    abbrev here : ℕ
    here = min G (L - d)

    here-le : here ≤ G
    here-le = omega arith

    pub walk-number : (low ≡ d + 1 → ⊥) → heap_walk W G size f (suc n) s L d ≡ bad
    unfolding heap_walk
    walk-number a = rw (ne_eqb L 0 l, segment-is d here u here-le, ne_eqb low (d + 1) a)

    pub walk-bits : low ≡ d + 1 → (high / 2 ^ min G (L - d) ≡ 0 → ⊥) → heap_walk W G size f (suc n) s L d ≡ bad
    unfolding heap_walk
    walk-bits a b =
        rw (
          ne_eqb L 0 l,
          segment-is d here u here-le,
          eq-eqb low (d + 1) a,
          ne_eqb high (of_bits (marks_at W G size f s here)) (λ e. b (rw e (div-eq_of_lt (marks-lt W G size wide two f bytes s high y here here-le)))),
        )

    pub walk-goes : low ≡ d + 1 → high / 2 ^ min G (L - d) ≡ 0
        → heap_walk W G size f (suc n) s L d
        ≡ goes_on (marks_at W G size f s (min G (L - d))) (heap_walk W G size f n (suc s) (cond (leb L (d + G)) 0 L) (d + G))
    unfolding heap_walk
    walk-goes a b =
        rw (
          ne_eqb L 0 l,
          segment-is d here u here-le,
          eq-eqb low (d + 1) a,
          eq-eqb high (of_bits (marks_at W G size f s here)) (sym (marks-high W G size wide two f bytes s high y here here-le b)),
        )

-- where no block goes on, the offset says nothing
pub walk-idle : (W G size : ℕ) (f : ℕ → ℕ) (n s d : ℕ) → heap_walk W G size f n s 0 d ≡ heap_walk W G size f n s 0 0
unfolding heap_walk
walk-idle W G size f zero s d = refl
walk-idle W G size f (suc n) s d = refl

-- Four zeros at once: as a number that is read, and as one that is written. Assumes nothing.
use mathlib.Core.Path.{◌≡◌, refl, sym, ap, ◌∙◌}
use mathlib.Core.Bool.{true, false, ◌&&◌, and_assoc}
use mathlib.Core.List.{List}
use Prim.Native.Nat.{ℕ, zero, suc, ◌+◌, ◌-◌, ◌*◌}
use native.Mathlib.Omega.{arith}
use native.Mathlib.Nat.{add-zero, add-suc, suc-add, zero-add}
use lib.Dec.{eqb}
use Rattle.number.specs.Little.{word, byte_of}
use Rattle.number.specs.Parts.{at, zeros, over}
use Rattle.number.proofs.TestLaws.{Test, is_true, is_false, test, eqb_same}
use Rattle.number.proofs.LittleLaws.{byte_of-zero}
use Rattle.number.proofs.PartLaws.{over-ext, over-next}
use borrow.Author.Tests.{ne_eqb, eqb-true, eqb-false}

-- a number is zero exactly if its bytes are
pub zero_word : (f : ℕ → ℕ) (q w : ℕ) → eqb (word f q w) 0 ≡ zeros f q w
unfolding word zeros
zero_word f q zero = refl
zero_word f q (suc w) = go (test (eqb (f q) 0)) ∙ ap (λ t. eqb (f q) 0 && t) (zero_word f (suc q) w)
  where
    r : ℕ
    r = word f (suc q) w

    go : Test (eqb (f q) 0) → eqb (f q + 256 * r) 0 ≡ (eqb (f q) 0 && eqb r 0)
    go (is_true e) = let z : f q ≡ 0 = eqb-true (f q) 0 e in rw (e, z) (eqb_same (0 + 256 * r) 0 r 0 (λ x. omega arith) (λ x. omega arith))
    go (is_false e) = let z : f q ≡ 0 → ⊥ = eqb-false (f q) 0 e in rw e (ne_eqb (f q + 256 * r) 0 (λ x. z (omega arith)))

-- zeros, and zeros right after them
pub zeros-next : (f : ℕ → ℕ) (q m n : ℕ) → zeros f q (m + n) ≡ (zeros f q m && zeros f (q + m) n)
unfolding zeros
zeros-next f q zero n = rw (zero-add n, add-zero q)
zeros-next f q (suc m) n =
    rw (suc-add m n, zeros-next f (suc q) m n, suc-add q m, ← add-suc q m) (sym (and_assoc (eqb (f q) 0) (zeros f (suc q) m) (zeros f (q + suc m) n)))

-- the number 0 writes zeros
pub put-zero : (a n : ℕ) (h : List ℕ) → over a n (λ q. byte_of 0 (q - a)) h ≡ over a n (λ q. 0) h
put-zero a n h = over-ext a n (λ q. byte_of 0 (q - a)) (λ q. 0) h (λ q x y. byte_of-zero (q - a))

-- two numbers 0, one right after the other
pub put-zeros : (a m n : ℕ) (h l l' : List ℕ) → l ≡ over a m (λ q. byte_of 0 (q - a)) h → l' ≡ over (a + m) n (λ q. byte_of 0 (q - (a + m))) l
    → l' ≡ over a (m + n) (λ q. 0) h
put-zeros a m n h l l' e e' =
    e' ∙ put-zero (a + m) n l ∙ ap (over (a + m) n (λ q. 0)) (e ∙ put-zero a m h) ∙ over-next a m n (λ q. 0) (λ q. 0) h (λ q x y. refl)

-- Whether a segment is what the layout gives for a cell, told by its two numbers, which are the whole segment. Assumes nothing.
use mathlib.Core.Path.{◌≡◌, sym, ap, ◌∙◌}
use mathlib.Core.Bool.{true, ◌&&◌}
use Prim.Native.Nat.{ℕ, ◌+◌, ◌*◌, ◌-◌, ◌^◌, ◌<◌}
use native.Mathlib.Omega.{arith}
use native.Mathlib.Nat.{add_assoc, add-sub_cancel_left}
use lib.Dec.{ltb, eqb}
use borrow.Author.Tests.{lt-ltb, le-ltb, eq-eqb, eqb-true, ltb-true, ltb-false}
use Rattle.number.specs.Little.{word}
use Rattle.number.proofs.TestLaws.{Test, is_true, is_false, test, and-true, same_test}
use Rattle.number.proofs.LittleLaws.{word_of}
use Rattle.number.proofs.WordLaws.{byte_of-word}
use Rattle.heap_layout.specs.Image.{Cell, cell_byte}
use Rattle.heap_layout.specs.Walk.{matches}
use Rattle.heap_layout.proofs.WalkLaws.{matches-shows, shows-matches}
use Rattle.heap_laws.specs.Pair.{pair_byte}

-- a segment of two numbers shows a cell of two numbers exactly if the numbers are equal
pub pair_matches : (W G size : ℕ) → G ≡ W + W → (f : ℕ → ℕ) (s : ℕ) (c : Cell) (low high lo hi : ℕ) → ((q : ℕ) → f q < 256)
    → low ≡ word f (s * G) W → high ≡ word f (s * G + W) W → lo < 256 ^ W → hi < 256 ^ W
    → ((r : ℕ) → r < G → cell_byte W c r ≡ pair_byte W lo hi r) → matches W G size f s c ≡ (eqb low lo && eqb high hi)
unfolding pair_byte
pair_matches W G size two f s c low high lo hi b x y u v e =
    same_test (matches W G size f s c) (eqb low lo && eqb high hi) there back
  where
    there : matches W G size f s c ≡ true → (eqb low lo && eqb high hi) ≡ true
    there t =
        let g : (r : ℕ) → r < G → f (s * G + r) ≡ pair_byte W lo hi r = λ r k. matches-shows W G size f s c t r k ∙ e r k in
        rw (
          eq-eqb low lo (x ∙ word_of f W (s * G) lo (λ i k. g i (omega arith) ∙ rw (lt-ltb i W k)) u),
          eq-eqb high hi (y ∙ word_of f W (s * G + W) hi
              (λ i k. rw (add_assoc (s * G) W i, g (W + i) (omega arith), le-ltb (W + i) W (omega arith), add-sub_cancel_left W i)) v),
        )

    part : (r : ℕ) → r < G → lo ≡ word f (s * G) W → hi ≡ word f (s * G + W) W → Test (ltb r W) → pair_byte W lo hi r ≡ f (s * G + r)
    part r k l h (is_true t) = rw (t, l) (byte_of-word f b W (s * G) r (ltb-true r W t))
    part r k l h (is_false t) =
        let w = ltb-false r W t in
        let n : s * G + W + (r - W) ≡ s * G + r = omega arith in
        rw (t, h) (byte_of-word f b W (s * G + W) (r - W) (omega arith) ∙ ap f n)

    back : (eqb low lo && eqb high hi) ≡ true → matches W G size f s c ≡ true
    back t =
        let p = and-true (eqb low lo) (eqb high hi) t in
        let l : lo ≡ word f (s * G) W = sym (eqb-true low lo p.0) ∙ x in
        let h : hi ≡ word f (s * G + W) W = sym (eqb-true high hi p.1) ∙ y in
        shows-matches W G size f s c (λ r k. sym (e r k ∙ part r k l h (test (ltb r W))))

-- Zeros in both shadows: eight bytes of each as two words, and the run from a place on. Assumes nothing.
use mathlib.Core.Path.{◌≡◌, sym, ap, ◌∙◌}
use mathlib.Core.Bool.{Bool, true}
use mathlib.Core.List.{List}
use Prim.Native.Nat.{ℕ, ◌+◌, ◌-◌, ◌*◌, ◌/◌, ◌≤◌, ◌<◌}
use native.Mathlib.Omega.{arith}
use native.Mathlib.Nat.{zero-add}
use lib.ListN.{length}
use lib.Dec.{ltb, eqb}
use lib.Bits.{bit_or}
use borrow.Author.Tests.{eq-eqb, eqb-true, ltb-true, ltb-false}
use Rattle.number.specs.Little.{byte_of, word}
use Rattle.number.specs.Parts.{at, zeros, run_of}
use Rattle.number.proofs.TestLaws.{Test, is_true, is_false, test, and-true}
use Rattle.number.proofs.BitLaws.{or-none}
use Rattle.number.proofs.PartLaws.{zeros-at, zeros-all}
use Rattle.number.proofs.ZeroLaws.{zero_word}
use Rattle.number.proofs.RunLaws.{run-le, run-at, run-same, run-all, run_on, run-stops}
use Rattle.number.proofs.WordLaws.{AllBytes, byte_of-word, byte_of-or}
use Rattle.stack_layout.specs.Walk.{is_clear}
use Rattle.stack_audit_laws.specs.Runs.{clear_to}

-- no byte from q to r is anything but zero, in both shadows
pub record Clear (P S : List ℕ) (q r : ℕ) : Type 0 where
  pub from : q ≤ r
  pub to : r ≤ length P
  pub zero : (i : ℕ) → q ≤ i → i < r → (at P i ≡ 0) × (at S i ≡ 0)

module _ (P S : List ℕ) where
  abbrev clear : ℕ → Bool
  clear = is_clear (length P) (at P) (at S)

  clear_both : (i : ℕ) → clear i ≡ true → (at P i ≡ 0) × (at S i ≡ 0)
  unfolding is_clear
  clear_both i e = let t = and-true (eqb (at P i) 0) (eqb (at S i) 0) e in (eqb-true (at P i) 0 t.0, eqb-true (at S i) 0 t.1)

  -- what is passed is zero
  pub clear-to : (q r : ℕ) → q ≤ length P → r ≡ clear_to P S q → Clear P S q r
  unfolding clear_to
  clear-to q r h e =
      let n : ℕ = (length P - q) / 8 * 8 in
      record {
        from = omega arith;
        to = omega (arith, run-le clear q n);
        zero = λ i a b. let f : q + (i - q) ≡ i = omega arith in rw f at (clear_both (q + (i - q)) (run-at clear q n (i - q) (omega arith)));
      }

  module _ (p : ℕ) where
    -- 32 zeros in both
    pub clear-far : p + 32 ≤ length P → zeros (at P) p 32 ≡ true → zeros (at S) p 32 ≡ true → clear_to P S p ≡ clear_to P S (p + 32)
    unfolding clear_to is_clear
    clear-far h u v =
        let n : (length P - p) / 8 * 8 ≡ 32 + (length P - (p + 32)) / 8 * 8 = omega arith in
        let e : run_of clear p 32 ≡ 32 =
        run-all clear p 32 (λ i k. rw (eq-eqb _ 0 (zeros-at (at P) p 32 i u k), eq-eqb _ 0 (zeros-at (at S) p 32 i v k))) in
        rw (n, run_on clear p 32 ((length P - (p + 32)) / 8 * 8) e) (omega arith)

    clear-eight : p + 8 ≤ length P → run_of clear p 8 ≡ 8 → clear_to P S p ≡ clear_to P S (p + 8)
    unfolding clear_to
    clear-eight h e =
        let n : (length P - p) / 8 * 8 ≡ 8 + (length P - (p + 8)) / 8 * 8 = omega arith in
        rw (n, run_on clear p 8 ((length P - (p + 8)) / 8 * 8) e) (omega arith)

    clear-stops : p + 8 ≤ length P → run_of clear p 8 < 8 → clear_to P S p ≡ p + run_of clear p 8
    unfolding clear_to
    clear-stops h l =
        let n : (length P - p) / 8 * 8 ≡ 8 + (length P - (p + 8)) / 8 * 8 = omega arith in
        rw (n, run-stops clear p 8 ((length P - (p + 8)) / 8 * 8) l)

    pub clear-end : length P < p + 8 → clear_to P S p ≡ p
    unfolding clear_to run_of
    clear-end h = let n : (length P - p) / 8 * 8 ≡ 0 = omega arith in rw n (omega arith)

  -- ---- eight bytes of each, as one word

  module _ (p z : ℕ) (b_p : AllBytes (at P)) (b_s : AllBytes (at S)) (e : z ≡ bit_or (word (at P) p 8) (word (at S) p 8)) where
    word-clear : run_of (λ j. eqb (byte_of z j) 0) 0 8 ≡ run_of clear p 8
    unfolding is_clear
    word-clear = run-same (λ j. eqb (byte_of z j) 0) clear 0 p 8 same
      where
        same : (j : ℕ) → j < 8 → eqb (byte_of z (0 + j)) 0 ≡ clear (p + j)
        same j k =
            let x : byte_of z j ≡ bit_or (at P (p + j)) (at S (p + j)) =
            ap (λ (y : ℕ). byte_of y j) e ∙ byte_of-or (word (at P) p 8) (word (at S) p 8) j ∙ rw (byte_of-word (at P) b_p 8 p j k, byte_of-word (at S) b_s 8 p j k) in
            rw (zero-add j, x) (or-none (at P (p + j)) (at S (p + j)))

    -- it is zero exactly if all of them are
    word_none : z ≡ 0 → run_of clear p 8 ≡ 8
    unfolding run_of byte_of
    word_none o = sym word-clear ∙ rw o

    word-stops : (z ≡ 0 → ⊥) → run_of clear p 8 < 8
    word-stops h = go (test (ltb (run_of clear p 8) 8))
      where
        none : (f : ℕ → ℕ) → ((i : ℕ) → i < 8 → f (p + i) ≡ 0) → word f p 8 ≡ 0
        none f k = eqb-true (word f p 8) 0 (zero_word f p 8 ∙ zeros-all f p 8 k)

        go : Test (ltb (run_of clear p 8) 8) → run_of clear p 8 < 8
        go (is_true t) = ltb-true (run_of clear p 8) 8 t
        go (is_false t) =
            let l = ltb-false (run_of clear p 8) 8 t in
            let x : word (at P) p 8 ≡ 0 = none (at P) (λ i k. (clear_both (p + i) (run-at clear p 8 i (omega arith))).0) in
            let y : word (at S) p 8 ≡ 0 = none (at S) (λ i k. (clear_both (p + i) (run-at clear p 8 i (omega arith))).1) in
            absurd (h (e ∙ rw (x, y)))

    module _ (h : p + 8 ≤ length P) where
      -- all are zero: the run goes on behind them
      pub clear_next : z ≡ 0 → clear_to P S p ≡ clear_to P S (p + 8)
      clear_next o = clear-eight p h (word_none o)

      -- it ends among them
      pub clear-found : (n : ℕ) → (z ≡ 0 → ⊥) → n ≡ run_of (λ j. eqb (byte_of z j) 0) 0 8 → clear_to P S p ≡ p + n
      clear-found n o x = clear-stops p h (word-stops o) ∙ rw (x, word-clear)

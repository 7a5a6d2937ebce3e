-- Whole pieces of a long block, many looked at together. Assumes nothing.
use mathlib.Core.Path.{◌≡◌, sym, ap, ◌∙◌}
use mathlib.Core.Bool.{Bool, true, false}
use mathlib.Core.List.{List}
use Prim.Native.Nat.{ℕ, ◌+◌, ◌-◌, ◌*◌, ◌%◌, ◌^◌, ◌≤◌, ◌<◌}
use native.Mathlib.Omega.{arith}
use native.Mathlib.Nat.{zero-add}
use lib.Bits.{bit_and, bit_or}
use lib.Dec.{eqb, lit<}
use borrow.Author.Tests.{eq-eqb, eqb-true}
use Rattle.number.specs.Little.{byte_of, word}
use Rattle.number.specs.Parts.{at, run_of, odd_bytes}
use Rattle.number.proofs.LittleLaws.{word_lt}
use Rattle.number.proofs.RunLaws.{run-same, run_on}
use Rattle.number.proofs.WordLaws.{AllBytes, word_and, sum-odds}
use Rattle.stack_audit_laws.specs.Runs.{first_byte, climbs, stands_at}
use Rattle.stack_audit_laws.proofs.KnownLaws.{held}
use Rattle.stack_audit_laws.proofs.PassedLaws.{piece-seen}

-- the written bits of eight bytes, summed modulo 255
pub odd-bits : (f : ℕ → ℕ) → AllBytes f → (p x : ℕ) → x ≡ word f p 8 → bit_and x 72340172838076673 % 255 ≡ odd_bytes f p 8
unfolding word
odd-bits f b p x e =
    ap (λ (y : ℕ). bit_and y 72340172838076673 % 255) e ∙ ap (λ (y : ℕ). y % 255) (word_and f 1 b (lit< tt) 8 0 p 0) ∙ sum-odds f p 8 (omega arith)

module _ (P S : List ℕ) (q L i : ℕ) (t : Bool) where
  -- eight bytes of a piece, as two words tell them
  pub piece-own : (n x y first pair bytes : ℕ) → AllBytes (at P) → AllBytes (at S) → x ≡ word (at P) (q + n) 8 → y ≡ word (at S) (q + n) 8
      → first ≡ first_byte 48 t → bytes ≡ 2024390091656922112 + 72340172838076673 * first → pair ≡ L + 4294967296 * (i + n)
      → x ≡ bit_or bytes (bit_and x 72340172838076673) → y ≡ pair
      → i + n < L → (i + n) % 8 ≡ 0 → 8 < L → L < 256 ^ 4 → 8 ≤ L - (i + n) → first ≤ 227 → run_of (stands_at P S q L i t) n 8 ≡ 8
  piece-own n x y first pair bytes b_p b_s a b f c d u v g r h l k m =
      let w : ℕ = bit_or (2024390091656922112 + 72340172838076673 * first) (bit_and x 72340172838076673) in
      let o : word (byte_of x) 0 8 ≡ word (byte_of w) 0 8 = ap (λ (z : ℕ). word (byte_of z) 0 8) (rw c at u) in
      let p : word (byte_of y) 0 8 ≡ word (byte_of (L + 4294967296 * (i + n))) 0 8 = ap (λ (z : ℕ). word (byte_of z) 0 8) (v ∙ d) in
      let z : x < 256 ^ 8 = rw a (word_lt (at P) (q + n) 8 b_p) in
      let e = held x y 8 first (L + 4294967296 * (i + n)) z (omega arith) m in
      let e : true ≡ eqb (run_of (climbs x y first (L + 4294967296 * (i + n))) 0 8) 8 = rw (eq-eqb _ _ o, eq-eqb _ _ p) at e in
      eqb-true _ _ (sym (piece-seen P S q L i t n x y b_p b_s a b true first f g r h l k e))

  -- a stretch more
  pub stretch-more : (n m : ℕ) → run_of (stands_at P S q L i t) 0 n ≡ n → run_of (stands_at P S (q + n) L (i + n) t) 0 m ≡ m
      → run_of (stands_at P S q L i t) 0 (n + m) ≡ n + m
  unfolding stands_at
  stretch-more n m a b =
      let s : run_of (stands_at P S (q + n) L (i + n) t) 0 m ≡ run_of (stands_at P S q L i t) n m =
      run-same (stands_at P S (q + n) L (i + n) t) (stands_at P S q L i t) 0 n m
      (λ j k. let u : q + n + (0 + j) ≡ q + (n + j) = omega arith in let v : i + n + (0 + j) ≡ i + (n + j) = omega arith in rw (u, v)) in
      run_on (stands_at P S q L i t) 0 n m a ∙ rw (zero-add n, ← s, b)

-- the first byte of a piece leaves room for the others
pub first_small : (t : Bool) → first_byte 48 t ≤ 227
first_small true = omega arith
first_small false = omega arith

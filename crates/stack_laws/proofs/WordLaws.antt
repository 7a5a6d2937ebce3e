-- Bytes of a block as one number: the words that the code has are those of the codes. Assumes nothing.
use mathlib.Core.Path.{◌≡◌, ◌∙◌}
use mathlib.Core.List.{List}
use Prim.Native.Nat.{ℕ, ◌+◌, ◌-◌, ◌*◌, ◌≤◌, ◌<◌}
use native.Mathlib.Omega.{arith}
use native.Mathlib.Nat.{zero-add}
use borrow.Author.Tests.{le-leb}
use Rattle.number.specs.Little.{byte_of, word}
use Rattle.number.specs.Parts.{over}
use Rattle.number.proofs.PartLaws.{over-ext}
use Rattle.number.proofs.WordLaws.{word_byte}
use Rattle.stack_layout.specs.Code.{short_code, code_of, primary_of}
use Rattle.stack_laws.proofs.CodeLaws.{short-small}

-- a word that is written puts each of its bytes
pub put_word : (f : ℕ → ℕ) (w v b : ℕ) (P Q : List ℕ) → ((i : ℕ) → i < w → f i < 256) → v ≡ word f 0 w → Q ≡ over b w (λ q. byte_of v (q - b)) P
    → Q ≡ over b w (λ q. f (q - b)) P
put_word f w v b P Q small e put =
    put
    ∙ over-ext b w (λ q. byte_of v (q - b)) (λ q. f (q - b)) P
    (λ q x y. rw e (word_byte f w 0 (q - b) (λ j k. rw (zero-add j) (small j k)) (omega arith) ∙ rw (zero-add (q - b))))

-- eight codes that climb from the first
pub climb-eight : (first : ℕ) → word (λ i. first + 4 * i) 0 8 ≡ 72340172838076673 * first + 2024390091656922112
unfolding word
climb-eight first = omega arith

-- a block of four bytes, and one of eight, with these low bits in each
pub primary-four : (m : ℕ) → word (λ i. primary_of 4 i m) 0 4 ≡ 673456156 + 16843009 * m
unfolding word primary_of code_of short_code
primary-four m = omega arith

pub primary-eight : (m : ℕ) → word (λ i. primary_of 8 i m) 0 8 ≡ 10415850140873816180 + 72340172838076673 * m
unfolding word primary_of code_of short_code
primary-eight m = omega arith

pub short-byte : (L i m : ℕ) → L ≤ 8 → i < L → m ≤ 3 → primary_of L i m < 256
unfolding primary_of code_of short_code
short-byte L i m h k l = rw (le-leb L 8 h) (omega (arith, short-small L h))

-- a short block whose primary bytes are written as one number
pub put-primary : (n L m v b : ℕ) (P Q : List ℕ) → n ≡ L → L ≤ 8 → m ≤ 3 → v ≡ word (λ i. primary_of L i m) 0 L → Q ≡ over b L (λ q. byte_of v (q - b)) P
    → Q ≡ over b n (λ q. primary_of n (q - b) m) P
put-primary n L m v b P Q e h l w put = rw e (put_word (λ i. primary_of L i m) L v b P Q (λ i k. short-byte L i m h k l) w put)

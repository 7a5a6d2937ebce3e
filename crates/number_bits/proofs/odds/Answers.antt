-- `number_bits::odds` meets its contract: the mask leaves the lowest bit of each byte. Assumes nothing.
use mathlib.Core.Path.{◌≡◌, ap, ◌∙◌}
use Prim.Native.Nat.{ℕ, ◌+◌, ◌-◌, ◌%◌, ◌≤◌}
use native.Mathlib.Omega.{arith}
use lib.Bits.{bit_and}
use lib.Dec.{lit<}
use Rattle.number.specs.Little.{byte_of, word}
use Rattle.number.specs.Parts.{odd_bytes}
use Rattle.number.proofs.LittleLaws.{byte_of-lt}
use Rattle.number.proofs.WordLaws.{word_and, sum-odds, odds-le}
use Rattle.number_bits.proofs.odds.Goals as goal

masked : (x n : ℕ) → n ≤ 8 → bit_and (word (byte_of x) 0 n) 72340172838076673 ≡ word (λ i. bit_and (byte_of x i) 1) 0 n
unfolding word
masked x n h =
    let e : 8 ≡ n + (8 - n) = omega arith in
    ap (λ (w : ℕ). bit_and (word (byte_of x) 0 n) (word (λ i. 1) 0 w)) e ∙ word_and (byte_of x) 1 (byte_of-lt x) (lit< tt) n (8 - n) 0 0

pub returns : goal.returns
returns c =
    let x = c.before.args.x in
    let n = c.before.args.n in
    let e : bit_and c.low.result 72340172838076673 % 255 ≡ odd_bytes (byte_of x) 0 n =
    ap (λ (y : ℕ). bit_and y 72340172838076673 % 255) c.low.ensures ∙ ap (λ (y : ℕ). y % 255) (masked x n c.before.requires.1) ∙ sum-odds (byte_of x) 0 n c.before.requires.1 in
    (e, rw e (odds-le (byte_of x) 0 n))

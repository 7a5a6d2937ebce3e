-- `number_runs::zero_32` meets its contract. Assumes nothing.
use mathlib.Core.Path.{◌≡◌, ap, ◌∙◌}
use Prim.Native.Nat.{ℕ, ◌+◌}
use lib.Bits.{bit_or}
use lib.Dec.{eqb}
use Rattle.number.specs.Little.{word}
use Rattle.number.specs.Parts.{at, zeros}
use Rattle.number.proofs.BitLaws.{or-none}
use Rattle.number.proofs.ZeroLaws.{zero_word, zeros-next}
use borrow.Author.Rules.{rules}
use Rattle.number_runs.proofs.zero_32.Goals as goal

-- one number more, right after those that are or'ed already
zeros-or : (f : ℕ → ℕ) (q m n a b : ℕ) → eqb a 0 ≡ zeros f q m → b ≡ word f (q + m) n → eqb (bit_or a b) 0 ≡ zeros f q (m + n)
zeros-or f q m n a b e h = or-none a b ∙ rw (e, h, zero_word f (q + m) n, zeros-next f q m n)

pub returns : goal.returns
returns c =
    let k = c.before.before in
    let j = k.before in
    let e = j.before.before in
    let f = at e.args.s.now in
    let p = e.args.p in
    let a = j.eight_at.result in
    let b = bit_or a k.eight_at-2.result in
    let d = bit_or b c.before.eight_at-3.result in
    let one = ap (λ (x : ℕ). eqb x 0) j.eight_at.ensures ∙ zero_word f p 8 in
    let two = zeros-or f p 8 8 a _ one k.eight_at-2.ensures in
    let three = zeros-or f p 16 8 b _ two c.before.eight_at-3.ensures in
    zeros-or f p 24 8 d _ three c.eight_at-4.ensures

-- `stack_audit_far::stretch` meets its contract. Assumes nothing.
use mathlib.Core.Path.{◌≡◌, refl, ◌∙◌}
use Prim.Native.Nat.{ℕ, ◌+◌, ◌*◌, ◌-◌, ◌%◌, ◌≤◌, ◌<◌}
use native.Mathlib.Omega.{arith}
use native.Mathlib.Nat.{zero-add}
use lib.Bits.{bit_and, bit_or, bit_xor, and_le_r}
use borrow.Author.Rules.{rules}
use Rattle.number.specs.Parts.{at, run_of, odd_bytes}
use Rattle.number.proofs.BitLaws.{or-zero, xor-zero}
use Rattle.number.proofs.RunLaws.{run_on}
use Rattle.number.proofs.WordLaws.{odds-le, odds-split}
use Rattle.stack_audit_laws.specs.Runs.{first_byte, stands_at}
use Rattle.stack_audit_laws.proofs.FarLaws.{odd-bits, piece-own, first_small}
use Rattle.stack_audit_far.proofs.stretch.Goals as goal

pub loop-m-init : goal.loop-m-init
unfolding run_of odd_bytes
loop-m-init c = (omega arith, omega arith, omega arith, omega arith, refl, λ e. refl)

pub overflow_add-sum : goal.overflow_add-sum
overflow_add-sum c = let l = c.before.before.before in omega (arith, and_le_r c.before.eight_at-x.result 72340172838076673, l.loop-m.invariant)

-- eight bytes more have room
room : (i m n L : ℕ) → i % 8 ≡ 0 → m % 8 ≡ 0 → n % 8 ≡ 0 → m < n → i + n ≤ L → (i + m < L) × ((i + m) % 8 ≡ 0) × (8 ≤ L - (i + m))
    × (m + 8 ≤ n)
room i m n L a b c d e = (omega arith, omega arith, omega arith, omega arith)

-- a sum of written bits stays below 255
summed : (a b u v m n : ℕ) → a % 255 ≡ u → b % 255 ≡ v → u ≤ m → v ≤ 8 → m + 8 ≤ n → n ≤ 248 → (a + b) % 255 ≡ u + v
summed a b u v m n p q r s t w = omega arith

pub loop-m-preserved : goal.loop-m-preserved
loop-m-preserved c =
    let l = c.before.before.before in
    let b = l.before in
    let g = b.before in
    let a = g.before.before.args in
    let f = at a.primary.now in
    let i = l.loop-m.invariant in
    let s = g.before.before in
    let k = room a.i l.loop-m.m a.n a.len s.requires.6 i.0 s.requires.3 c.before.before.loop-m-test.true s.requires.5 in
    let x = c.before.eight_at-x.result in
    let y = c.eight_at.result in
    let t = stands_at a.primary.now a.secondary.now a.q.0 a.len a.i a.literal in
    let o = odd-bits f (λ q. (g.before.shared_slice_known-1.given q).fits) (a.q.0 + l.loop-m.m) x c.before.eight_at-x.ensures in
    let own : bit_or (bit_or l.loop-m.wrong (bit_xor x (bit_or b.piece_bytes-bytes.result (bit_and x 72340172838076673)))) (bit_xor y l.loop-m.pair) ≡ 0
    → run_of t 0 (l.loop-m.m + 8) ≡ l.loop-m.m + 8 =
    λ e.
    let u = or-zero (bit_or l.loop-m.wrong (bit_xor x (bit_or b.piece_bytes-bytes.result (bit_and x 72340172838076673)))) (bit_xor y l.loop-m.pair) e in
    let v = or-zero l.loop-m.wrong (bit_xor x (bit_or b.piece_bytes-bytes.result (bit_and x 72340172838076673))) u.0 in
    let w = piece-own a.primary.now a.secondary.now a.q.0 a.len a.i a.literal l.loop-m.m x y (first_byte 48 a.literal) l.loop-m.pair
    b.piece_bytes-bytes.result (λ q. (g.before.shared_slice_known-1.given q).fits) (λ q. (g.shared_slice_known-2-1.given q).fits) c.before.eight_at-x.ensures c.eight_at.ensures
    refl b.piece_bytes-bytes.ensures i.2 (xor-zero _ _ v.1) (xor-zero _ _ u.1) k.0 k.1 s.requires.4 s.ranges.len.fits k.2
    (first_small a.literal) in
    run_on t 0 l.loop-m.m 8 (i.5 v.0) ∙ rw (zero-add l.loop-m.m, w) in (
      omega arith,
      omega arith,
      omega arith,
      omega (arith, and_le_r x 72340172838076673),
      rw (odds-split f a.q.0 l.loop-m.m 8)
          (summed l.loop-m.sum (bit_and x 72340172838076673) _ _ l.loop-m.m a.n i.4 o (odds-le f a.q.0 l.loop-m.m) (odds-le f (a.q.0 + l.loop-m.m) 8)
          k.3 s.requires.2),
      own,
    )

pub returns-then-wrong-ne0 : goal.returns-then-wrong-ne0
returns-then-wrong-ne0 c k = absurd (omega arith)

pub returns : goal.returns
returns c k =
    let l = c.before.before.loop-m in
    let e : l.m ≡ c.before.before.before.before.before.before.args.n = omega arith in
    (rw e at (l.invariant.5 c.if-wrong-ne0.false), rw e at l.invariant.4)

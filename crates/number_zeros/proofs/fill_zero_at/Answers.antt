-- `number_zeros::fill_zero_at` meets its contract. Assumes nothing.
use Rattle.std.proofs.Common.{◌≡◌, ◌+◌, ◌-◌, ◌∙◌, ap, length, take, drop, arith}
use Rattle.number.proofs.PartLaws.{over-part, part_length, length_over, over-in}
use Rattle.number.proofs.ZeroLaws.{put-zero}
use Rattle.number_zeros.proofs.fill_zero_at.Goals as goal

pub returns-in-4 : goal.returns-in-4
returns-in-4 c = rw c.in-4.is (c.put_at.ensures ∙ put-zero c.args.a 4 c.args.s.now)

pub returns-in-8 : goal.returns-in-8
returns-in-8 c = rw c.in-8.is (c.put_eight_at.ensures ∙ put-zero c.args.a 8 c.args.s.now)

pub returns-in_default : goal.returns-in_default
returns-in_default c =
    let a = c.args in
    let part = take (a.a + a.n - a.a) (drop a.a a.s.now) in
    let e = c.fill_zero.ensures in
    let l : length part ≡ a.n = part_length a.s.now a.a a.n c.requires in
    over-part a.s.now c.fill_zero.new.s a.a a.n (λ q. 0) c.requires
    (ap length e ∙ length_over 0 (length part) (λ q. 0) part ∙ l)
    (λ i k. rw e (over-in 0 (length part) (λ q. 0) part i (omega arith) (omega arith) (omega arith)))

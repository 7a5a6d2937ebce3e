-- `stack_stamp::stamp_pieces` meets its contract. Its invariant: the pieces passed are written, the other bytes as they were. Assumes nothing.
use Rattle.std.proofs.Common.{◌≡◌, ◌+◌, ◌-◌, ◌*◌, ◌/◌, refl, sym, arith, inl, inr}
use Rattle.number.proofs.PartLaws.{over_none}
use Rattle.stack_laws.proofs.StampLaws.{next-primary}
use Rattle.stack_stamp.proofs.stamp_pieces.Goals as goal

pub loop-piece-init : goal.loop-piece-init
loop-piece-init c = sym (over_none _ _ _)

pub loop-piece-preserved : goal.loop-piece-preserved
loop-piece-preserved c =
    let s = c.args in
    let l = c.loop-piece in
    let e : 8 * l.piece + 8 ≡ 8 * (l.piece + 1) = omega arith in
    rw e at (next-primary s.base.0 s.len (8 * l.piece) 8 (omega arith) (omega arith) (omega arith) (inl refl) (omega arith)
    s.bits s.primary.now _ _ l.invariant c.climb_at.ensures)

pub returns : goal.returns
returns c =
    let s = c.args in
    let o = 8 * (s.len / 8 - 1) in
    let e : o + (s.len - o) ≡ s.len = omega arith in
    let all : c.loop-piece.piece ≡ s.len / 8 - 1 = omega arith in
    rw e at (next-primary s.base.0 s.len o (s.len - o) (omega arith) (omega arith) (omega arith) (inr (omega arith)) (omega arith)
    s.bits s.primary.now _ _ (rw all at c.loop-piece.invariant) c.climb_at-2.ensures)

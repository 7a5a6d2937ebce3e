-- `stack_stamp::stamp_secondary` meets its contract. Its invariant: the pieces passed are written, the other bytes as they were. Assumes nothing.
use Rattle.std.proofs.Common.{◌≡◌, ◌+◌, ◌*◌, sym, arith}
use Rattle.number.proofs.PartLaws.{over_none}
use Rattle.stack_laws.proofs.StampLaws.{short-secondary, next-secondary, last-secondary}
use Rattle.stack_stamp.proofs.stamp_secondary.Goals as goal

pub returns-then-len-le8 : goal.returns-then-len-le8
returns-then-len-le8 c =
    short-secondary c.args.secondary.now c.args.base.0 c.args.len (omega arith) c.requires.2

pub loop-piece-init : goal.loop-piece-init
loop-piece-init c = sym (over_none _ _ _)

pub loop-piece-preserved : goal.loop-piece-preserved
loop-piece-preserved c =
    let s = c.args in
    let l = c.loop-piece in
    let e : 8 * l.piece + 8 ≡ 8 * (l.piece + 1) = omega arith in
    rw e at (next-secondary s.base.0 s.len (8 * l.piece) (omega arith) (omega arith) (omega arith)
    s.secondary.now _ _ _ l.invariant c.put_at.ensures c.put_at-in-loop-piece.ensures)

pub returns : goal.returns
returns c =
    let l = c.loop-piece in
    let s = c.args in
    last-secondary s.base.0 s.len (8 * l.piece) (omega arith) (omega arith) (omega arith) (omega arith) s.secondary.now _ c.requires.2 l.invariant

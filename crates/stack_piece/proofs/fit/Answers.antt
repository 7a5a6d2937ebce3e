-- `stack_piece::fit` meets its contract. Assumes nothing.
use Rattle.std.proofs.Common.{◌+◌, arith, le-ltb, lt-ltb}
use Rattle.stack_layout.specs.Reading.{fitted}
use Rattle.stack_piece.proofs.fit.Goals as goal

pub returns-then-at-offset : goal.returns-then-at-offset
unfolding fitted
returns-then-at-offset c =
    let s = c.before.args in
    rw (lt-ltb s.p.0 s.i (omega arith))

pub returns-then-size-offset : goal.returns-then-size-offset
unfolding fitted
returns-then-size-offset c =
    let s = c.before.before.args in
    rw (le-ltb s.p.0 s.i (omega arith), lt-ltb (s.size + s.i) (s.p.0 + s.len) (omega arith))

pub returns : goal.returns
unfolding fitted
returns c =
    let s = c.before.before.args in
    rw (le-ltb s.p.0 s.i (omega arith), le-ltb (s.size + s.i) (s.p.0 + s.len) (omega arith))

-- `stack_piece::bad_piece` meets its contract: the same clauses in the same order; a difference is read where it does not wrap. Assumes nothing.
use Rattle.std.proofs.Common.{arith}
use Rattle.stack_laws.proofs.ReadLaws.{clauses}
use Rattle.stack_piece.proofs.bad_piece.Goals as goal

pub returns : goal.returns
returns c =
    let s = c.args in
    clauses s.len s.o s.j _ _ (omega arith) (omega arith) (omega arith) (omega arith) (omega arith) (omega arith)

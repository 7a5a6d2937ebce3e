-- `samples_input::read_into` meets its contract. Assumes nothing.
use borrow.Author.Rules.{rules}
use Rattle.samples_input.proofs.InputLaws.{one_more, all_read, last-is}
use Rattle.samples_input.proofs.read_into.Goals as goal

pub loop-n-init : goal.loop-n-init
loop-n-init c = (search rules, tt)

pub returns-in_default : goal.returns-in_default
returns-in_default c = let l = c.loop-n in last-is _ l.n 4096 _ c.last.ensures (search rules) l.invariant.1

pub returns-then-b-eq10 : goal.returns-then-b-eq10
returns-then-b-eq10 c = let l = c.loop-n in (search rules, l.invariant.1)

pub loop-n-preserved : goal.loop-n-preserved
loop-n-preserved c = let l = c.loop-n in (search rules, one_more l.buffer l.n _ (search rules) c.if-b-eq10.false l.invariant.1)

pub returns : goal.returns
returns c = let l = c.loop-n in all_read l.buffer l.n (search rules) l.invariant.1

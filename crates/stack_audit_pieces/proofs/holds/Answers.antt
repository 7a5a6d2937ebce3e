-- `stack_audit_pieces::holds` meets its contract. Assumes nothing.
use Rattle.stack_audit_laws.proofs.KnownLaws.{held}
use Rattle.stack_audit_pieces.proofs.holds.Goals as goal

pub returns : goal.returns
returns c =
    let a = c.args in
    rw (c.low.ensures, c.low-2.ensures, c.low-3.ensures, c.low-4.ensures, c.climbing-bytes.ensures)
    (held a.x a.y a.n a.first a.pair c.ranges.x.fits c.requires.1 c.requires.2)

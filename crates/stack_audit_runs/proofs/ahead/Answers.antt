-- `stack_audit_runs::ahead` meets its contract. Assumes nothing.
use mathlib.Core.Path.{◌∙◌}
use Prim.Native.Nat.{◌-◌}
use native.Mathlib.Omega.{arith}
use lib.Dec.{leb, ltb}
use borrow.Author.Tests.{eq-eqb, ne_eqb, lt-ltb, le-ltb, le-leb, lt-leb, ltb-true}
use Rattle.number.specs.Parts.{odd_bytes}
use Rattle.number.proofs.TestLaws.{and-true}
use Rattle.stack_audit_laws.specs.Runs.{run_at, has_piece, ahead_run}
use Rattle.stack_audit_runs.proofs.ahead.Goals as goal
use Rattle.stack_audit_runs.proofs.ahead.Goals.{else-len-gt1-via-then-len-gt1+else-q-primary, else-len-gt1-via-else-len-gt1}

pub pieces-requires : goal.pieces-requires
pieces-requires c =
    let l = c.args.len in
    (c.requires.0, ltb-true 8 l (and-true (ltb 8 l) (leb 8 (l - c.args.i)) c.if-len-i.true).0, omega (arith, c.requires.1), c.if-i-eq0.true)

pub returns-then-len-i : goal.returns-then-len-i
unfolding ahead_run has_piece
returns-then-len-i c = c.pieces.ensures ∙ rw (eq-eqb _ _ c.if-i-eq0.true, c.if-len-i.true)

pub ending-requires : goal.ending-requires
unfolding has_piece
ending-requires c =
    (c.requires.0, c.if-q-primary.true, c.requires.1, c.if-i-eq0.true, c.if-len-i.false)

pub returns-then-q-primary : goal.returns-then-q-primary
unfolding ahead_run has_piece
returns-then-q-primary c =
    c.ending.ensures
    ∙ rw (eq-eqb _ _ c.if-i-eq0.true, c.if-len-i.false, lt-ltb _ _ c.if-len-gt1.true, le-leb _ _ c.if-q-primary.true)

pub returns-else-len-gt1 : goal.returns-else-len-gt1
unfolding run_at ahead_run has_piece odd_bytes
returns-else-len-gt1 c =
    rw (eq-eqb _ _ c.if-i-eq0.true, c.if-len-i.false)
    (elim c.else-len-gt1.branch [
      | else-len-gt1-via-then-len-gt1+else-q-primary w ↦ rw (lt-ltb _ _ w.if-len-gt1.true, lt-leb _ _ w.if-q-primary.false)
      | else-len-gt1-via-else-len-gt1 w ↦ rw (le-ltb _ _ w.if-len-gt1.false)
    ])

pub returns-else-i-eq0 : goal.returns-else-i-eq0
unfolding run_at ahead_run odd_bytes
returns-else-i-eq0 c = rw (ne_eqb _ _ c.if-i-eq0.false)

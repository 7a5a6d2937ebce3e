-- `monitor_initialised::written_stack` meets its contract. Assumes nothing.
use Rattle.std.proofs.Common.{sym, ◌∙◌}
use mathlib.Core.Bool.{true}
use Rattle.number.specs.Parts.{at}
use Rattle.number.proofs.WordLaws.{AllBytes}
use Rattle.stack_laws.proofs.WholeLaws.{written_one, written-marked}
use Rattle.monitor_base.proofs.LocatingLaws.{stack-room}
use Rattle.monitor_read_laws.proofs.JudgingLaws.{initialised-in, initialised-out}
use Rattle.monitor_initialised.proofs.written_stack.Goals as goal

-- a whole block, each byte of it written
pub returns-then-written : goal.returns-then-written
returns-then-written c =
    let a = c.args in
    let h = sym c.written.ensures ∙ c.if-written.true in
    let bytes : AllBytes (at a.primary.now) = λ q. (c.shared_slice_known-1.given q).fits in
    initialised-in _ _ _ true (written_one _ (at a.primary.now) (at a.secondary.now) bytes a.p.0 a.n h)
    (sym (written-marked a.primary.now a.secondary.now bytes _ a.p.0 a.n h)) _ c.yes_no.ensures

pub marked-requires : goal.marked-requires
marked-requires c =
    let e = rw c.read-first.ensures at c.in_one.ensures in
    stack-room _ (at c.args.primary.now) (at c.args.secondary.now) c.args.p.0 c.args.n (sym e ∙ c.if-in_one.true)

pub returns-then-in_one : goal.returns-then-in_one
returns-then-in_one c =
    let e = rw c.read-first.ensures at c.in_one.ensures in
    initialised-in _ _ _ _ (sym e ∙ c.if-in_one.true) (c.marked.ensures c.args.secondary.now) _ c.yes_no-then-in_one.ensures

pub returns : goal.returns
returns c =
    let e = rw c.read-first.ensures at c.in_one.ensures in
    initialised-out _ _ _ (sym e ∙ c.if-in_one.false) _ (rw c.read-first.ensures at c.apart.ensures)

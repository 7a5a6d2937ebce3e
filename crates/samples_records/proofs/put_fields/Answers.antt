-- `samples_records::put_fields` meets its contract. Assumes nothing.
use mathlib.Core.Path.{refl}
use native.Mathlib.Omega.{arith}
use borrow.Author.Rules.{rules}
use Rattle.samples_records.proofs.RecordLaws.{putting-start, put-none, put_full, put_step, put-told, stands}
use Rattle.samples_records.proofs.put_fields.Goals as goal

pub loop-i-init : goal.loop-i-init
loop-i-init c = (search rules, putting-start _ _ _)

pub returns-in_default : goal.returns-in_default
returns-in_default c =
    let l = c.loop-i in
    let e = stands _ _ _ c.skip_spaces-start.ensures c.number_at.ensures c.in_default.is in
    put-told (put-none l.invariant.1 e) _ refl l.invariant.1.high

pub loop-i-preserved : goal.loop-i-preserved
loop-i-preserved c =
    let l = c.loop-i in
    let e = stands _ _ _ c.skip_spaces-start.ensures c.number_at.ensures c.in-Some.is in
    (search rules, put_step l.invariant.1 _ _ _ _ (omega arith) c.put_at.ensures (omega arith) e)

pub returns : goal.returns
returns c =
    let l = c.loop-i in
    put-told (put_full l.invariant.1 (omega arith)) _ (omega arith) (omega arith)

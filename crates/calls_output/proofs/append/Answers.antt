-- `calls_output::append` meets its contract. Assumes nothing.
use mathlib.Core.Path.{◌≡◌, refl}
use Prim.Native.Nat.{◌-◌, ◌≤◌}
use native.Mathlib.Omega.{arith}
use lib.ListN.{length, length-set}
use lib.Seq.{paste, paste-zero}
use Rattle.calls_format.proofs.CopyLaws.{copy_step, copied}
use borrow.Author.Rules.{rules}
use Rattle.calls_output.proofs.append.Goals as goal

pub loop-i-init : goal.loop-i-init
loop-i-init c = (search rules, search rules, paste-zero _ c.with_room-q.result.filled c.args.text.now)

pub loop-i-preserved : goal.loop-i-preserved
loop-i-preserved c =
    let a = c.args in
    let q = c.with_room-q in
    let l = c.loop-i in
    (omega arith, simp length-set l.invariant.1, copy_step a.buffer.now l.buffer a.text.now q.result.filled l.i _ _ refl (omega (arith, q.ensures.room)) (omega arith) l.invariant.2 refl)

pub returns : goal.returns
returns c =
    let a = c.args in
    let q = c.with_room-q in
    let l = c.loop-i in
    record {
      lies = search rules;
      holds = rw (← q.ensures.left) (copied a.buffer.now l.buffer a.text.now q.result.filled a.n l.i _ (omega arith) refl (omega (arith, q.ensures.room)) (omega arith) l.invariant.2);
      still = q.ensures.still;
      closed = q.ensures.closed;
    }

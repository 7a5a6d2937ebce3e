-- `calls_input::settle` meets its contract. Assumes nothing.
use mathlib.Core.Path.{◌≡◌}
use Prim.Native.Nat.{◌+◌, ◌-◌, ◌≤◌, ◌<◌}
use native.Mathlib.Omega.{arith}
use lib.ListN.{length, drop, length-set, length-drop}
use lib.Seq.{paste, paste-zero}
use Rattle.calls_format.proofs.CopyLaws.{copy_step, later-read}
use borrow.Author.Rules.{rules}
use Rattle.calls_input.proofs.settle.Goals as goal

pub loop-i-init : goal.loop-i-init
loop-i-init c = (search rules, search rules, paste-zero _ 0 (drop c.args.from c.args.buffer.now))

pub loop-i-preserved : goal.loop-i-preserved
loop-i-preserved c =
    let a = c.args in
    let l = c.loop-i in
    let d = a.buffer.now in
    let h : a.from + l.i < length d = omega arith in
    (omega arith, simp length-set l.invariant.1, copy_step d l.buffer (drop a.from d) 0 l.i l.i _ (omega arith) (omega arith) (omega (arith, length-drop a.from d)) l.invariant.2 (later-read d l.buffer a.from l.i h l.invariant.2))

pub returns : goal.returns
returns c =
    let l = c.loop-i in
    let e : l.i ≡ c.args.end - c.args.from = omega arith in
    rw e at l.invariant.2

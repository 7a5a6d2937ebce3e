-- `stack_audit_far::far` meets its contract. Assumes nothing.
use mathlib.Core.Path.{◌≡◌, refl, sym}
use Prim.Native.Nat.{◌-◌, ◌%◌, ◌≤◌}
use native.Mathlib.Omega.{arith}
use borrow.Author.Rules.{rules}
use Rattle.number.specs.Parts.{at, run_of, odd_bytes}
use Rattle.number.proofs.WordLaws.{odds-le, odds-split}
use Rattle.stack_audit_laws.specs.Runs.{stands_at}
use Rattle.stack_audit_laws.proofs.FarLaws.{stretch-more}
use Rattle.stack_audit_far.proofs.far.Goals as goal

pub loop-n-init : goal.loop-n-init
unfolding run_of odd_bytes
loop-n-init c = (omega arith, omega arith, refl, refl)

pub overflow_add-written : goal.overflow_add-written
overflow_add-written c =
    let s = c.before.before.before.before.before.before.before in
    let l = c.before.before.before.before.loop-n in
    omega (arith, l.invariant.3, odds-le (at s.args.primary.now) s.args.q.0 l.n, c.if-ones-gt248.false, s.requires)

pub loop-n-preserved : goal.loop-n-preserved
loop-n-preserved c =
    let a = c.before.before.before.before.before.before.before.args in
    let l = c.before.before.before.before.loop-n in
    let m = c.before.before.taken-m.result in
    let r = c.before.stretch-ones.ensures c.if-ones-gt248.false in (
      omega (arith, c.before.before.taken-m.ensures),
      omega (arith, c.before.before.taken-m.ensures),
      stretch-more a.primary.now a.secondary.now a.q.0 a.len a.i a.literal l.n m l.invariant.2 r.0,
      rw (l.invariant.3, r.1) (sym (odds-split (at a.primary.now) a.q.0 l.n m)),
    )

pub returns-after-loop-n : goal.returns-after-loop-n
returns-after-loop-n c = c.before.loop-n.invariant

pub returns-then-ones-gt248 : goal.returns-then-ones-gt248
returns-then-ones-gt248 c = c.before.before.before.before.loop-n.invariant

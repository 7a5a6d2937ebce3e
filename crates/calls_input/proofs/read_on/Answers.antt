-- `calls_input::read_on` meets its contract. Assumes nothing.
use mathlib.Core.Path.{◌≡◌, refl, ◌∙◌}
use Prim.Native.Nat.{ℕ, ◌-◌, ◌≤◌}
use native.Mathlib.Omega.{arith}
use mathlib.Core.Bool.{false}
use lib.ListN.{length, take}
use Rattle.calls_format.proofs.CopyLaws.{before-part}
use Rattle.calls_window.proofs.WindowLaws.{refilled}
use borrow.Author.Rules.{rules}
use Rattle.calls_input.proofs.read_on.Goals as goal

pub loop-init : goal.loop-init
loop-init c = (search rules, search rules, search rules, search rules, search rules, refl)

pub loop-preserved : goal.loop-preserved
loop-preserved c =
    let l = c.loop in
    (search rules, search rules, search rules, search rules, search rules, before-part _ l.filled l.buffer _ l.invariant.4 l.invariant.1 ∙ l.invariant.5)

pub returns-after-loop : goal.returns-after-loop
returns-after-loop c =
    let l = c.loop in
    refilled c.args.w l.filled l.more c.args.buffer.now _ l.buffer c.requires l.invariant.4 (omega arith) c.settle.ensures l.invariant.5 (λ t. omega arith) (search rules)

pub returns-then-filled-ge-LONGEST : goal.returns-then-filled-ge-LONGEST
returns-then-filled-ge-LONGEST c =
    let l = c.loop in
    refilled c.args.w l.filled l.more c.args.buffer.now _ l.buffer c.requires l.invariant.4 (omega arith) c.settle.ensures l.invariant.5 (λ t. omega arith) (search rules)

pub returns-then-got-eq0 : goal.returns-then-got-eq0
returns-then-got-eq0 c =
    let l = c.loop in
    refilled c.args.w l.filled false c.args.buffer.now _ _ c.requires l.invariant.4 (omega arith) c.settle.ensures
    (before-part _ l.filled l.buffer _ l.invariant.4 l.invariant.1 ∙ l.invariant.5)
    (λ t. absurd (let z : ◌≡◌ {A = ℕ} 0 1 = cc in omega arith))
    (search rules)

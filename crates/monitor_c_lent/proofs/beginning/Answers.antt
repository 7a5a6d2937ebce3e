-- `monitor_c_lent::beginning` meets its contract. Assumes nothing.
use mathlib.Core.Path.{◌≡◌}
use native.Mathlib.Omega.{arith}
use borrow.Author.Tests.{ne_eqb}
use Rattle.monitor_c_lent.proofs.beginning.Goals as goal

pub returns-then-how-gt1 : goal.returns-then-how-gt1
returns-then-how-gt1 c =
    let n = c.args.how in
    rw (ne_eqb n 0 (λ z. omega (arith, c.if-how-gt1.true, z)), ne_eqb n 1 (λ z. omega (arith, c.if-how-gt1.true, z)))

pub returns-then-how-eq1 : goal.returns-then-how-eq1
returns-then-how-eq1 c = rw c.if-how-eq1.true

pub returns : goal.returns
returns c =
    let n = c.args.how in
    let z : n ≡ 0 = omega (arith, c.if-how-gt1.false, c.if-how-eq1.false) in
    rw z

-- `calls_output::undecodable` meets its contract. Assumes nothing.
use native.Mathlib.Omega.{arith}
use borrow.Author.Rules.{rules}
use Rattle.calls_output.proofs.undecodable.Goals as goal

pub returns : goal.returns
returns c =
    let e = c.append.ensures in
    record { lies = search rules; holds = e.holds; still = λ h. e.still (omega arith); closed = e.closed }

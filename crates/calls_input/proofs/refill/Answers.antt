-- `calls_input::refill` meets its contract. Assumes nothing.
use mathlib.Core.Path.{◌≡◌}
use Prim.Native.Nat.{ℕ}
use native.Mathlib.Omega.{arith}
use Rattle.calls_window.proofs.WindowLaws.{unfilled}
use borrow.Author.Rules.{rules}
use Rattle.calls_input.proofs.refill.Goals as goal

pub returns-else-w-lt-LONGEST : goal.returns-else-w-lt-LONGEST
returns-else-w-lt-LONGEST c = unfilled _ 65536 _ (search rules) (λ t. omega arith)

pub returns-else-w : goal.returns-else-w
returns-else-w c = unfilled _ 65536 _ (search rules) (λ t. absurd (let z : ◌≡◌ {A = ℕ} 0 1 = cc in omega arith))

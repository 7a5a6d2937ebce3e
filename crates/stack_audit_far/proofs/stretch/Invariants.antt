-- `stack_audit_far::stretch` meets its contract. Assumes nothing.
use mathlib.Core.Path.{◌≡◌, refl, ◌∙◌}
use Prim.Native.Nat.{ℕ, ◌+◌, ◌*◌, ◌-◌, ◌%◌, ◌≤◌, ◌<◌}
use native.Mathlib.Omega.{arith}
use native.Mathlib.Nat.{zero-add}
use lib.Bits.{bit_and, bit_or, bit_xor, and_le_r}
use borrow.Author.Rules.{rules}
use Rattle.number.specs.Parts.{at, run_of, odd_bytes}
use Rattle.number.proofs.BitLaws.{or-zero, xor-zero}
use Rattle.number.proofs.RunLaws.{run_on}
use Rattle.number.proofs.WordLaws.{odds-le, odds-split}
use Rattle.stack_audit_laws.specs.Runs.{first_byte, stands_at}
use Rattle.stack_audit_laws.proofs.FarLaws.{odd-bits, piece-own, first_small}
use Rattle.stack_audit_far.proofs.stretch.Given as goal

abbrev pub invariant-loop-m : goal.invariant-loop-m
invariant-loop-m l =
    (l.m % 8 ≡ 0) × (l.m ≤ l.n) × (l.pair ≡ l.len + 4294967296 * (l.i + l.m)) × (8 * l.sum ≤ l.m * 72340172838076673) × (l.sum % 255 ≡ odd_bytes (at l.primary) l.p l.m)
    × (l.wrong ≡ 0 → run_of (stands_at l.primary l.secondary l.p l.len l.i l.literal) 0 l.m ≡ l.m)

abbrev pub decreases-loop-m : goal.decreases-loop-m
decreases-loop-m l = l.n - l.m

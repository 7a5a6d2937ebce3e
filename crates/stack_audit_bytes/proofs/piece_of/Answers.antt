-- `stack_audit_bytes::piece_of` meets its contract. Assumes nothing.
use native.Mathlib.Omega.{arith}
use Rattle.stack_layout.specs.Code.{piece_of}
use Rattle.stack_audit_bytes.proofs.piece_of.Goals as goal

pub returns : goal.returns
unfolding piece_of
returns c = (omega arith, omega arith, omega arith)

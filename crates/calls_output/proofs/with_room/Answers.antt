-- `calls_output::with_room` meets its contract. Assumes nothing.
use mathlib.Core.Path.{refl}
use Prim.Native.Nat.{◌+◌}
use native.Mathlib.Omega.{arith}
use lib.ListN.{length}
use borrow.Author.Tests.{le-leb, lt-leb}
use borrow.Author.Rules.{rules}
use Rattle.calls_output.proofs.with_room.Goals as goal

pub returns-then-p-buffer : goal.returns-then-p-buffer
returns-then-p-buffer c =
    let a = c.args in
    record {
      room = search rules;
      left = rw (le-leb (a.p.filled + 64) (length a.buffer.now) (omega arith));
      still = λ _. refl;
      closed = λ h. h;
    }

pub returns : goal.returns
returns c =
    let a = c.args in
    let e = c.write_out.ensures in
    record {
      room = omega (arith, e.none);
      left = rw (lt-leb (a.p.filled + 64) (length a.buffer.now) (omega arith)) e.none;
      still = λ h. absurd (omega arith);
      closed = e.closed;
    }

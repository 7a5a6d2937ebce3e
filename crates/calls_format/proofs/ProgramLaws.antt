-- The plain program's records are whole. Assumes nothing.
use native.Mathlib.Omega.{arith}
use Rattle.calls_format.specs.Program.{Whole, plain_program}
use Rattle.calls_format.proofs.RecordLaws.{decoded-heads, decode-front}

pub plain-whole : Whole plain_program
plain-whole =
    record {
      long = λ l r e. let h = decoded-heads l r e in omega (arith, h.1, h.2);
      there = λ l r e. let h = decoded-heads l r e in omega (arith, h.1, h.3);
      front = decode-front;
    }

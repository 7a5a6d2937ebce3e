-- `stack_whole_first::length_at` meets its contract: the two constants are codes of first bytes. Assumes nothing.
use Rattle.std.proofs.Common.{ℕ, List, ◌+◌, ◌/◌, length, arith}
use borrow.Author.Tests.{eq-eqb, ne_eqb, le-leb, lt-leb}
use Rattle.number.specs.Parts.{at}
use Rattle.stack_laws.specs.Whole.{whole_from, whole_length}
use Rattle.stack_laws.proofs.WholeLaws.{code-4, code-8}
use Rattle.stack_whole_first.proofs.length_at.Goals as goal

-- the code that is tested
abbrev code : (P : List ℕ) (q : ℕ) → ℕ
code P q = at P q / 4

pub returns-in-7 : goal.returns-in-7
unfolding whole_length whole_from
returns-in-7 c =
    let P = c.args.primary.now in
    let q = c.args.p.0 in
    (rw (code-4, eq-eqb (code P q) 7 (omega arith), le-leb (q + 4) (length P) (omega arith)), omega arith)

pub returns-in-29 : goal.returns-in-29
unfolding whole_length whole_from
returns-in-29 c =
    let P = c.args.primary.now in
    let q = c.args.p.0 in (
      rw (code-4, code-8, ne_eqb (code P q) 7 (λ z. omega arith), eq-eqb (code P q) 29 (omega arith), le-leb (q + 8) (length P) (omega arith)),
      omega arith,
    )

pub returns-in_default : goal.returns-in_default
unfolding whole_length whole_from
returns-in_default c =
    let P = c.args.primary.now in
    let q = c.args.p.0 in
    rw (code-4, code-8, eq-eqb (code P q) 7 (omega arith), lt-leb (q + 4) (length P) (omega arith), ne_eqb (code P q) 29 (λ z. omega arith))

pub returns-in_default-2 : goal.returns-in_default-2
unfolding whole_length whole_from
returns-in_default-2 c =
    let P = c.args.primary.now in
    let q = c.args.p.0 in
    rw (code-4, code-8, ne_eqb (code P q) 7 (λ z. omega arith), eq-eqb (code P q) 29 (omega arith), lt-leb (q + 8) (length P) (omega arith))

pub returns-in_default-3 : goal.returns-in_default-3
unfolding whole_length whole_from
returns-in_default-3 c =
    let P = c.args.primary.now in
    let q = c.args.p.0 in
    rw (code-4, code-8, ne_eqb (code P q) 7 (λ z. omega arith), ne_eqb (code P q) 29 (λ z. omega arith))

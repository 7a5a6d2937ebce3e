-- `stack_read::told_long` meets its contract. Assumes nothing.
use Rattle.std.proofs.Common.{◌≡◌, ℕ, ◌+◌, cond, length, sym, ◌∙◌, arith}
use Rattle.number.specs.Parts.{at}
use Rattle.plain.specs.Reading.{damaged}
use Rattle.stack_layout.specs.Reading.{bad_piece, fitted, long_reading}
use Rattle.stack_laws.proofs.ReadLaws.{piece-within, no_length, piece-outside, piece_inside}
use Rattle.stack_read.proofs.told_long.Goals as goal
use Rattle.stack_read.proofs.told_long.Lts as place
use Rattle.stack_read.proofs.told_long.Reads as reads
use Rattle.stack_read.proofs.told_long.Tie as tie

-- steps of the code, by name
abbrev After-number_at2 : Type 0
After-number_at2 = place.After-number_at2 tie.the-claims reads.Pre reads.Post tie.handed_clauses

pub returns-then-secondary-t : goal.returns-then-secondary-t
returns-then-secondary-t c m =
    let w = c.wrapping_sub_u32-t in
    rw (c.damage.ensures.0, c.damage.ensures.1)
    (no_length (length c.args.secondary.now) c.args.p.0 m c.requires.1
    ∙ sym (piece-outside _ (at c.args.secondary.now) c.args.p.0 c.args.j w.result m c.requires.0 c.requires.1 c.requires.2 w.ensures.value (omega arith) (omega arith)))

-- the piece lies in the area: its two numbers are what the reading goes by
read-piece : (c : After-number_at2) (m : ℕ) →
    long_reading (length c.args.secondary.now) (at c.args.secondary.now) c.args.p.0 c.args.j m
    ≡ cond (bad_piece c.number_at-len.result c.number_at-o.result c.args.j) damaged
    (fitted (length c.args.secondary.now) c.args.p.0 c.number_at-len.result (c.number_at-o.result + c.args.j) m)
read-piece c m =
    let w = c.wrapping_sub_u32-t in
    rw (c.number_at-len.ensures, c.number_at-o.ensures)
    (piece_inside _ (at c.args.secondary.now) c.args.p.0 c.args.j w.result m c.requires.0 c.requires.1 c.requires.2 w.ensures.value (omega arith))

pub returns-then-bad_piece : goal.returns-then-bad_piece
returns-then-bad_piece c m =
    rw (c.damage-then-bad_piece.ensures.0, c.damage-then-bad_piece.ensures.1)
    (no_length (length c.args.secondary.now) c.args.p.0 m c.requires.1
    ∙ sym (read-piece c.before.before.before.before m ∙ rw (sym c.bad_piece.ensures ∙ c.if-bad_piece.true)))

pub overflow_add-result : goal.overflow_add-result
overflow_add-result c =
    omega (arith, piece-within c.number_at-len.result c.number_at-o.result c.args.j (sym c.bad_piece.ensures ∙ c.if-bad_piece.false))

pub returns : goal.returns
returns c m =
    sym (read-piece c.before.before.before m ∙ rw (sym c.bad_piece.ensures ∙ c.if-bad_piece.false))

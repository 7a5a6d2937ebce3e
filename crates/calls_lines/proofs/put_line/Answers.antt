-- `calls_lines::put_line` meets its contract. Assumes nothing.
use mathlib.Core.Path.{◌≡◌, ◌∙◌}
use mathlib.Core.List.{[], ◌∷◌}
use Prim.Native.Nat.{◌+◌, ◌≤◌}
use native.Mathlib.Omega.{arith}
use lib.ListN.{length, length-set}
use Rattle.monitor_base.specs.Answers.{answer_of}
use Rattle.calls_format.specs.Lines.{decimal, spaced}
use Rattle.calls_format.specs.Writing.{fields_told}
use Rattle.calls_format.proofs.LineLaws.{parts-short, wrote-line}
use Rattle.calls_lines.proofs.put_line.Goals as goal
use Rattle.calls_lines.proofs.put_line.Lts as place
use Rattle.calls_lines.proofs.put_line.Reads as reads
use Rattle.calls_lines.proofs.put_line.Tie as tie

-- steps of the code, by name
abbrev Start : Type 0
Start = place.Start tie.the-claims reads.Pre reads.Post

abbrev After-slice_known4 : Type 0
After-slice_known4 = place.After-slice_known4 tie.the-claims reads.Pre reads.Post

-- the lengths of the line's parts: each number has 32 bits
parts : (c : Start)
    → length (decimal c.args.kind) + length (spaced (c.args.r.number ∷ [])) + length (spaced (fields_told c.args.kind (answer_of c.args.r))) ≤ 57
parts c = parts-short _ (answer_of c.args.r) (omega arith, omega arith, (omega arith, (omega arith, (omega arith, (omega arith, tt)))))

-- where the last byte goes, and that the buffer has kept its length
ends : (c : After-slice_known4) → (c.put_fields-end.result ≤ 57) × (64 ≤ length c.args.line.now)
ends c =
    let s = parts c.before.before.before.before.before.before.before.before.before.before.before.before.before in
    let a = c.put_decimal-named.ensures.ends in
    let b = c.put_spaced-told.ensures.ends in
    (omega arith, c.requires)

lengths : (c : After-slice_known4) → length c.put_fields-end.new.line ≡ length c.args.line.now
lengths c =
    c.put_fields-end.auto.line ∙ c.put_spaced-told.auto.line ∙ c.put_decimal-named.auto.line

pub put_decimal-named-requires : goal.put_decimal-named-requires
put_decimal-named-requires c = omega (arith, parts c.before.before)

pub put_spaced-told-requires : goal.put_spaced-told-requires
put_spaced-told-requires c =
    omega (arith, parts c.before.before.before.before.before.before, c.put_decimal-named.auto.line)

pub put_fields-end-requires : goal.put_fields-end-requires
put_fields-end-requires c =
    omega (arith, parts c.before.before.before.before.before.before.before.before.before.before, c.put_decimal-named.ensures.ends, c.put_decimal-named.auto.line, c.put_spaced-told.auto.line)

pub bounds-line-end : goal.bounds-line-end
bounds-line-end c = omega (arith, ends c, lengths c)

pub overflow_add-result : goal.overflow_add-result
overflow_add-result c = omega (arith, ends c)

pub shape_of-line : goal.shape_of-line
shape_of-line c = simp length-set (lengths c)

pub returns : goal.returns
returns c =
    let a = c.put_decimal-named.ensures in
    let b = c.put_spaced-told.ensures in
    wrote-line _ (answer_of c.args.r) _ _ _ _ _ _ _ a b c.put_fields-end.ensures

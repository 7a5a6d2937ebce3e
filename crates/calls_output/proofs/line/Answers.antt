-- `calls_output::line` meets its contract. Assumes nothing.
use mathlib.Core.Path.{◌≡◌, ap, ◌∙◌}
use Prim.Native.Nat.{◌≤◌}
use native.Mathlib.Omega.{arith}
use lib.ListN.{length, length-append, length-drop}
use Rattle.monitor_base.specs.Answers.{answer_of}
use Rattle.calls_format.specs.Lines.{line}
use Rattle.calls_format.proofs.LineLaws.{line-short}
use Rattle.calls_output.proofs.PendingLaws.{text-as, rendered}
use borrow.Author.Rules.{rules}
use Rattle.calls_output.proofs.line.Goals as goal
use Rattle.calls_output.proofs.line.Lts as place
use Rattle.calls_output.proofs.line.Reads as reads
use Rattle.calls_output.proofs.line.Tie as tie

-- steps of the code, by name
abbrev Start : Type 0
Start = place.Start tie.the-claims reads.Pre reads.Post

abbrev After-text2 : Type 0
After-text2 = place.After-text2 tie.the-claims reads.Pre reads.Post

-- each number has 32 bits
short : (c : Start) → length (line c.args.kind (answer_of c.args.answer)) ≤ 58
short c = line-short _ (answer_of c.args.answer) (omega arith, omega arith, (omega arith, (omega arith, (omega arith, (omega arith, tt)))))

-- a line is no longer than its buffer, which keeps its length
text-length : (c : After-text2) → length c.render-n.new.line ≡ 64
text-length c =
    let e = c.render-n.ensures in
    ap length e.1 ∙ simp (length-append, length-drop) (omega (arith, e.0, short c.before.before.before.before))

pub slice_bounds-append-end-2 : goal.slice_bounds-append-end-2
slice_bounds-append-end-2 c = omega (arith, text-length c)

pub append-requires : goal.append-requires
append-requires c =
    let s = short c.before.before.before.before in
    (search rules, search rules, omega (arith, c.render-n.ensures.0, s), omega (arith, c.render-n.ensures.0, s, text-length c))

pub returns : goal.returns
returns c =
    let a = c.args in
    let r = c.render-n in
    let e = text-as _ (line a.kind (answer_of a.answer)) (rendered r.result _ r.new.line _ r.ensures.0 r.ensures.1) c.append.ensures in
    record { lies = search rules; holds = e.holds; still = λ h. e.still (omega arith); closed = e.closed }

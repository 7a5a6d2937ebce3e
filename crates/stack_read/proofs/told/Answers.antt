-- `stack_read::told` meets its contract. Assumes nothing.
use Rattle.std.proofs.Common.{◌≡◌, ◌+◌, ◌-◌, ◌<◌, ◌≤◌, length, sym, ◌∙◌, arith}
use Rattle.number.specs.Parts.{at}
use Rattle.stack_layout.specs.Code.{short_length}
use Rattle.stack_laws.proofs.ReadLaws.{no_length, code-none, code-table, code-short, code-long, code-above}
use Rattle.stack_laws.proofs.TableLaws.{length-told}
use Rattle.stack_read.proofs.told.Goals as goal
use Rattle.stack_read.proofs.told.Lts as place
use Rattle.stack_read.proofs.told.Reads as reads
use Rattle.stack_read.proofs.told.Tie as tie

-- steps of the code, by name
abbrev Else2 : Type 0
Else2 = place.Else2 tie.the-claims reads.Pre reads.Post

abbrev After-short_after : Type 0
After-short_after = place.After-short_after tie.the-claims reads.Pre reads.Post

pub returns-then-code : goal.returns-then-code
returns-then-code c m f =
    rw (c.damage.ensures.0, c.damage.ensures.1)
    (no_length (length c.args.secondary.now) c.args.p.0 m c.requires.1
    ∙ sym (code-none _ (at c.args.secondary.now) c.args.p.0 c.args.code m c.if-code.true (omega arith) f))

-- the code is one of Table 1
short : (c : Else2) → (1 ≤ c.args.code) × (c.args.code < 37)
short c =
    code-table (length c.args.secondary.now) (at c.args.secondary.now) c.args.p.0 c.args.code 0 c.if-code.false

pub short_offset-i-requires : goal.short_offset-i-requires
short_offset-i-requires c = short c.before

pub short_after-requires : goal.short_after-requires
short_after-requires c = short c.before.before

whole : (c : After-short_after) → c.short_offset-i.result + c.short_after.result + 1 ≡ short_length c.args.code
whole c = rw c.short_offset-i.ensures c.short_after.ensures

few : (c : After-short_after) → short_length c.args.code ≤ 8
few c = let t = short c.before.before in (length-told _ t.0 t.1).1

pub overflow_add-result : goal.overflow_add-result
overflow_add-result c = omega (arith, whole c.before, few c.before)

pub overflow_add-result-then-code-lt48 : goal.overflow_add-result-then-code-lt48
overflow_add-result-then-code-lt48 c = omega (arith, whole c.before, few c.before)

pub returns-then-code-lt48 : goal.returns-then-code-lt48
returns-then-code-lt48 c m f =
    rw (whole c.before, c.short_offset-i.ensures)
    (sym (code-short _ (at c.args.secondary.now) c.args.p.0 c.args.code m c.if-code.false))

pub returns-then-code-gt62 : goal.returns-then-code-gt62
returns-then-code-gt62 c m f =
    rw (c.damage-then-code-gt62.ensures.0, c.damage-then-code-gt62.ensures.1)
    (no_length (length c.args.secondary.now) c.args.p.0 m c.requires.1
    ∙ sym (code-above _ (at c.args.secondary.now) c.args.p.0 c.args.code m (omega arith)))

pub returns : goal.returns
returns c m f =
    let j : c.from.result - 48 ≡ c.args.code - 48 = rw c.from.ensures in
    c.told_long.ensures m ∙ rw j (sym (code-long _ (at c.args.secondary.now) c.args.p.0 c.args.code m (omega arith) (omega arith)))

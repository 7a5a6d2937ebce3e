-- `stack_audit::turn` meets its contract. Assumes nothing.
use native.Mathlib.Omega.{arith}
use borrow.Author.Rules.{rules}
use Rattle.number.specs.Parts.{at}
use Rattle.number.proofs.WordLaws.{odds-le}
use Rattle.stack_audit_laws.proofs.PassedLaws.{Passed}
use Rattle.stack_audit_laws.proofs.TurnLaws.{in_block, run-passed, turned_clear, turned-run}
use Rattle.stack_audit.proofs.turn.Goals as goal
use Rattle.stack_audit.proofs.turn.Lts as place
use Rattle.stack_audit.proofs.turn.Reads as reads
use Rattle.stack_audit.proofs.turn.Tie as tie

-- steps of the code, by name
abbrev Then3 : Type 0
Then3 = place.Then3 tie.the-claims reads.Pre reads.Post

pub returns-then-at-end : goal.returns-then-at-end
returns-then-at-end c =
    let a = c.args in
    let k = c.current-k in
    turned_clear a.primary.now a.secondary.now a.q.0 a.w c.requires k.result c.literal_at-literal.result k.ensures c.literal_at-literal.ensures
    _ c.if-k-eq0.true c.clear_to-end.ensures c.if-at-end.true

pub ahead-n-requires : goal.ahead-n-requires
ahead-n-requires c =
    let a = c.args in
    let k = c.current-k in (
      record { within = omega arith; same = c.requires.same; small = c.requires.small },
      omega (
        arith,
        in_block a.primary.now a.secondary.now a.q.0 a.w c.requires k.result c.literal_at-literal.result k.ensures
            c.literal_at-literal.ensures,
        c.if-k-eq0.false,
      ),
    )

-- the bytes that are passed are those of the block
own : (c : Then3)
    →
    let a = c.args in
    Passed a.primary.now a.secondary.now a.q.0 c.current-k.result a.w.i c.literal_at-literal.result c.ahead-n.result.n c.ahead-n.result.written
own c =
    let a = c.args in
    let k = c.current-k in
    run-passed a.primary.now a.secondary.now a.q.0 a.w c.requires k.result c.literal_at-literal.result k.ensures c.literal_at-literal.ensures
    c.ahead-n.result c.if-k-eq0.false c.ahead-n.ensures

pub overflow_cast-n : goal.overflow_cast-n
overflow_cast-n c = let p = own c.before in search (rules, p.inside)

pub past-requires : goal.past-requires
past-requires c =
    let p = own c.before in
    let m = odds-le (at c.args.primary.now) c.args.q.0 c.ahead-n.result.n in
    (p.block, omega arith, omega (arith, p.inside), omega (arith, p.inside, p.marks))

pub returns-then-n-ne0 : goal.returns-then-n-ne0
returns-then-n-ne0 c =
    let a = c.args in
    let k = c.current-k in
    turned-run a.primary.now a.secondary.now a.q.0 a.w c.requires k.result c.literal_at-literal.result k.ensures c.literal_at-literal.ensures _ _
    c.past.result (own c.before.before)
    (omega (arith, c.if-n-ne0.true)) c.past.ensures

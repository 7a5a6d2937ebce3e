-- `stack_audit_pieces::pieces` meets its contract. Assumes nothing.
use mathlib.Core.Path.{◌≡◌, sym, ◌∙◌}
use Prim.Native.Nat.{◌+◌, ◌≤◌}
use native.Mathlib.Omega.{arith}
use native.Mathlib.Nat.{zero-add}
use lib.Dec.{eqb}
use Rattle.number.specs.Parts.{at, run_of, odd_bytes}
use Rattle.number.proofs.RunLaws.{run-full, run-broken, run_on, eights-end, eights-stop}
use Rattle.number.proofs.WordLaws.{AllBytes, odds-le, odds-split}
use Rattle.stack_audit_laws.specs.Runs.{stands_at, own_run}
use Rattle.stack_audit_laws.proofs.PassedLaws.{run_is, word-odds, piece-seen}
use Rattle.stack_audit_pieces.proofs.pieces.Goals as goal
use Rattle.stack_audit_pieces.proofs.pieces.Lts as place
use Rattle.stack_audit_pieces.proofs.pieces.Reads as reads
use Rattle.stack_audit_pieces.proofs.pieces.Tie as tie

-- steps of the code, by name
abbrev After-holds : Type 0
After-holds = place.After-holds tie.the-claims reads.Pre reads.Post goal.the-invariant-loop-n goal.the-decreases-loop-n

pub loop-n-init : goal.loop-n-init
loop-n-init c = c.far-n.ensures

-- whether the eight bytes are those of the block
seen : (c : After-holds) → AllBytes (at c.args.primary.now) → AllBytes (at c.args.secondary.now)
    → let a = c.args in
    c.holds.result ≡ eqb (run_of (stands_at a.primary.now a.secondary.now a.q.0 a.len a.i a.literal) c.loop-n.n 8) 8
seen c b_p b_s =
    let a = c.args in
    let l = c.loop-n in
    let g : a.i + l.n + 8 ≤ a.len = omega (arith, c.min-end.ensures, c.loop-n-test.true) in
    piece-seen a.primary.now a.secondary.now a.q.0 a.len a.i a.literal l.n c.eight_at-x.result c.eight_at.result b_p b_s
    c.eight_at-x.ensures c.eight_at.ensures c.holds.result _ c.first_byte-first.ensures.0 (omega arith)
    (omega (arith, l.invariant.0)) c.requires.1 c.ranges.len.fits (omega arith)
    (rw (c.from.ensures, c.from-in-loop-n.ensures) at c.holds.ensures)

pub returns-then-not-holds : goal.returns-then-not-holds
unfolding own_run
returns-then-not-holds c =
    let l = c.loop-n in
    let a = c.args in
    let t = stands_at a.primary.now a.secondary.now a.q.0 a.len a.i a.literal in
    run_is a.primary.now a.q.0 l.n l.written _
    (rw (← c.min-end.ensures) (eights-stop t l.n _ l.invariant.0 l.invariant.2 c.loop-n-test.true
    (run-broken t l.n 8 c.holds.result (seen c.before.before (λ q. (c.type_inv.primary q).fits) (λ q. (c.type_inv.secondary q).fits))
    c.if-not-holds.true))) l.invariant.3

pub overflow_add-written : goal.overflow_add-written
overflow_add-written c =
    let a = c.args in
    let l = c.loop-n in
    omega (arith, l.invariant.3, odds-le (at a.primary.now) a.q.0 l.n, l.invariant.1, c.odds-written.ensures.1, c.min-end.ensures)

pub loop-n-preserved : goal.loop-n-preserved
loop-n-preserved c =
    let a = c.args in
    let l = c.loop-n in
    let t = stands_at a.primary.now a.secondary.now a.q.0 a.len a.i a.literal in
    let f : run_of t l.n 8 ≡ 8 =
    run-full t l.n 8 c.holds.result (seen c.before.before.before (λ q. (c.type_inv.primary q).fits) (λ q. (c.type_inv.secondary q).fits))
    c.if-not-holds.false in
    let o : c.odds-written.result ≡ odd_bytes (at a.primary.now) (a.q.0 + l.n) 8 =
    c.odds-written.ensures.0
    ∙ word-odds a.primary.now a.secondary.now a.q.0 a.len a.i a.literal l.n c.eight_at-x.result c.eight_at.result
    (λ q. (c.type_inv.primary q).fits) (λ q. (c.type_inv.secondary q).fits)
    c.eight_at-x.ensures c.eight_at.ensures 8 (omega arith) in (
      omega arith,
      omega arith,
      run_on t 0 l.n 8 l.invariant.2 ∙ rw (zero-add l.n, f),
      rw (l.invariant.3, o) (sym (odds-split (at a.primary.now) a.q.0 l.n 8)),
    )

pub returns : goal.returns
unfolding own_run
returns c =
    let l = c.loop-n in
    let a = c.args in
    let t = stands_at a.primary.now a.secondary.now a.q.0 a.len a.i a.literal in
    run_is a.primary.now a.q.0 l.n l.written _
    (rw (← c.min-end.ensures) (eights-end t l.n _ l.invariant.0 l.invariant.2 l.invariant.1 (omega arith))) l.invariant.3

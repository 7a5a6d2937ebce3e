-- `heap_audit_runs::player_ones` meets its contract. Assumes nothing.
use Rattle.std.proofs.Common.{◌≡◌, ◌+◌, ◌/◌, ◌%◌, ◌^◌, sym, refl, ◌∙◌, add-one, arith}
use lib.Bits.{bit_or}
use lib.Count.{ones-le}
use Rattle.std.proofs.lemmas.Bool.Decides.{nat_tests}
use Rattle.number.specs.Parts.{at}
use Rattle.heap_audit_laws.specs.Runs.{Owned}
use Rattle.heap_audit_laws.proofs.BitsLaws.{or-low, or-high}
use Rattle.heap_audit_laws.proofs.RunLaws.{owned-more}
use Rattle.heap_audit_runs.proofs.player_ones.Goals as goal

pub overflow_add-written : goal.overflow_add-written
overflow_add-written c = omega (arith, ones-le 64 c.over_number-bits.result c.over_number-bits.type_inv)

pub loop-j-preserved : goal.loop-j-preserved
loop-j-preserved c =
    let a = c.args in
    let i = c.loop-j.invariant in
    let bits = c.over_number-bits.result in
    let few = ones-le 64 bits c.over_number-bits.type_inv in
    let own : bit_or c.loop-j.over bits % 2 ^ 32 ≡ 0 → bit_or c.loop-j.over bits / 2 ^ 40 ≡ 0
    → Owned 4 8 (at a.heap.now) a.t a.d (c.loop-j.j + 1) (c.loop-j.written + c.from-written.result) =
    λ x y.
    let u = or-low 32 c.loop-j.over bits x in
    let v = or-high 40 c.loop-j.over bits y in
    rw (add-one c.loop-j.j, c.from-written.ensures)
    (owned-more 4 8 refl (at a.heap.now) (λ q. (c.type_inv.heap q).fits) a.t a.d c.loop-j.j c.loop-j.written c.loop-j.number
    bits (i.2 u.0 v.0) i.0 (omega arith) (sym c.over_number-bits.ensures ∙ omega arith) u.1 (omega arith)) in
    (omega arith, omega arith, own)

pub returns : goal.returns
returns c =
    let l = c.loop-j in
    let e : l.j ≡ c.args.n = omega arith in
    let o : (l.over % 2 ^ 32 ≡ 0) × (l.over / 2 ^ 40 ≡ 0) = grind (arith, nat_tests) in
    rw e at (l.invariant.2 o.0 o.1)

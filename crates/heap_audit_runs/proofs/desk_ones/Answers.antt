-- `heap_audit_runs::desk_ones` meets its contract. Assumes nothing.
use Rattle.std.proofs.Common.{◌≡◌, ◌+◌, ◌/◌, ◌^◌, ◌∙◌, add-one, arith}
use lib.Bits.{bit_or, bit_xor}
use lib.Count.{ones-le}
use Rattle.std.proofs.lemmas.Bool.Decides.{nat_tests}
use Rattle.number.specs.Parts.{at}
use Rattle.heap_audit_laws.specs.Runs.{Owned}
use Rattle.number.proofs.BitLaws.{or-zero, xor-zero}
use Rattle.heap_audit_laws.proofs.BitsLaws.{or-high}
use Rattle.heap_audit_laws.proofs.RunLaws.{owned-pair}
use Rattle.heap_audit_runs.proofs.desk_ones.Goals as goal

pub overflow_add-written : goal.overflow_add-written
overflow_add-written c = omega (arith, ones-le 64 c.eight_at-high.result c.eight_at-high.type_inv)

pub loop-j-preserved : goal.loop-j-preserved
loop-j-preserved c =
    let a = c.args in
    let i = c.loop-j.invariant in
    let high = c.eight_at-high.result in
    let low = c.eight_at.result in
    let few = ones-le 64 high c.eight_at-high.type_inv in
    let own : bit_or c.loop-j.wrong (bit_xor low c.loop-j.number) ≡ 0 → bit_or c.loop-j.bits high / 2 ^ 16 ≡ 0
    → Owned 8 16 (at a.heap.now) a.t a.d (c.loop-j.j + 1) (c.loop-j.written + c.from-written.result) =
    λ x y.
    let u = or-zero c.loop-j.wrong (bit_xor low c.loop-j.number) x in
    let v = or-high 16 c.loop-j.bits high y in
    rw (add-one c.loop-j.j, c.from-written.ensures)
    (owned-pair 8 16 (at a.heap.now) a.t a.d c.loop-j.j c.loop-j.written low high (i.2 u.0 v.0) c.eight_at.ensures c.eight_at-high.ensures
    (xor-zero low c.loop-j.number u.1 ∙ i.0) (omega arith)) in
    (omega arith, omega arith, own)

pub returns : goal.returns
returns c =
    let l = c.loop-j in
    let e : l.j ≡ c.args.n = omega arith in
    let o : (l.wrong ≡ 0) × (l.bits / 2 ^ 16 ≡ 0) = grind (arith, nat_tests) in
    rw e at (l.invariant.2 o.0 o.1)

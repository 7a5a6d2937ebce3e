-- `heap_audit::walk::marks` meets its contract: the ones of a number are those of its bytes. Assumes nothing.
use Rattle.std.proofs.Common.{◌≡◌, ◌+◌, ◌*◌, ◌/◌, ◌%◌, ◌^◌, ◌∙◌, sym, arith}
use lib.Count as count
use Rattle.number.proofs.BitLaws.{ones-all}
use Rattle.heap_audit.proofs.walk.marks.Goals as goal

pub returns-in-Player : goal.returns-in-Player
returns-in-Player c =
    let h = rw c.in-Player.is at c.requires in
    rw c.in-Player.is (c.ones.ensures.0 ∙ sym (ones-all 8 c.args.high h), c.ones.ensures.1)

pub returns-in-Desk : goal.returns-in-Desk
returns-in-Desk c =
    let x = c.args.high in
    let h = rw c.in-Desk.is at c.requires in
    let e : x / 256 * 2 ^ 8 + x % 256 ≡ x = omega arith in
    let a = ones-all 8 (x % 256) (omega arith) in
    let b = ones-all 8 (x / 256) (omega arith) in
    let k = rw e at (count.ones_cat 8 (x / 256) (x % 256) (omega arith)) in
    rw c.in-Desk.is (omega (arith, a, b, k, c.ones-in-Desk.ensures.0, c.ones-in-Desk-2.ensures.0), omega (arith, c.ones-in-Desk.ensures.1, c.ones-in-Desk-2.ensures.1))

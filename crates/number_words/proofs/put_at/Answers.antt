-- `number_words::put_at` meets its contract. Assumes nothing.
use mathlib.Core.Path.{ap, ◌∙◌}
use Prim.Native.Nat.{◌-◌}
use native.Mathlib.Nat.{add-sub_cancel_left}
use lib.ListN.{length}
use Rattle.number.specs.Little.{byte_of}
use Rattle.number.proofs.LittleLaws.{length-bytes_of, at-bytes_of}
use Rattle.number.proofs.PartLaws.{over-part}
use Rattle.number_words.proofs.put_at.Goals as goal

pub returns : goal.returns
returns c =
    let a = c.before.before.before.before.before.args in
    let e = c.before.before.put_number.ensures in
    over-part a.s.now c.before.before.put_number.new.bytes a.p 4 (λ q. byte_of a.v (q - a.p)) c.before.before.before.before.before.requires
    (ap length e ∙ length-bytes_of 4 a.v)
    (λ i h. rw (e, at-bytes_of 4 a.v i h, add-sub_cancel_left a.p i))

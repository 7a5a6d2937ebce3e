-- `calls_records::decode` meets its contract. Assumes nothing.
use Rattle.std.proofs.Common.{refl, sym, ap, ◌∙◌}
use Rattle.std.proofs.Math.Option.{some}
use native.Mathlib.Omega.{arith}
use Rattle.calls_format.proofs.RecordLaws.{Headed, cut-head, no_record, other_length, cut-body, decodes}
use Rattle.calls_kinds.specs.Kind.{number_of}
use Rattle.calls_kinds.proofs.KindLaws.{head_held}
use Rattle.calls_records.proofs.decode.Goals as goal
use Rattle.calls_records.proofs.decode.Lts as place
use Rattle.calls_records.proofs.decode.Reads as reads
use Rattle.calls_records.proofs.decode.Tie as tie

-- steps of the code, by name
abbrev After-length : Type 0
After-length = place.After-length tie.the-claims reads.Pre reads.Post

headed : (c : After-length) → Headed c.args.bytes.now (number_of c.in-Ok.kind) c.length-length.result
headed c = record { long = c.if-bytes-lt4.false; kind = c.in-Ok.ensures ∙ c.short_at.ensures; size = c.length-length.ensures }

pub returns-then-bytes-lt4 : goal.returns-then-bytes-lt4
returns-then-bytes-lt4 c = sym (cut-head _ c.if-bytes-lt4.true)

pub returns-in_default : goal.returns-in_default
returns-in_default c = let none_known = c.in_default.ensures.1 in sym (no_record _ (rw c.short_at.ensures at none_known))

pub returns-then-short_at-length : goal.returns-then-short_at-length
returns-then-short_at-length c = sym (other_length (headed c.before.before.before) (λ e. c.if-short_at-length.true (c.short_at-2.ensures ∙ e)))

pub returns-then-bytes-length : goal.returns-then-bytes-length
returns-then-bytes-length c = sym (cut-body (headed c.before.before.before.before) c.if-bytes-length.true)

pub returns : goal.returns
returns c =
    let h = headed c.before.before.before.before.before in
    let long = head_held c.in-Ok.kind in
    let d = decodes h (omega (arith, c.length-length.ensures, long)) (sym c.short_at-2.ensures ∙ c.if-short_at-length.false) c.if-bytes-length.false in
    ap some c.request_of.ensures ∙ sym d

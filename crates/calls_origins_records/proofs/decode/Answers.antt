-- `calls_origins_records::decode` meets its contract. Assumes nothing.
use Rattle.std.proofs.Common.{◌≡◌, true, false, ap, sym, ◌∙◌}
use Rattle.std.proofs.Math.Option.{some}
use borrow.Author.Rules.{rules}
use Rattle.calls_format.specs.Records.{call, kind_field}
use Rattle.calls_origins_format.specs.Records.{is_own}
use Rattle.calls_origins_format.proofs.RecordLaws.{decode-short, decode-plain, decode-other, decode-pointer}
use Rattle.calls_origins_kinds.specs.declared.PointerKind.{PointerKind}
use Rattle.calls_origins_kinds.specs.declared.PointerKind.TheVariants.{Point, Copy, Live}
use Rattle.calls_origins_kinds.specs.Kind.{number_of}
use Rattle.calls_origins_records.proofs.decode.Goals as goal

-- a kind of pointers is one that this program alone has
own : (kind : PointerKind) → is_own (number_of kind) ≡ true
own Point = search rules
own Copy = search rules
own Live = search rules

pub returns-then-bytes-lt12 : goal.returns-then-bytes-lt12
returns-then-bytes-lt12 c = c.plain_of.ensures ∙ sym (decode-short _ c.if-bytes-lt12.true)

pub returns-in_default : goal.returns-in_default
returns-in_default c =
    let other = c.in_default.ensures.1 in
    c.plain_of-in_default.ensures ∙ sym (decode-plain _ (rw c.short_at.ensures at other))

pub returns-then-short_at-ne12 : goal.returns-then-short_at-ne12
returns-then-short_at-ne12 c =
    let k = c.in-Ok.ensures ∙ c.short_at.ensures in
    sym (decode-other _ (rw k at (own c.in-Ok.kind)) (λ e. c.if-short_at-ne12.true (c.short_at-2.ensures ∙ e)))

pub returns : goal.returns
returns c =
    let k = c.in-Ok.ensures ∙ c.short_at.ensures in
    ap (λ x. some (call x)) c.pointer_of.ensures
    ∙ rw k (sym (decode-pointer _ (rw k at (own c.in-Ok.kind)) (sym c.short_at-2.ensures ∙ c.if-short_at-ne12.false) c.if-bytes-lt12.false))

-- `samples_text::digit` meets its contract. Assumes nothing.
use Rattle.samples_text.proofs.TextLaws.{digit-of, digit_low, digit-high}
use Rattle.samples_text.proofs.digit.Goals as goal

pub returns-in-48-to-57 : goal.returns-in-48-to-57
returns-in-48-to-57 c = digit-of _ _ c.from.ensures c.in-48-to-57.if-byte-lt48-own.false c.in-48-to-57.if-byte-lt58-own.true

pub returns-in_default : goal.returns-in_default
returns-in_default c = digit_low _ c.in_default.if-byte-lt48-own.true

pub returns-in_default-2 : goal.returns-in_default-2
returns-in_default-2 c = digit-high _ c.in_default.if-byte-lt48-own.false c.in_default.if-byte-lt58-own.false

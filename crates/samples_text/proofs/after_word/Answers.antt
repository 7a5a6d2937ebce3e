-- `samples_text::after_word` meets its contract. Assumes nothing.
use Rattle.samples_text.proofs.TextLaws.{word-here, word-other}
use Rattle.samples_text.proofs.after_word.Goals as goal

pub returns-then-starts_with : goal.returns-then-starts_with
returns-then-starts_with c = word-here _ _ _ _ _ c.rest.ensures c.starts_with.ensures.value c.if-starts_with.true

pub returns-else-starts_with : goal.returns-else-starts_with
returns-else-starts_with c = word-other _ _ _ _ _ c.rest.ensures c.starts_with.ensures.value c.if-starts_with.false

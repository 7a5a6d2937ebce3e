-- `samples_text::long_at` meets its contract. Assumes nothing.
use Rattle.samples_text.proofs.TextLaws.{Counted}
use Rattle.samples_text.proofs.long_at.Given as goal

abbrev pub invariant-loop-n : goal.invariant-loop-n
invariant-loop-n l = Counted l.text l.value l.n

-- `samples_text::skip` meets its contract. Assumes nothing.
use Rattle.std.proofs.Common.{rules}
use Rattle.std.proofs.lemmas.Iterator.{IsFirst-from_position, YieldsList-from_slice}
use borrow.Author.Tests.{tests}
use Rattle.samples_text.proofs.TextLaws.{Other, Gap, skipped}
use Rattle.samples_text.proofs.skip.Goals as goal

pub returns : goal.returns
returns c =
    let text = c.rest-text.result.now in
    let found = IsFirst-from_position _ _ c.position-other_byte.result (Other c.args.other) (Gap c.args.other)
    c.position-other_byte.ensures.ran (YieldsList-from_slice text cc) (λ x q k. search (rules, tests)) (λ x q k. search (rules, tests)) in
    skipped _ _ _ _ _ _ c.rest-text.ensures found c.unwrap_or.ensures

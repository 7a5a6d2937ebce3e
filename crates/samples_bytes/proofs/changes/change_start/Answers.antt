-- `samples_bytes::changes::change_start` meets its contract. Assumes nothing.
use Rattle.std.proofs.Common.{rules}
use Rattle.std.proofs.lemmas.Iterator.{YieldsList-from_slice, YieldsList-from_zip}
use Rattle.std.proofs.lemmas.Iterator.Search.{position_from_yields_List}
use borrow.Author.Tests.{tests}
use Rattle.samples_bytes.proofs.ChangeLaws.{differs, starts}
use Rattle.samples_bytes.proofs.changes.change_start.Goals as goal

pub returns : goal.returns
returns c =
    let pairs = YieldsList-from_zip {s = c.zip.result} (YieldsList-from_slice c.args.old.now cc) (YieldsList-from_slice c.args.new.now cc) in
    starts _ _ _
    (position_from_yields_List differs c.position.new.self _ c.position.result c.position.ensures.ran pairs (λ x b q k. search (rules, tests)))

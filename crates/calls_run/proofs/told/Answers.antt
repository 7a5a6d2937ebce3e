-- `calls_run::told` meets its contract. Assumes nothing.
use mathlib.Core.Path.{refl}
use borrow.Author.Rules.{rules}
use Rattle.calls_run.proofs.told.Goals as goal

pub returns : goal.returns
returns c = record { under = refl; past = c.past.ensures; adds = c.line-added.ensures; goes = refl }

-- `calls_origins_plan::plan_of` meets its contract. Assumes nothing.
use mathlib.Core.Path.{ap, ◌∙◌}
use Rattle.calls_format.specs.Decoded as plain
use Rattle.calls_origins_plan.specs.Plan.{lifted}
use Rattle.calls_origins_plan.proofs.PlanLaws.{planned-plain}
use Rattle.calls_origins_plan.proofs.plan_of.Goals as goal

pub returns-in-Plain : goal.returns-in-Plain
returns-in-Plain c =
    rw c.in-Plain.is (c.plan_like.ensures ∙ ap lifted c.plan_of.ensures ∙ planned-plain _ (plain.requested c.in-Plain.asked))

-- What a request asks of the library with origins. Assumes nothing.
use Rattle.std.specs.Prelude.{Result}
use Rattle.plain.specs.Call as base
use Rattle.monitor_base.specs.declared.Refusal.{Refusal}
use Rattle.origins_list.specs.Call.{Call, plain}
use Rattle.origins_base.specs.declared.OriginsCall.{OriginsCall}
use Rattle.origins_base.specs.Answers.{call_of}
use Rattle.calls_plan.specs.declared.Step.{Step}
use Rattle.calls_plan.specs.Plan.{Planned, step, refused, plan_by}

abbrev pub plan_of : Result (Step OriginsCall) Refusal → Planned Call
plan_of = plan_by call_of

-- a plan of the plain program, for this one
abbrev pub lifted : Planned base.Call → Planned Call
lifted (step m c) = step m (plain c)
lifted (refused n) = refused n

-- What a request asks of the monitor. Assumes nothing.
use Rattle.std.specs.Prelude.{ℕ, zero, suc, Result, Ok, Err}
use Rattle.map.specs.declared.Map.{Map}
use Rattle.plain.specs.Call.{Call}
use Rattle.monitor_base.specs.declared.Refusal.{Refusal}
use Rattle.monitor_base.specs.Refusals.{code_of}
use Rattle.monitor_base.specs.Answers.{call_of}
use Rattle.monitor_base.specs.declared.Call as code
use Rattle.calls_format.specs.Records.{Asked, new_map, call}
use Rattle.calls_format.specs.Running.{map_number}
use Rattle.calls_plan.specs.declared.Step.{Step}

-- a call of the program's form under a map, or a refusal, which keeps map and state
pub data Planned (C : Type 0) : Type 0 where
  step : Map → C → Planned C
  refused : (number : ℕ) → Planned C

-- by what a call of the code stands for
abbrev pub plan_by : {C D : Type 0} → (C → D) → Result (Step C) Refusal → Planned D
plan_by f (Ok s) = step s.under (f s.call)
plan_by f (Err r) = refused (code_of r)

abbrev pub plan_of : Result (Step code.Call) Refusal → Planned Call
plan_of = plan_by call_of

module _ {C : Type 0} (clear : C) where
  -- a map answered with this number: an accepted one clears, under itself
  abbrev pub answered_by : (number : ℕ) → Map → Planned C
  answered_by zero m = step m clear
  answered_by (suc k) m = refused (suc k)

  -- under the map that holds
  abbrev pub planned : Map → Asked C → Planned C
  planned m (new_map n) = answered_by (map_number n) n
  planned m (call c) = step m c

-- Request S-4: "takes the plain kinds too". What they, and place, which has no kind, are in the form with origins where they are accepted, against the
-- plain form's `call` on the same three shadows, for every input. Proved in proofs/PlainKinds.antt. Assumes nothing.
use Rattle.std.specs.Prelude.{◌≡◌}
use Rattle.map.specs.declared.Map.{Map}
use Rattle.map.specs.FormMap.{player}
use Rattle.plain.specs.Call as base
use Rattle.monitor_base.specs.Calls as monitor
use Rattle.origins_list.specs.Call.{Call, plain}
use Rattle.origins_base.specs.Calls.{State, call}
use Rattle.demands_origins.specs.Demand1.{number_of}

-- the fields and the three block shadows are those of the plain form
abbrev pub PlainAccepted : Type 0
PlainAccepted =
    (m : Map) (c : base.Call) (x : State) → number_of m (plain c) x ≡ 0
    → ((call m (plain c) x).1 ≡ (monitor.call (player m) c x.shadows).1) × ((call m (plain c) x).0.shadows ≡ (monitor.call (player m) c x.shadows).0)

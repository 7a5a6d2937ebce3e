-- The run at its beginning. Assumes nothing.
use Rattle.std.specs.Prelude.{◌≡◌, true}
use Rattle.calls_format.specs.Running.{zero_map}
use Rattle.calls_run.specs.declared.Run.{Run}

-- no map yet; nothing is read, of an input that may have more; nothing waits, and the output is open; the run is on
abbrev pub Begun : Run → Type 0
Begun r =
    (r.map ≡ zero_map) × (r.window.at ≡ 0) × (r.window.end ≡ 0) × (r.window.more ≡ true) × (r.pending.filled ≡ 0) × (r.pending.open ≡ true)
    × (r.on ≡ true)

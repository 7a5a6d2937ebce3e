-- Where an address lies. Assumes nothing.
use Rattle.std.specs.Prelude.{◌≡◌, ℕ, ◌-◌}
use Rattle.map.specs.declared.Map.{Map}
use Rattle.map.specs.declared.Area.TheVariants as area
use Rattle.map.specs.Map.{area_of}
use Rattle.map.specs.declared.Located.{Located}
use Rattle.map.specs.declared.Located.TheVariants.{Heap, Stack, Outside}

-- the address lies there
abbrev pub Lies : Map → ℕ → Located → Type 0
Lies m a (Heap p) = (area_of m a ≡ area.Heap) × (p.0 ≡ a - m.heap_start)
Lies m a (Stack p) = (area_of m a ≡ area.Stack) × (p.0 ≡ a - m.stack_start)
Lies m a Outside = area_of m a ≡ area.Outside

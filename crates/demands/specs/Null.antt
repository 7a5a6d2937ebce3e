-- Request S-2, free of address 0, C's null pointer. Proved in proofs/Null.antt. Assumes nothing.
use Rattle.std.specs.Prelude.{◌≡◌, true, not, List, [], ◌∷◌}
use Rattle.map.specs.FormMap.{FormMap}
use Rattle.map.specs.Map.{good_map}
use Rattle.plain.specs.Block.{Block}
use Rattle.plain.specs.Areas.{map_rules}
use Rattle.plain.specs.Call.{free, answer, first_of}
use Rattle.plain.specs.PlainList.{plain_step}
use Rattle.shadows.specs.Shadows.{Shadows, lengths_fit}
use Rattle.monitor_base.specs.Calls.{call}
use Rattle.demands.specs.Addresses.{outside}

-- a good map keeps address 0 out of both areas
abbrev pub NullOutside : FormMap → Type 0
NullOutside m = good_map m ≡ true → outside m 0 ≡ true

-- "Free of address 0 shall be accepted and alter no byte. Answers: the 4 given for address 0 becomes 0, after 1 and 2": it is refused by 1 and 2
-- alone, else accepted, and no byte is altered; the plain list accepts it and keeps its blocks
abbrev pub FreeOfNull : FormMap → Type 0
FreeOfNull m =
    ((s : Shadows) → call m (free 0) s ≡ (s, answer (first_of ((1, not (good_map m)) ∷ (2, not (lengths_fit m s)) ∷ [])) 0 0 0 0))
    × ((bs : List Block) → plain_step (map_rules m) (free 0) bs ≡ (bs, answer 0 0 0 0 0))

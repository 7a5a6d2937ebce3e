-- Request S-7, only heap blocks may be freed: what is said of it that would fail if it were built wrongly on both sides, shadows and plain list. That
-- free of 0 stays accepted is Null.antt. Proved in proofs/Removals.antt. Assumes nothing.
use Rattle.std.specs.Prelude.{◌≡◌, ◌⊎◌, true, false, List, ℕ}
use Rattle.map.specs.FormMap.{FormMap}
use Rattle.map.specs.Map.{good_map}
use Rattle.plain.specs.Block.{Block}
use Rattle.plain.specs.Blocks.{Has}
use Rattle.plain.specs.Rules.{Placed}
use Rattle.plain.specs.Areas.{map_rules}
use Rattle.plain.specs.Call.{free, remove, answer}
use Rattle.plain.specs.PlainList.{plain_step}
use Rattle.shadows.specs.Shadows.{Shadows, lengths_fit, image}
use Rattle.monitor_base.specs.Calls.{call}
use Rattle.demands.specs.Addresses.{in_heap, in_stack}
use Rattle.demands.specs.Demand1.{number_of}

-- ---- free

-- "Free shall refuse stack addresses", by 15, "after 4 and ahead of 7 and 8": each of them, block or not, whatever the bytes are; on the plain list too
abbrev pub FreeOfStack : FormMap → Type 0
FreeOfStack m =
    good_map m ≡ true → (a : ℕ) → in_stack m a ≡ true
    → ((s : Shadows) → lengths_fit m s ≡ true → call m (free a) s ≡ (s, answer 15 0 0 0 0))
    × ((bs : List Block) → plain_step (map_rules m) (free a) bs ≡ (bs, answer 15 0 0 0 0))

-- ---- remove

-- kind 16 "gets 4 on every address outside the stack area, 0 included", whatever the bytes are; on the plain list too
abbrev pub RemoveElsewhere : FormMap → Type 0
RemoveElsewhere m =
    good_map m ≡ true → (a : ℕ) → in_stack m a ≡ false
    → ((s : Shadows) → lengths_fit m s ≡ true → call m (remove a) s ≡ (s, answer 4 0 0 0 0))
    × ((bs : List Block) → plain_step (map_rules m) (remove a) bs ≡ (bs, answer 4 0 0 0 0))

-- ---- both

-- free alters no primary and no secondary byte, and remove none of the heap shadow: on any map, lengths and bytes
abbrev pub EachItsArea : FormMap → Type 0
EachItsArea m = (a : ℕ) (s : Shadows) → ((call m (free a) s).0.1 ≡ s.1) × ((call m (remove a) s).0.0 ≡ s.0)

-- a is the base of a listed block
abbrev pub BaseOf : (a : ℕ) → List Block → Type 0
BaseOf a bs = (b : Block) × Has b bs × (b.base ≡ a)

-- "Only heap blocks may be freed": on every image free is accepted exactly at 0 and at the base of a heap block
abbrev pub FreeExactly : FormMap → Type 0
FreeExactly m =
    good_map m ≡ true → (bs : List Block) → Placed (map_rules m) 0 bs → (a : ℕ)
    → ((a ≡ 0) ⊎ ((in_heap m a ≡ true) × BaseOf a bs) → number_of m (free a) (image m bs) ≡ 0)
    × (number_of m (free a) (image m bs) ≡ 0 → (a ≡ 0) ⊎ ((in_heap m a ≡ true) × BaseOf a bs))

-- and remove, "a stack block", exactly at the base of one
abbrev pub RemoveExactly : FormMap → Type 0
RemoveExactly m =
    good_map m ≡ true → (bs : List Block) → Placed (map_rules m) 0 bs → (a : ℕ)
    → ((in_stack m a ≡ true) × BaseOf a bs → number_of m (remove a) (image m bs) ≡ 0)
    × (number_of m (remove a) (image m bs) ≡ 0 → (in_stack m a ≡ true) × BaseOf a bs)

-- Request S-5, text that may only be read: what is said of it that would fail if it were built wrongly on both sides, shadows and plain list.
-- Proved in proofs/Literals.antt and LiteralBegun.antt. Assumes nothing.
use Rattle.std.specs.Prelude.{◌≡◌, Bool, true, false, cond, List, ℕ, ◌+◌, ◌-◌, ◌≤◌, ◌<◌, eqb}
use Rattle.number.specs.Parts.{in_part}
use Rattle.map.specs.FormMap.{FormMap}
use Rattle.map.specs.Map.{good_map}
use Rattle.plain.specs.Block.{Block, len}
use Rattle.plain.specs.Blocks.{Has}
use Rattle.plain.specs.Rules.{Placed}
use Rattle.plain.specs.Areas.{map_rules}
use Rattle.plain.specs.Call.{Call, clear, begin, record_written, record_literal, free, remove, written, ask, valid, valid_write, valid_read, initialised, next, audit, place, answer}
use Rattle.plain.specs.PlainList.{plain_step}
use Rattle.shadows.specs.Shadows.{Shadows, image, Place, heap, primary, secondary, byte_at}
use Rattle.monitor_base.specs.Calls.{call}
use Rattle.demands.specs.Addresses.{in_heap}
use Rattle.demands.specs.Demand1.{number_of}
use Rattle.demands.specs.Alters.{in_place}

-- ---- valid_read and valid

-- one block of the list holds `from` and all n bytes from a on
abbrev pub HeldBy : Block → List Block → (a n from : ℕ) → Type 0
HeldBy b bs a n from = Has b bs × (b.base ≤ a) × (a + n ≤ b.base + len b) × (b.base ≤ from) × (from < b.base + len b)

-- on every image kind 15 answers 1 exactly if one block holds them all
abbrev pub ReadExactly : FormMap → Type 0
ReadExactly m =
    good_map m ≡ true → (bs : List Block) → Placed (map_rules m) 0 bs → (a n from : ℕ) → 1 ≤ n
    → ((b : Block) → HeldBy b bs a n from → call m (valid_read a n from) (image m bs) ≡ (image m bs, answer 0 1 0 0 0))
    × (((b : Block) → HeldBy b bs a n from → ⊥) → call m (valid_read a n from) (image m bs) ≡ (image m bs, answer 0 0 0 0 0))

-- and valid exactly if that block is no literal besides
abbrev pub WriteExactly : FormMap → Type 0
WriteExactly m =
    good_map m ≡ true → (bs : List Block) → Placed (map_rules m) 0 bs → (a n from : ℕ) → 1 ≤ n
    → ((b : Block) → HeldBy b bs a n from → b.literal ≡ false → call m (valid_write a n from) (image m bs) ≡ (image m bs, answer 0 1 0 0 0))
    × (((b : Block) → HeldBy b bs a n from → b.literal ≡ false → ⊥)
    → call m (valid_write a n from) (image m bs) ≡ (image m bs, answer 0 0 0 0 0))

-- ---- a literal stays as it is

-- the calls that may end the literal with this base: free is none of them, as it lies in the stack
abbrev pub ends_literal : (base : ℕ) → Call → Bool
ends_literal x clear = true
ends_literal x (begin h b l) = false
ends_literal x (free y) = false
ends_literal x (remove y) = eqb y x
ends_literal x (written a n) = false
ends_literal x (ask a) = false
ends_literal x (valid w a n from) = false
ends_literal x (initialised a n) = false
ends_literal x (next a) = false
ends_literal x audit = false
ends_literal x (place l k) = false

-- on every image no call but these ends a literal or alters a byte of it: it stays on the list, marks included, and each byte of its place, primary
-- and secondary, is as before
abbrev pub LiteralStays : FormMap → Type 0
LiteralStays m =
    good_map m ≡ true → (bs : List Block) → Placed (map_rules m) 0 bs → (b : Block) → Has b bs → b.literal ≡ true
    → (c : Call) → ends_literal b.base c ≡ false
    → Has b (plain_step (map_rules m) c bs).0
    × ((q : Place) → in_place m b.base (len b) q ≡ true → byte_at (call m c (image m bs)).0 q ≡ byte_at (image m bs) q)

-- ---- kind 14

-- at a base outside the heap kind 14 answers as kind 10, for any map, lengths and bytes
abbrev pub LiteralAnswers : FormMap → Type 0
LiteralAnswers m = (b l : ℕ) (s : Shadows) → in_heap m b ≡ false → (call m (record_literal b l) s).1 ≡ (call m (record_written b l) s).1

-- 2 at each primary byte of the block, 0 at every other byte of the shadows
abbrev pub two_at : FormMap → (base length : ℕ) → Place → ℕ
two_at m b l (heap q) = 0
two_at m b l (primary q) = cond (in_part (b - m.stack_start) l q) 2 0
two_at m b l (secondary q) = 0

-- and where it is accepted it leaves kind 10's bytes with 2 added to each primary byte of the block
abbrev pub LiteralBytes : FormMap → Type 0
LiteralBytes m =
    (b l : ℕ) (s : Shadows) → number_of m (record_literal b l) s ≡ 0 → (q : Place)
    → byte_at (call m (record_literal b l) s).0 q ≡ byte_at (call m (record_written b l) s).0 q + two_at m b l q

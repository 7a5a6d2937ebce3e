-- Request S-8, the desk simulator: what is said of its sizes that would fail if shadows and plain list had others, both at once. That the three demands
-- hold for the desk is `desk_first`, `desk_second` and `desk_third` of the promises; its samples are in crates/specification_samples. Proved in
-- proofs/Desk.antt. Assumes nothing.
use Rattle.std.specs.Prelude.{◌≡◌, true, cond, ℕ, ◌+◌, ◌*◌, ◌-◌, ◌≤◌, ◌<◌, leb}
use Rattle.map.specs.declared.Map.{Map}
use Rattle.map.specs.FormMap.{FormMap, desk}
use Rattle.plain.specs.Areas.{segments}
use Rattle.plain.specs.Call.{record_block, ask, answer}
use Rattle.shadows.specs.Shadows.{Shadows}
use Rattle.monitor_base.specs.Calls.{call}
use Rattle.demands.specs.Addresses.{in_heap}
use Rattle.demands.specs.Demand1.{number_of}

-- ---- every form

-- on any shadows: right after a heap block is recorded, ask of each address of its whole segments answers base, length and offset, and that the byte is
-- not written; past the block's end it is "no block", to the end of its last segment, and so it is in the header
abbrev pub RecordedRead : FormMap → Type 0
RecordedRead m =
    (s : Shadows) (b l : ℕ) → number_of m (record_block b l) s ≡ 0 → in_heap m b ≡ true
    → ((x : ℕ) → b ≤ x → x < b + segments m.segment l * m.segment
    → (call m (ask x) (call m (record_block b l) s).0).1 ≡ cond (leb l (x - b)) (answer 7 0 0 0 0) (answer 0 b l (x - b) 0))
    × ((x : ℕ) → b ≤ x + m.segment → x < b → (call m (ask x) (call m (record_block b l) s).0).1 ≡ answer 7 0 0 0 0)

-- ---- the desk, in its own numbers

-- "The example of 000, a 40-byte block at 0x100, must hold: 0x126 has offset 0x26, and 0x12A is in no block": on whatever shadows and under whatever map
-- such a block is recorded in the heap
abbrev pub DeskExample : Type 0
DeskExample =
    (m : Map) (s : Shadows) → number_of (desk m) (record_block 256 40) s ≡ 0 → in_heap (desk m) 256 ≡ true
    → ((call (desk m) (ask 294) (call (desk m) (record_block 256 40) s).0).1 ≡ answer 0 256 40 38 0)
    × ((call (desk m) (ask 298) (call (desk m) (record_block 256 40) s).0).1 ≡ answer 7 0 0 0 0)

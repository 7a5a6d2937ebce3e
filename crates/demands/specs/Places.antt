-- Request S-6, a place for the next block: what is said of it that would fail if it were built wrongly on both sides, shadows and plain list.
-- Of any map, any bytes, any length and any budget, in whole numbers, unless it is said otherwise. Proved in proofs/Places.antt.
-- Assumes nothing.
use Rattle.std.specs.Prelude.{◌≡◌, true, List, ℕ, suc, ◌+◌, ◌*◌, ◌-◌, ◌≤◌, ◌<◌, min}
use Rattle.number.specs.Parts.{at}
use Rattle.map.specs.FormMap.{FormMap}
use Rattle.map.specs.Map.{good_map}
use Rattle.plain.specs.Block.{Block}
use Rattle.plain.specs.Gaps.{Gap, Among, Ascending}
use Rattle.plain.specs.Rules.{Placed}
use Rattle.plain.specs.Areas.{segments, map_rules}
use Rattle.plain.specs.Call.{record_block, record_written, place, Answer, answer}
use Rattle.shadows.specs.Shadows.{Shadows, shadow_ops, image}
use Rattle.monitor_base.specs.Calls.{call}
use Rattle.demands.specs.Gaps.{heap_segments, gaps_below, place_bytes}
use Rattle.demands.specs.Demand1.{number_of}

-- the n bytes of the heap shadow from q on are zero
abbrev pub ZeroFrom : Shadows → (q n : ℕ) → Type 0
ZeroFrom s q n = (p : ℕ) → q ≤ p → p < q + n → at s.0 p ≡ 0

-- the n segments from segment i on are a gap
pub record IsGap (m : FormMap) (s : Shadows) (i n : ℕ) : Type 0 where
  -- "the runs of all-zero heap shadow segments"
  pub some : 1 ≤ n
  pub inside : i * m.segment + n * m.segment ≤ m.heap_size
  pub zero : ZeroFrom s (i * m.segment) (n * m.segment)
  -- "that no such segment adjoins": neither the one before nor the one after
  pub before : (j : ℕ) → suc j ≡ i → ZeroFrom s (j * m.segment) m.segment → ⊥
  pub after : i * m.segment + n * m.segment + m.segment ≤ m.heap_size → ZeroFrom s (i * m.segment + n * m.segment) m.segment → ⊥

-- ---- the gaps of the definition

abbrev pub gaps_at : FormMap → Shadows → List Gap
gaps_at m s = (shadow_ops m).gaps s

-- the gap of n segments from segment i on, by addresses
abbrev pub gap_from : FormMap → (i n : ℕ) → Gap
gap_from m i n = record { start = m.heap_start + i * m.segment; bytes = n * m.segment }

-- they are exactly the gaps, each once, "in address order"
abbrev pub GapsExactly : FormMap → Type 0
GapsExactly m =
    (s : Shadows)
    → ((i n : ℕ) → IsGap m s i n → Among (gap_from m i n) (gaps_at m s))
    × ((g : Gap) → Among g (gaps_at m s) → (i : ℕ) × (n : ℕ) × IsGap m s i n × (g ≡ gap_from m i n))
    × Ascending (gaps_at m s)

-- ---- the choice

-- a gap that is looked at, one of the first k, and fits: "it holds header and block"
pub record Fits (m : FormMap) (s : Shadows) (l k i n : ℕ) : Type 0 where
  pub gap : IsGap m s i n
  pub looked : gaps_below m s i < k
  pub holds : m.segment + l ≤ n * m.segment

-- "the block's whole segments": the least that hold its bytes
abbrev pub WholeSegments : FormMap → Type 0
WholeSegments m = (l : ℕ) → (l ≤ segments m.segment l * m.segment) × (segments m.segment l * m.segment < l + m.segment)

-- where place is accepted it answers the base, "its second segment", in a gap that is looked at and fits; no gap looked at that fits is smaller, and
-- none of the same size is lower; the gaps looked at are k, or all where those are fewer; the surplus is "the gap's bytes less the header and the
-- block's whole segments"; and no byte is altered
abbrev pub PlaceChooses : FormMap → Type 0
PlaceChooses m =
    (s : Shadows) (l k : ℕ) → number_of m (place l k) s ≡ 0
    → (i : ℕ) × (n : ℕ) × Fits m s l k i n
    × ((j p : ℕ) → Fits m s l k j p → (n ≤ p) × (n ≡ p → i ≤ j))
    × (call m (place l k) s
    ≡ (s, answer 0 (m.heap_start + i * m.segment + m.segment) (min k (gaps_below m s (heap_segments m))) (n * m.segment - place_bytes m l) 0))

abbrev pub surplus_of : Answer → ℕ
surplus_of (answer k a b c d) = c

-- "no larger budget can gain more than that surplus, and none gives a larger one": a larger budget is accepted too, with a surplus that is at most
-- this one's, so that it gains at most this surplus
abbrev pub LargerBudget : FormMap → Type 0
LargerBudget m =
    (s : Shadows) (l k k' : ℕ) → k ≤ k' → number_of m (place l k) s ≡ 0
    → (number_of m (place l k') s ≡ 0) × (surplus_of (call m (place l k') s).1 ≤ surplus_of (call m (place l k) s).1)

-- "A place for the next block": right after an accepted place, record of that base and length is accepted, and so is record_written
abbrev pub PlacedRecorded : FormMap → Type 0
PlacedRecorded m =
    (s : Shadows) (l k b c u : ℕ) → (call m (place l k) s).1 ≡ answer 0 b c u 0
    → (number_of m (record_block b l) s ≡ 0) × (number_of m (record_written b l) s ≡ 0)

-- ---- the plain list

-- "what a request defines by shadow bytes, the plain list works out on its own image": the gaps that it goes by, the heap's segments that no live
-- block's header or segments hold, are those of its image's bytes
abbrev pub OnItsOwnImage : FormMap → Type 0
OnItsOwnImage m =
    good_map m ≡ true → (bs : List Block) → Placed (map_rules m) 0 bs → (map_rules m).gaps bs ≡ gaps_at m (image m bs)

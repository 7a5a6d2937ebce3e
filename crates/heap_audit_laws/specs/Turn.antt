-- The audit's walk as the code goes it, at numbers of W bytes and segments of G: what is left of it beside what is counted, and what a turn
-- keeps. Assumes nothing.
use Rattle.std.specs.Prelude as std
use Rattle.std.specs.Prelude.{◌≡◌, List, ℕ, zero, suc, ◌+◌, ◌*◌, ◌-◌, ◌/◌, ◌≤◌, ◌<◌, max, length, Some, None}
use Rattle.std.proofs.Math.Option.{Option, none, some}
use Rattle.number.specs.Little.{word}
use Rattle.number.specs.Bits.{ones, ones_of}
use Rattle.number.specs.Parts.{at}
use Rattle.plain.specs.Blocks.{live, written}
use Rattle.plain.specs.Reading.{Tally, tally}
use Rattle.plain.specs.Found.{Found, bad, got}
use Rattle.heap_layout.specs.Walk.{heap_walk}
use Rattle.heap_audit_laws.specs.declared.Walk.{Walk}

-- the totals of what is found, the marks of the block that goes on among them, beside what is counted
unfoldable pub beside : (b l m : ℕ) → Found → Option Tally
beside b l m bad = none
beside b l m (got ms bs) = some (tally (b + length bs) 0 (l + (length ms + live bs)) (m + (ones ms + written bs)))

-- what the walk from segment s on comes to
unfoldable pub rest : (W G : ℕ) → List ℕ → (s : ℕ) → Walk → Option Tally
rest W G h s w = beside w.blocks w.live w.written (heap_walk W G (length h) (at h) (length h / G - s) s w.len w.d)

-- the ones of the n bytes from place p on, f the bytes
unfoldable pub ones_at : (ℕ → ℕ) → (p n : ℕ) → ℕ
ones_at f p zero = 0
ones_at f p (suc n) = ones_of 8 (f p) + ones_at f (suc p) n

-- the block that goes on at segment s began at or above 0, has a byte there, and ends inside the area; the counts are small
pub record Kept (G size s : ℕ) (w : Walk) : Type 0 where
  pub begun : w.d ≤ s * G
  pub offset : w.d < max w.len 1
  pub ends : s * G + w.len ≤ size + w.d
  pub few : w.blocks ≤ s
  pub lives : w.live ≤ s * G
  pub marks : w.written ≤ s * G

-- the walk stands at segment s, whose numbers are low and high
pub record Stands (W G : ℕ) (h : List ℕ) (s : ℕ) (w : Walk) (low high : ℕ) : Type 0 where
  pub inside : s < length h / G
  pub small : length h ≤ 131072
  pub bytes : (q : ℕ) → at h q < 256
  pub kept : Kept G (length h) s w
  pub lows : low ≡ word (at h) (s * G) W
  pub highs : high ≡ word (at h) (s * G + W) W

-- a turn leaves what the walk comes to as it was, or tells that the shadow is no image
abbrev pub Turned : (W G : ℕ) → List ℕ → (s : ℕ) → Walk → std.Option Walk → Type 0
Turned W G h s w None = rest W G h s w ≡ none
Turned W G h s w (Some v) = (rest W G h s w ≡ rest W G h (s + 1) v) × Kept G (length h) (s + 1) v

-- Segments that the audit's walk passes at once, at numbers of W bytes and segments of G. Assumes nothing.
use Rattle.std.specs.Prelude.{◌≡◌, List, ℕ, zero, suc, ◌+◌, ◌*◌, ◌/◌, ◌^◌, ◌≤◌, ◌<◌, length}
use Rattle.std.specs.Int.Count as count
use Rattle.number.specs.Little.{word}
use Rattle.heap_audit_laws.specs.declared.Walk.{Walk}
use Rattle.heap_audit_laws.specs.Turn.{rest, Kept}

-- the n segments from t on are whole ones of a block, the first at offset d: each has its number, and no bit above that but written ones, which
-- are m in all; f the bytes
abbrev pub Owned : (W G : ℕ) (f : ℕ → ℕ) (t d n m : ℕ) → Type 0
Owned W G f t d zero m = m ≡ 0
Owned W G f t d (suc n) m =
    (k : ℕ) × Owned W G f t d n k × (word f ((t + n) * G) W ≡ d + n * G + 1) × (word f ((t + n) * G + W) W < 2 ^ G)
    × (m ≡ k + count.ones (word f ((t + n) * G + W) W))

-- the walk w at segment s comes to what the walk v does at t, at or after s and inside the area
pub record Passed (W G : ℕ) (h : List ℕ) (s : ℕ) (w : Walk) (t : ℕ) (v : Walk) : Type 0 where
  pub on : s ≤ t
  pub inside : t < length h / G
  pub same : rest W G h s w ≡ rest W G h t v
  pub kept : Kept G (length h) t v

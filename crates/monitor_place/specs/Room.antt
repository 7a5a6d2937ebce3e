-- What is known of the gap that is chosen. Assumes nothing.
use Rattle.std.specs.Prelude.{◌≢◌, ℕ, ◌+◌, ◌≤◌, ◌<◌}
use Rattle.plain.specs.Areas.{place_length}
use Rattle.heap_gap.specs.declared.Scan.{Scan}

-- it lies in a heap of segments of G bytes that begins at `start`, and holds header and block
pub record Fits (G start l : ℕ) (g : Scan) : Type 0 where
  pub inside : start + (g.start + g.bytes) < 4294967296
  pub holds : g.bytes ≢ 0 → place_length G l ≤ g.bytes

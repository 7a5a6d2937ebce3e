-- The pass over the segments of a heap shadow, and what holds at each of its positions. Assumes nothing.
use Rattle.std.specs.Prelude.{◌≡◌, Bool, List, ℕ, ◌+◌, ◌*◌, ◌-◌, ◌/◌, ◌%◌, ◌≤◌, ◌<◌, length}
use Rattle.std.proofs.Math.Option.{Option}
use Rattle.number.specs.Parts.{at, zeros}
use Rattle.plain.specs.Gaps.{Gap, gaps_after, best}
use Rattle.plain.specs.Placing.{looked_at}
use Rattle.heap_layout.specs.Ops.{heap_gaps}
use Rattle.heap_laws.specs.Scan.{scanned}
use Rattle.heap_gap.specs.declared.Scan.{Scan}
use Rattle.heap_gap.specs.Scans.{chosen_of}

-- how many gaps are looked at, and which is chosen: numbers of W bytes, segments of G
abbrev pub choice : (W G need budget : ℕ) → List ℕ → ℕ × Option Gap
choice W G need k h = (length (looked_at k (heap_gaps W G (length h) h)), best need (looked_at k (heap_gaps W G (length h) h)))

module _ (G : ℕ) (h : List ℕ) where
  abbrev pub free : ℕ → Bool
  free i = zeros (at h) (i * G) G

  -- the gaps that are left at position p, where `run` bytes of free segments end
  unfoldable pub rest : (p run : ℕ) → List Gap
  rest p run = gaps_after G 0 free ((length h - p) / G) (p / G) (run / G)

-- the pass stands at p: segments are whole, the gap that is chosen ends before the free segments begin, and what is chosen of the gaps that are left,
-- beside what is chosen so far, is the choice
pub record Kept (W G : ℕ) (h : List ℕ) (need k : ℕ) (g : Scan) (p : ℕ) : Type 0 where
  pub some : 0 < G
  pub whole : p % G ≡ 0
  pub runs : g.run % G ≡ 0
  pub within : g.run ≤ p
  pub inside : p ≤ length h
  pub most : g.looked ≤ k
  pub before : g.start + g.bytes ≤ p - g.run
  pub stands : choice W G need k h ≡ scanned need k g.looked (chosen_of g) (rest G h p g.run)

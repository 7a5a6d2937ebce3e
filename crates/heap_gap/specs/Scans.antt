-- A scan of gaps as the code goes it, and what it stands for. Assumes nothing.
use Rattle.std.specs.Prelude.{◌≡◌, Bool, cond, ◌&&◌, ◌||◌, List, ℕ, ◌+◌, ◌-◌, ◌≤◌, leb, ltb, eqb}
use Rattle.std.proofs.Math.Option.{Option, none, some}
use Rattle.number.specs.Parts.{at, zeros}
use Rattle.plain.specs.Gaps.{Gap}
use Rattle.heap_gap.specs.declared.Scan.{Scan}

-- the gap that is chosen, if one fits
abbrev pub chosen_of : Scan → Option Gap
chosen_of g = cond (eqb g.bytes 0) none (some (record { start = g.start; bytes = g.bytes }))

-- how many gaps are looked at, and which is chosen
abbrev pub choice_of : Scan → ℕ × Option Gap
choice_of g = (g.looked, chosen_of g)

-- the pass stands at p
pub record Ready (g : Scan) (p budget : ℕ) : Type 0 where
  pub within : g.run ≤ p
  pub most : g.looked ≤ budget

-- it fits, and is smaller than the one chosen so far
abbrev pub is_better : Scan → (need : ℕ) → Bool
is_better g need = leb need g.run && (eqb g.bytes 0 || ltb g.run g.bytes)

abbrev pub ended : Scan → (p need budget : ℕ) → Scan
ended g p need k =
    cond (eqb g.run 0 || eqb g.looked k) (record g { run = 0 })
    (cond (is_better g need) (record { looked = g.looked + 1; start = p - g.run; bytes = g.run; run = 0 })
    (record g { looked = g.looked + 1; run = 0 }))

-- over a segment of G bytes at p, which is free where w is 0
abbrev pub turned : (G : ℕ) → Scan → (p w need budget : ℕ) → Scan
turned G g p w need k =
    cond (eqb w 0) (record g { run = g.run + G }) (ended g p need k)

-- w is zero exactly if the segment at position p is free
pub record Tells (G : ℕ) (h : List ℕ) (p w : ℕ) : Type 0 where
  pub same : eqb w 0 ≡ zeros (at h) p G

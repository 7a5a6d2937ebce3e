-- All turns of a run, from its beginning on. Assumes nothing.
use Rattle.std.specs.Prelude.{◌≡◌, false, List, ◌++◌, ◌⊎◌, ℕ, length}
use Rattle.calls_format.specs.Program.{Program}
use Rattle.calls_run.specs.Begun.{Begun}
use Rattle.calls_file.specs.Turn.{Point}
use Rattle.calls_file.specs.File.{printed_file, Turns, came, put, final, Stops}

-- the run began, in the program's first state, and so many turns brought it to q
pub record Ran {P : Program} (q : Point P) (turns : ℕ) : Type 0 where
  pub from : Point P
  pub begun : Begun from.run
  pub first : from.state ≡ P.first
  pub between : List (Point P)
  pub each : Turns from between
  pub last : final from between ≡ q
  pub many : length between ≡ turns

-- and there it ended: it is off, or the most turns were made
pub record RanAll {P : Program} (q : Point P) (most : ℕ) : Type 0 where
  pub turns : ℕ
  pub ran : Ran q turns
  pub ended : (q.run.on ≡ false) ⊎ (turns ≡ most)

-- ---- what is proved (proofs/RanLaws.antt)

-- where the run is off with its output open: all that left the buffer, and what waits, is what the bytes print that came into the window, and any that
-- were not read
abbrev pub RanPrints : Program → Type 0
RanPrints P =
    (q : Point P) (turns : ℕ) (R : Ran q turns) (rest : List ℕ) → Stops q rest
    → put R.from R.between R.each ≡ printed_file P (came R.from R.between R.each ++ rest)

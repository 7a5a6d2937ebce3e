-- Free segments after a position, as a search for the next block passes them. Assumes nothing.
use Rattle.std.specs.Prelude.{◌≡◌, Bool, true, ◌&&◌, ℕ, zero, suc, ◌+◌, ◌*◌, ◌/◌, ◌≤◌, ◌<◌, eqb}
use Rattle.number.specs.Little.{word}

-- the n segments from the place q on have the number 0; f the bytes
unfoldable pub free_run : (W G : ℕ) → (f : ℕ → ℕ) → (q n : ℕ) → Bool
free_run W G f q zero = true
free_run W G f q (suc n) = free_run W G f q n && eqb (word f (q + n * G) W) 0

-- the segments after that of position p, to before r, have the number 0; f the bytes
abbrev pub FreeSegments : (W G size : ℕ) → (f : ℕ → ℕ) → (p r : ℕ) → Type 0
FreeSegments W G size f p r = (p / G * G + G ≤ r) × (r ≤ size) × ((x : ℕ) → p / G * G + G ≤ x → x < r → word f (x / G * G) W ≡ 0)

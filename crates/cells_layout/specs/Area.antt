-- The cells of one area: for each aligned four bytes of it an origin and a referent, four bytes each, little-endian. By positions: those of the
-- area's bytes, p, and those of the cells' own bytes, q. Assumes nothing.
use Rattle.std.specs.Prelude.{cond, List, ℕ, ◌+◌, ◌*◌, ◌-◌, ◌/◌, ◌%◌, ltb}
use Rattle.number.specs.Little.{byte_of, word}
use Rattle.number.specs.Parts.{at, tab, over}
use Rattle.origins_list.specs.Cells.{Held}

-- where the two halves of the cell that position p lies in begin: twice the position of its first byte, and four more
abbrev pub origin_place : (p : ℕ) → ℕ
origin_place p = p / 4 * 8

abbrev pub referent_place : (p : ℕ) → ℕ
referent_place p = p / 4 * 8 + 4

-- the number in a half
abbrev pub half_at : List ℕ → (q : ℕ) → ℕ
half_at h q = word (at h) q 4

-- a half becomes a number, every other byte stays
unfoldable pub set_half : List ℕ → (q value : ℕ) → List ℕ
set_half h q v = over q 4 (λ i. byte_of v (i - q)) h

-- the cells that touch the l bytes from position p on become zero, both halves, every other byte stays: from the first's, up to that of the last
unfoldable pub zero_cells : List ℕ → (p l : ℕ) → List ℕ
zero_cells h p l = over (p / 4 * 8) (((p + l + 3) / 4 - p / 4) * 8) (λ i. 0) h

-- what the cells of an area of this start and size hold: byte by byte, the origin and then the referent of the cell
unfoldable pub area_image : (start size : ℕ) → (origins referents : Held) → List ℕ
area_image start size f g =
    tab 0 (2 * size) (λ q. byte_of (cond (ltb (q % 8) 4) (f (start + q / 8 * 4)) (g (start + q / 8 * 4))) (q % 4))

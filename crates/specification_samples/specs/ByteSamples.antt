-- Tables of samples for what each byte counts: every byte of the numbers of four, and bytes that do not agree with each other. Under the sample
-- map: heap 4096 to 4159, stack 8192 to 8223. `DamageSamplesHold` (DamageSamples.antt) says that they hold. Assumes nothing.
use Rattle.std.specs.Prelude.{List, [], ◌∷◌, ℕ}
use Rattle.types.specs.Call.{Call, written, ask, valid_write, valid_read, initialised, audit, Answer, answer, refusal}
use Rattle.specification_samples.specs.GivenShadows.{Given}

-- ---- numbers of four bytes, and whole-number sums

-- length and number of the segment at 8, which is asked
abbrev wide : (length number : List ℕ) → Answer → Given
wide l w r = record { heap = (4, l) ∷ (8, w) ∷ []; primary = []; secondary = []; asks = ask 4104; gets = r }

-- length and offset of the piece at 8, whose first byte is asked
abbrev wide_long : (length offset : List ℕ) → Answer → Given
wide_long l o r = record { heap = []; primary = (8, 192 ∷ []) ∷ []; secondary = (8, l) ∷ (12, o) ∷ []; asks = ask 8200; gets = r }

unfoldable pub numbers : List Given
numbers =
    -- each higher byte counts: in the length and the number of the heap
    wide (20 ∷ []) (1 ∷ []) (answer 0 4104 20 0 0)
    ∷ wide (20 ∷ 1 ∷ 0 ∷ 0 ∷ []) (1 ∷ []) (refusal 8)
    ∷ wide (20 ∷ 0 ∷ 1 ∷ 0 ∷ []) (1 ∷ []) (refusal 8)
    ∷ wide (20 ∷ 0 ∷ 0 ∷ 1 ∷ []) (1 ∷ []) (refusal 8)
    ∷ wide (20 ∷ []) (1 ∷ 1 ∷ 0 ∷ 0 ∷ []) (refusal 8)
    ∷ wide (20 ∷ []) (1 ∷ 0 ∷ 1 ∷ 0 ∷ []) (refusal 8)
    ∷ wide (20 ∷ []) (1 ∷ 0 ∷ 0 ∷ 1 ∷ []) (refusal 8)
    -- a number whose low byte is 0 is not 0
    ∷ wide (20 ∷ []) (0 ∷ 1 ∷ 0 ∷ 0 ∷ []) (refusal 8)
    ∷ wide (20 ∷ []) (0 ∷ 0 ∷ 0 ∷ 1 ∷ []) (refusal 8)
    -- in the length and the offset of a piece
    ∷ wide_long (20 ∷ []) (8 ∷ []) (answer 0 8192 20 8 0)
    ∷ wide_long (20 ∷ 1 ∷ 0 ∷ 0 ∷ []) (8 ∷ []) (refusal 8)
    ∷ wide_long (20 ∷ 0 ∷ 1 ∷ 0 ∷ []) (8 ∷ []) (refusal 8)
    ∷ wide_long (20 ∷ 0 ∷ 0 ∷ 1 ∷ []) (8 ∷ []) (refusal 8)
    ∷ wide_long (20 ∷ []) (8 ∷ 1 ∷ 0 ∷ 0 ∷ []) (refusal 8)
    ∷ wide_long (20 ∷ []) (8 ∷ 0 ∷ 1 ∷ 0 ∷ []) (refusal 8)
    ∷ wide_long (20 ∷ []) (8 ∷ 0 ∷ 0 ∷ 1 ∷ []) (refusal 8)
    ∷ record { heap = []; primary = (0, 192 ∷ []) ∷ []; secondary = (0, 9 ∷ 0 ∷ 0 ∷ 1 ∷ []) ∷ []; asks = ask 8192; gets = refusal 8 }
    -- base + L of a block at 8 is 2 to the 32, or 7 more
    ∷ wide (248 ∷ 255 ∷ 255 ∷ 255 ∷ []) (1 ∷ []) (refusal 8)
    ∷ wide (255 ∷ 255 ∷ 255 ∷ 255 ∷ []) (1 ∷ []) (refusal 8)
    ∷ wide_long (248 ∷ 255 ∷ 255 ∷ 255 ∷ []) (0 ∷ []) (refusal 8)
    ∷ wide_long (255 ∷ 255 ∷ 255 ∷ 255 ∷ []) (0 ∷ []) (refusal 8)
    -- base 0
    ∷ wide_long (255 ∷ 255 ∷ 255 ∷ 255 ∷ []) (8 ∷ []) (refusal 8)
    ∷ []

-- ---- bytes that do not agree with each other

-- two primary bytes from position 0 on
abbrev two : (x y : ℕ) → Call → Answer → Given
two x y c r = record { heap = []; primary = (0, x ∷ y ∷ []) ∷ []; secondary = []; asks = c; gets = r }

-- pieces at 0 and 8 of blocks that begin at 8192, of length 16 and of length L
abbrev pieces : (L : ℕ) → Call → Answer → Given
pieces L c r =
    record { heap = []; primary = (0, 192 ∷ []) ∷ (8, 192 ∷ []) ∷ []; secondary = (0, 16 ∷ []) ∷ (8, L ∷ 0 ∷ 0 ∷ 0 ∷ 8 ∷ []) ∷ []; asks = c; gets = r }

-- a block of 20 bytes at 4104; of its segments the first, all written, and the written bits of the second, whose number is 0
abbrev unnumbered : (bits : ℕ) → Call → Answer → Given
unnumbered x c r =
    record { heap = (4, 20 ∷ 0 ∷ 0 ∷ 0 ∷ 1 ∷ 0 ∷ 0 ∷ 0 ∷ 255 ∷ []) ∷ (20, x ∷ []) ∷ []; primary = []; secondary = []; asks = c; gets = r }

unfoldable pub disagreeing : List Given
disagreeing =
    -- blocks of one base and two lengths are two: 8 is the first byte of 2, 20 the second of 3, both from 8192 on
    two 8 20 (ask 8192) (answer 0 8192 2 0 0)
    ∷ two 8 20 (ask 8193) (answer 0 8192 3 1 0)
    ∷ two 8 20 (valid_write 8192 1 8193) (answer 0 0 0 0 0)
    ∷ two 8 20 (valid_write 8193 1 8192) (answer 0 0 0 0 0)
    ∷ two 8 12 (valid_write 8192 1 8193) (answer 0 1 0 0 0)
    ∷ pieces 20 (valid_write 8192 1 8200) (answer 0 0 0 0 0)
    ∷ pieces 20 (valid_write 8200 1 8192) (answer 0 0 0 0 0)
    ∷ pieces 16 (valid_write 8192 1 8200) (answer 0 1 0 0 0)
    -- equal lengths from two bases
    ∷ two 4 4 (valid_write 8192 1 8193) (answer 0 0 0 0 0)
    -- the mark is not compared: 8 and 12 are the bytes of a block of 2, 11 and 15 those of a literal; each reading goes by its own byte
    ∷ two 8 15 (valid_write 8192 1 8193) (answer 0 1 0 0 0)
    ∷ two 8 15 (valid_write 8193 1 8192) (answer 0 0 0 0 0)
    ∷ two 8 15 (valid_read 8193 1 8192) (answer 0 1 0 0 0)
    ∷ two 8 15 (written 8192 2) (answer 0 0 0 0 0)
    ∷ two 8 15 (written 8193 1) (refusal 13)
    ∷ two 11 12 (valid_read 8192 1 8193) (answer 0 1 0 0 0)
    ∷ two 11 12 (valid_write 8192 1 8193) (answer 0 0 0 0 0)
    ∷ two 11 12 (written 8192 2) (refusal 13)
    ∷ two 11 12 (written 8192 3) (refusal 7)
    -- audit wants it equal over a block, and each byte written where it is set
    ∷ two 6 0 audit (refusal 8)
    ∷ two 7 0 audit (answer 0 0 1 1 1)
    ∷ two 11 15 audit (answer 0 0 1 2 2)
    ∷ two 10 14 audit (refusal 8)
    ∷ two 11 14 audit (refusal 8)
    ∷ two 10 15 audit (refusal 8)
    ∷ two 11 13 audit (refusal 8)
    ∷ two 9 15 audit (refusal 8)
    ∷ two 9 13 audit (answer 0 0 1 2 2)
    -- initialised, in the stack: a later byte counts by its written bit alone, also where it would be damaged
    ∷ two 9 13 (initialised 8192 2) (answer 0 1 0 0 0)
    ∷ two 9 12 (initialised 8192 2) (answer 0 0 0 0 0)
    ∷ two 9 3 (initialised 8192 2) (answer 0 1 0 0 0)
    ∷ two 9 2 (initialised 8192 2) (answer 0 0 0 0 0)
    ∷ two 9 1 (initialised 8192 2) (answer 0 1 0 0 0)
    ∷ two 9 0 (initialised 8192 2) (answer 0 0 0 0 0)
    ∷ two 8 13 (initialised 8192 2) (answer 0 0 0 0 0)
    -- in the heap: a later segment counts by its byte of written bits alone
    ∷ unnumbered 1 (ask 4112) (refusal 7)
    ∷ unnumbered 1 (initialised 4104 9) (answer 0 1 0 0 0)
    ∷ unnumbered 1 (initialised 4104 10) (answer 0 0 0 0 0)
    ∷ unnumbered 0 (initialised 4104 8) (answer 0 1 0 0 0)
    ∷ unnumbered 0 (initialised 4104 9) (answer 0 0 0 0 0)
    ∷ []

-- Tables of samples for 8: shadows that decide each condition under which a reading is damaged, beside shadows at its edge that are read as a block, and
-- what each call makes of damage; with those of ByteSamples.antt. Under the sample map: heap 4096 to 4159, stack 8192 to 8223. Proved in
-- proofs/Samples.antt. Assumes nothing.
use Rattle.std.specs.Prelude.{◌≡◌, true, List, [], ◌∷◌, ℕ, ◌+◌, ◌*◌, ◌-◌}
use Rattle.types.specs.Call.{Call, record_block, record_literal, free, remove, written, ask, valid_write, valid_read, initialised, next, audit, Answer, answer, refusal, done}
use Rattle.specification.specs.Heap.{player}
use Rattle.specification_samples.specs.Samples.{sample_map}
use Rattle.specification_samples.specs.GivenShadows.{Given, all_given}
use Rattle.specification_samples.specs.ByteSamples.{numbers, disagreeing}

-- ---- readings

-- a header's length L before base 8 (address 4104), and a segment's number w at a position, which is asked
abbrev header : (L position w : ℕ) → Answer → Given
header L q w r = record { heap = (4, L ∷ []) ∷ (q, w ∷ []) ∷ []; primary = []; secondary = []; asks = ask (4096 + q); gets = r }

-- a number w in the segment at 24, and length 9 where the header before base 24 − (w − 1) would have it; asked at an offset from 4120
abbrev told : (w offset : ℕ) → Answer → Given
told w i r = record { heap = (21 - w, 9 ∷ []) ∷ (24, w ∷ []) ∷ []; primary = []; secondary = []; asks = ask (4120 + i); gets = r }

-- a code at a position, which is asked
abbrev coded : (code position : ℕ) → Answer → Given
coded c q r = record { heap = []; primary = (q, 4 * c ∷ []) ∷ []; secondary = []; asks = ask (8192 + q); gets = r }

-- a byte at a position, which is asked
abbrev byte : (x position : ℕ) → Answer → Given
byte x q r = record { heap = []; primary = (q, x ∷ []) ∷ []; secondary = []; asks = ask (8192 + q); gets = r }

-- length L and offset o in the eight secondary bytes from t on, and code 48 + j at t + j, which is asked
abbrev piece : (L o t j : ℕ) → Answer → Given
piece L o t j r =
    record {
      heap = [];
      primary = (t + j, 4 * (48 + j) ∷ []) ∷ [];
      secondary = (t, L ∷ 0 ∷ 0 ∷ 0 ∷ o ∷ 0 ∷ 0 ∷ 0 ∷ []) ∷ [];
      asks = ask (8192 + (t + j));
      gets = r;
    }

-- a byte at a position, which is asked, where length 9 and offset 0 stand in the secondary bytes
abbrev on_nine : (x position : ℕ) → Answer → Given
on_nine x q r = record { heap = []; primary = (q, x ∷ []) ∷ []; secondary = (q, 9 ∷ []) ∷ []; asks = ask (8192 + q); gets = r }

unfoldable pub readings : List Given
readings =
    -- heap: w = 0 is no block
    header 20 8 0 (refusal 7)
    ∷ header 20 8 1 (answer 0 4104 20 0 0)
    ∷ header 20 16 9 (answer 0 4104 20 8 0)
    -- an offset w − 1 that 8 does not divide: each of these would tell a block of 9 that holds 4120
    ∷ told 1 0 (answer 0 4120 9 0 0)
    ∷ told 2 0 (refusal 8)
    ∷ told 3 0 (refusal 8)
    ∷ told 4 0 (refusal 8)
    ∷ told 5 0 (refusal 8)
    ∷ told 6 0 (refusal 8)
    ∷ told 7 0 (refusal 8)
    ∷ told 8 0 (refusal 8)
    ∷ told 9 0 (answer 0 4112 9 8 0)
    -- also past that block's end, where a segment that is not damaged tells no block
    ∷ told 9 1 (refusal 7)
    ∷ told 8 2 (refusal 8)
    ∷ told 5 5 (refusal 8)
    -- a base in the first segment or below: these tell base 0, before which there is no header; 20 stands where the first header has its length
    ∷ record { heap = (0, 1 ∷ 0 ∷ 0 ∷ 0 ∷ 20 ∷ []) ∷ []; primary = []; secondary = []; asks = ask 4096; gets = refusal 8 }
    ∷ header 20 8 9 (refusal 8)
    ∷ header 20 16 17 (refusal 8)
    -- base −8
    ∷ header 20 8 17 (refusal 8)
    -- also past the end that 9 bytes from base 0 would have
    ∷ record { heap = (4, 9 ∷ []) ∷ (8, 9 ∷ []) ∷ []; primary = []; secondary = []; asks = ask 4105; gets = refusal 8 }
    -- the greatest w: its base is far below 0, and w − 1 is no multiple of 8 and above L too
    ∷ record { heap = (4, 20 ∷ []) ∷ (8, 255 ∷ 255 ∷ 255 ∷ 255 ∷ []) ∷ []; primary = []; secondary = []; asks = ask 4104; gets = refusal 8 }
    -- length 0, which no offset is below either
    ∷ header 0 8 1 (refusal 8)
    -- a block up to the heap's last byte, and one byte past it
    ∷ header 56 8 1 (answer 0 4104 56 0 0)
    ∷ header 57 8 1 (refusal 8)
    -- a segment that begins at the block's last byte, and right after it
    ∷ header 9 16 9 (answer 0 4104 9 8 0)
    ∷ header 8 16 9 (refusal 8)
    -- past the end, in the last segment of the block
    ∷ record { heap = (4, 9 ∷ []) ∷ (16, 9 ∷ []) ∷ []; primary = []; secondary = []; asks = ask 4113; gets = refusal 7 }
    -- stack: bit 1 damages where the code is 0 and nowhere else, with and without the written bit; ask does not tell it
    ∷ byte 4 0 (answer 0 8192 1 0 0)
    ∷ byte 5 0 (answer 0 8192 1 0 1)
    ∷ byte 6 0 (answer 0 8192 1 0 0)
    ∷ byte 7 0 (answer 0 8192 1 0 1)
    ∷ byte 2 0 (refusal 8)
    ∷ byte 3 0 (refusal 8)
    ∷ on_nine 192 0 (answer 0 8192 9 0 0)
    ∷ on_nine 193 0 (answer 0 8192 9 0 1)
    ∷ on_nine 194 0 (answer 0 8192 9 0 0)
    ∷ on_nine 195 0 (answer 0 8192 9 0 1)
    -- the codes that are damage are so with it too
    ∷ on_nine (4 * 37 + 2) 0 (refusal 8)
    ∷ on_nine (4 * 37 + 3) 0 (refusal 8)
    ∷ on_nine (4 * 47 + 3) 1 (refusal 8)
    ∷ byte (4 * 63 + 3) 15 (refusal 8)
    -- code 0 without the written bit, and with it
    ∷ byte 0 0 (refusal 7)
    ∷ byte 1 0 (refusal 8)
    -- codes of no length, between 36 and 48 and after 62: where Table 1, carried on past 8, would give a block of 9, or of 10, that begins at 8192
    ∷ coded 36 7 (answer 0 8192 8 7 0)
    ∷ on_nine (4 * 37) 0 (refusal 8)
    ∷ on_nine (4 * 38) 1 (refusal 8)
    ∷ on_nine (4 * 39) 2 (refusal 8)
    ∷ on_nine (4 * 40) 3 (refusal 8)
    ∷ on_nine (4 * 41) 4 (refusal 8)
    ∷ on_nine (4 * 42) 5 (refusal 8)
    ∷ on_nine (4 * 43) 6 (refusal 8)
    ∷ on_nine (4 * 44) 7 (refusal 8)
    ∷ on_nine (4 * 45) 8 (refusal 8)
    ∷ on_nine (4 * 46) 0 (refusal 8)
    ∷ on_nine (4 * 47) 1 (refusal 8)
    ∷ on_nine (4 * 48) 1 (answer 0 8193 9 0 0)
    ∷ coded 63 15 (refusal 8)
    -- a block that does not lie in the area: a short one at either end
    ∷ coded 36 6 (refusal 8)
    ∷ coded 2 30 (answer 0 8222 2 0 0)
    ∷ coded 2 31 (refusal 8)
    -- a long one at either end
    ∷ piece 32 0 0 0 (answer 0 8192 32 0 0)
    ∷ piece 33 0 0 0 (refusal 8)
    ∷ piece 20 8 8 0 (answer 0 8192 20 8 0)
    ∷ piece 20 8 7 0 (refusal 8)
    -- a piece whose length and offset would stand past either end of the area
    ∷ coded 48 25 (refusal 8)
    ∷ coded 49 0 (refusal 8)
    -- the least length of a long block, and one less
    ∷ piece 9 0 0 0 (answer 0 8192 9 0 0)
    ∷ piece 8 0 0 0 (refusal 8)
    -- an offset of a piece that 8 does not divide
    ∷ piece 20 1 1 0 (refusal 8)
    ∷ piece 20 2 2 0 (refusal 8)
    ∷ piece 20 4 4 0 (refusal 8)
    -- a piece has eight bytes of its block at least; the sum does not wrap
    ∷ piece 16 8 8 0 (answer 0 8192 16 8 0)
    ∷ piece 15 8 8 0 (refusal 8)
    ∷ record {
      heap = [];
      primary = (0, 192 ∷ []) ∷ [];
      secondary = (0, 9 ∷ 0 ∷ 0 ∷ 0 ∷ 248 ∷ 255 ∷ 255 ∷ 255 ∷ []) ∷ [];
      asks = ask 8192;
      gets = refusal 8;
    }
    -- a ninth byte in the last piece, and in one before it
    ∷ piece 15 0 0 8 (answer 0 8192 15 8 0)
    ∷ piece 16 0 0 8 (refusal 8)
    -- the last byte of a block, and one past it
    ∷ piece 9 0 0 8 (answer 0 8192 9 8 0)
    ∷ piece 9 0 0 9 (refusal 8)
    ∷ []

-- ---- what each call makes of damage

-- a block of 20 bytes at 4104, its first segment alone; at 4112 a damaged segment; at 8192 a damaged byte, at 8200 a block of one byte
abbrev broken : Call → Answer → Given
broken c r =
    record {
      heap = (4, 20 ∷ 0 ∷ 0 ∷ 0 ∷ 1 ∷ 0 ∷ 0 ∷ 0 ∷ 255 ∷ []) ∷ (16, 2 ∷ 0 ∷ 0 ∷ 0 ∷ 255 ∷ []) ∷ [];
      primary = (0, 2 ∷ []) ∷ (8, 4 ∷ []) ∷ [];
      secondary = [];
      asks = c;
      gets = r;
    }

unfoldable pub calls_on_damage : List Given
calls_on_damage =
    broken (free 4112) (refusal 8)
    ∷ broken (free 4119) (refusal 8)
    ∷ broken (free 4105) (refusal 7)
    ∷ broken (free 0) done
    -- 15 comes before 8 and 7, and so does 4 of remove at a heap address
    ∷ broken (free 8192) (refusal 15)
    ∷ broken (free 8200) (refusal 15)
    ∷ broken (remove 8192) (refusal 8)
    ∷ broken (remove 8200) done
    ∷ broken (remove 8201) (refusal 7)
    ∷ broken (remove 4112) (refusal 4)
    ∷ broken (remove 4104) (refusal 4)
    -- for written and initialised, the first byte's reading
    ∷ broken (written 4112 1) (refusal 8)
    ∷ broken (written 4108 8) done
    ∷ broken (written 8192 1) (refusal 8)
    ∷ broken (initialised 4112 1) (refusal 8)
    ∷ broken (initialised 4104 16) (answer 0 1 0 0 0)
    ∷ broken (initialised 4104 17) (answer 0 0 0 0 0)
    -- for valid, either reading
    ∷ broken (valid_write 4112 1 4104) (refusal 8)
    ∷ broken (valid_write 4104 1 4112) (refusal 8)
    ∷ broken (valid_write 0 1 8192) (refusal 8)
    ∷ broken (valid_write 4104 20 4111) (answer 0 1 0 0 0)
    ∷ broken (valid_read 4112 1 4104) (refusal 8)
    ∷ broken (valid_read 4104 1 4112) (refusal 8)
    ∷ broken (valid_read 4104 20 4111) (answer 0 1 0 0 0)
    -- for next, one met before an answer
    ∷ broken (next 4104) (answer 0 4104 20 0 0)
    ∷ broken (next 4105) (refusal 8)
    ∷ broken (next 8193) (answer 0 8200 1 0 0)
    ∷ broken (next 8201) (refusal 7)
    -- for audit, no image
    ∷ broken audit (refusal 8)
    -- record gives 6 where a byte of the place is not zero, and never 8
    ∷ broken (record_block 4120 1) (refusal 6)
    ∷ broken (record_block 8192 1) (refusal 6)
    ∷ broken (record_block 8193 1) done
    ∷ broken (record_literal 4120 1) (refusal 4)
    ∷ broken (record_literal 8192 1) (refusal 6)
    ∷ broken (record_literal 8193 1) done
    -- 3 comes before 8; but for remove at a heap address (above) 4 never meets it, since an address outside both areas is in no block
    ∷ broken (written 4112 0) (refusal 3)
    ∷ broken (valid_write 4112 0 4112) (refusal 3)
    ∷ broken (valid_read 4112 0 4112) (refusal 3)
    ∷ broken (initialised 8192 0) (refusal 3)
    ∷ []

-- every sample holds
abbrev pub DamageSamplesHold : Type 0
DamageSamplesHold =
    (all_given player sample_map readings ≡ true) × (all_given player sample_map numbers ≡ true) × (all_given player sample_map calls_on_damage ≡ true)
    × (all_given player sample_map disagreeing ≡ true)

-- Document 01, audit, kind 9: the totals of the list that the shadows stand for, or 8 where they stand for none. The list is read back by readings,
-- address by address; the shadows are an image exactly if that list may stand and has them as its image. Assumes nothing.
use Rattle.std.specs.Prelude.{Bool, true, false, not, ◌&&◌, List, [], ◌∷◌, ℕ, zero, suc, ◌+◌, eqb}
use Rattle.types.specs.Block.{Block}
use Rattle.types.specs.Reading.{Reading, nothing, block, damaged}
use Rattle.types.specs.Call.{Answer}
use Rattle.specification.specs.Numbers.{tab}
use Rattle.specification.specs.Map.{Map, Shadows, heap_of, primary_of, secondary_of, end_of_areas}
use Rattle.specification.specs.Form.{Form}
use Rattle.specification.specs.Readings.{reading}
use Rattle.specification.specs.Calls.{refuse}
use Rattle.specification.specs.PlainList.{totals}
use Rattle.specification.specs.Image.{may_stand, image}

-- ---- the list that readings tell

abbrev pub says_written : Reading → Bool
says_written nothing = false
says_written damaged = false
says_written (block base L offset written literal) = eqb written 1

-- a reading with offset 0 begins a block, whose marks are what the readings of its bytes say; S-5: it is a literal where this reading says so
abbrev pub begins : (ℕ → Reading) → Reading → (later : List Block) → List Block
begins rd nothing bs = bs
begins rd damaged bs = bs
begins rd (block base L zero w literal) bs = record { base = base; marks = tab 0 L (λ i. says_written (rd (base + i))); literal = literal } ∷ bs
begins rd (block base L (suc o) w literal) bs = bs

-- of the n addresses from a on
unfoldable pub list_from : (ℕ → Reading) → (a n : ℕ) → List Block
list_from rd a zero = []
list_from rd a (suc n) = begins rd (rd a) (list_from rd (suc a) n)

abbrev pub list_of : Form → Map → Shadows → List Block
list_of F m s = list_from (reading F m s) 0 (end_of_areas m)

-- ---- the shadows are its image

unfoldable pub same_bytes : List ℕ → List ℕ → Bool
same_bytes [] [] = true
same_bytes [] (y ∷ ys) = false
same_bytes (x ∷ xs) [] = false
same_bytes (x ∷ xs) (y ∷ ys) = eqb x y && same_bytes xs ys

abbrev pub same_shadows : Shadows → Shadows → Bool
same_shadows s t = same_bytes (heap_of s) (heap_of t) && same_bytes (primary_of s) (primary_of t) && same_bytes (secondary_of s) (secondary_of t)

abbrev pub is_image : Form → Map → Shadows → List Block → Bool
is_image F m s bs = may_stand F m 0 bs && same_shadows (image F m bs) s

unfoldable pub audit : Form → Map → Shadows → Shadows × Answer
audit F m s =
    let bs = list_of F m s in
    refuse F m s ((8, not (is_image F m s bs)) ∷ []) (s, totals m bs)

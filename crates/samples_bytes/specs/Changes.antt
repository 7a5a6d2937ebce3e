-- Where the bytes of a shadow differ from those that it had. Assumes nothing.
use Rattle.std.specs.Prelude.{Bool, false, cond, not, ◌||◌, List, [], ◌∷◌, Option, Some, None, ℕ, suc, eqb}
use Rattle.samples_text.specs.Text.{by_place}

-- some byte differs
unfoldable pub differ : (old new : List ℕ) → Bool
differ [] new = false
differ (x ∷ xs) [] = false
differ (x ∷ xs) (y ∷ ys) = not (eqb x y) || differ xs ys

-- the place after the last byte that differs
unfoldable pub change_end : (old new : List ℕ) → Option ℕ
change_end [] new = None
change_end (x ∷ xs) [] = None
change_end (x ∷ xs) (y ∷ ys) = by_place (change_end xs ys) (cond (eqb x y) None (Some 1)) (λ e. Some (suc e))

-- the place of the first byte that differs
unfoldable pub change_start : (old new : List ℕ) → Option ℕ
change_start [] new = None
change_start (x ∷ xs) [] = None
change_start (x ∷ xs) (y ∷ ys) = cond (eqb x y) (by_place (change_start xs ys) None (λ i. Some (suc i))) (Some 0)

-- The check of a record in the form with origins, by that of the plain form. Assumes nothing.
use Rattle.std.specs.Prelude.{cond, not, ◌&&◌, ◌||◌, ℕ, suc, eqb}
use Rattle.map.specs.declared.Map.{Map}
use Rattle.plain.specs.Call.{number}
use Rattle.origins_list.specs.Call.{Call, is_cell, is_origin}
use Rattle.origins_base.specs.Calls.{State, call}

-- the number of a call: the first refusal that holds, or 0
abbrev pub number_of : Map → Call → State → ℕ
number_of m c x = number (call m c x).1

-- the number of a record where the cells fit, by the plain form's: 5 of the base comes ahead of 6, and 12 last
abbrev pub decided_by : (plain base counter : ℕ) → ℕ
decided_by j b k = cond ((eqb j 0 || eqb j 6) && not (is_cell b)) 5 (cond (eqb j 0 && not (is_origin k)) 12 j)

-- the counter after a record, by its number
abbrev pub counted : (number counter : ℕ) → ℕ
counted j k = cond (eqb j 0) (suc k) k

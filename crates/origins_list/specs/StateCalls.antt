-- The calls of the form with origins on block shadows and cells of whatever layout, by their operations, for any bytes and any counter. The plain
-- kinds are those of the plain form (`by_rules`, `by_shadows`, `shadows_after`, `shadow_answer`). Assumes nothing.
use Rattle.std.specs.Prelude.{Bool, cond, not, ◌&&◌, ◌||◌, List, [], ◌∷◌, ◌++◌, ℕ, suc, eqb}
use Rattle.plain.specs.Rules.{Rules}
use Rattle.plain.specs.Reading.{Reading, nothing, block, damaged}
use Rattle.plain.specs.Ops.{Ops, read_any}
use Rattle.plain.specs.Call.{Answer, done, yes_no, Refusal, first_of, unless, by_rules}
use Rattle.plain.specs.ShadowCalls.{is_damaged, in_one, length_of, by_shadows, shadows_after, shadow_answer}
use Rattle.origins_list.specs.Call.{Call, plain, point, copy, live, is_cell, Role, clears, begins, ends, leaves, role_of, unaligned, used_up, takes_origin}
use Rattle.origins_list.specs.CellOps.{CellOps}
pub use Rattle.types.specs.Origins.{State}

-- the origin of the block that a reading gives, or 0 where there is none: it stands in the cell of the block's base
abbrev pub origin_read : {C : Type 0} → CellOps C → C → Reading → ℕ
origin_read X x nothing = 0
origin_read X x (block b l o m t) = X.origin x b
origin_read X x damaged = 0

-- the counter after an accepted call
abbrev pub counter_after : Call → ℕ → ℕ
counter_after c k = cond (takes_origin c) (suc k) k

module _ {S C : Type 0} (R : Rules) (O : Ops S) (X : CellOps C) where
  -- what the block shadows say of an address
  abbrev pub read : State S C → ℕ → Reading
  read x a = read_any R O x.shadows a

  -- a pointer can stand there: it is the address of a cell "whose four bytes are" "in one block", which may be a literal
  abbrev pub is_pointer : State S C → ℕ → Bool
  is_pointer x c = is_cell c && in_one 4 (read x c)

  -- all refusals but 1 and 2, in the order in which they are tried. Of the plain kinds, those of the plain form, with 5 and 12 of a recording
  -- in their places; of the others 4, 8 and 11
  abbrev pub by_state : Call → State S C → List Refusal
  by_state (plain c) x = by_rules R c ++ (unaligned (role_of c) ++ (by_shadows R O c x.shadows ++ used_up (role_of c) x.counter))
  by_state (point c a) x =
      (4, not (R.inside c)) ∷ (8, is_damaged (read x c) || is_damaged (read x a)) ∷ (11, not (is_pointer x c)) ∷ []
  by_state (copy t f) x =
      (4, not (R.inside t) || not (R.inside f)) ∷ (8, is_damaged (read x t) || is_damaged (read x f))
      ∷ (11, not (is_pointer x t) || not (is_pointer x f)) ∷ []
  by_state (live c a) x =
      (4, not (R.inside c)) ∷ (8, is_damaged (read x c) || is_damaged (read x a)) ∷ (11, not (is_pointer x c)) ∷ []

  -- the block shadows after an accepted call: only the plain kinds write them
  abbrev pub shadows_of : Call → State S C → S
  shadows_of (plain c) x = shadows_after R O c x.shadows
  shadows_of (point c a) x = x.shadows
  shadows_of (copy t f) x = x.shadows
  shadows_of (live c a) x = x.shadows

  -- the cells after an accepted call: "recording stores it in the cell of the block's base as the origin", "clear zeroes all cells", "Freeing
  -- zeroes each cell that touches the block", and S-7's remove as free
  abbrev pub cells_by : Role → State S C → C
  cells_by clears x = X.cleared
  cells_by (begins b l) x = X.set_origin x.cells b x.counter
  cells_by (ends b) x = X.zeroed x.cells b (length_of (read x b))
  cells_by leaves x = x.cells

  abbrev pub cells_after : Call → State S C → C
  cells_after (plain c) x = cells_by (role_of c) x
  cells_after (point c a) x = X.set_referent x.cells c (origin_read X x.cells (read x a))
  cells_after (copy t f) x = X.set_referent x.cells t (X.referent x.cells f)
  cells_after (live c a) x = x.cells

  abbrev pub state_after : Call → State S C → State S C
  state_after c x = record { shadows = shadows_of c x; cells = cells_after c x; counter = counter_after c x.counter }

  -- the pointer's referent is the origin of the block that holds the address; a referent of 0 is none
  abbrev pub is_live : State S C → (cell address : ℕ) → Bool
  is_live x c a = not (eqb (X.referent x.cells c) 0) && eqb (origin_read X x.cells (read x a)) (X.referent x.cells c)

  -- the answer of an accepted call
  abbrev pub state_answer : Call → State S C → Answer
  state_answer (plain c) x = shadow_answer R O c x.shadows
  state_answer (point c a) x = done
  state_answer (copy t f) x = done
  state_answer (live c a) x = yes_no (is_live x c a)

  -- one call
  unfoldable pub state_step : Call → State S C → State S C × Answer
  state_step c x = unless (first_of (by_state c x)) x (state_after c x, state_answer c x)

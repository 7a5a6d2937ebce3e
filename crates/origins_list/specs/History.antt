-- Kind 13 "judged by the history of calls": what follows from the list of calls made so far, each with whether it was accepted, and from nothing
-- else. An allocation is named by the place in that list of the recording call that made it. No origin, no counter and no cell's content occurs
-- here. Assumes nothing.
use Rattle.std.specs.Prelude.{Bool, true, false, cond, ◌&&◌, List, [], ◌∷◌, ℕ, suc, ◌+◌, leb, ltb, eqb, length}
use Rattle.std.proofs.Math.Option.{Option, none, some}
use Rattle.origins_list.specs.Call.{Call, plain, point, copy, live, Role, clears, begins, ends, leaves, role_of, takes_origin}

-- the calls made so far, the latest first, each with whether it was accepted. A call's place is the number of calls before it
abbrev pub History : Type 0
History = List (Call × Bool)

-- the place of the recording that made it, and its base
pub record Allocation : Type 0 where
  pub place : ℕ
  pub base : ℕ

-- the allocation begins there
abbrev pub begins_at : ℕ → Option Allocation → Bool
begins_at x none = false
begins_at x (some n) = eqb n.base x

-- how many recordings were accepted
unfoldable pub recordings : History → ℕ
recordings [] = 0
recordings (e ∷ h) = cond (takes_origin e.0 && e.1) (suc (recordings h)) (recordings h)

-- ---- which allocation is live and holds an address

-- after an accepted call at a place, where `held` was the live allocation that held address a before it: clear ends all, a recording at base b of
-- l bytes begins one, free or remove of its base ends it
abbrev pub held_by : Role → (place : ℕ) → (held : Option Allocation) → (a : ℕ) → Option Allocation
held_by clears p held a = none
held_by (begins b l) p held a = cond (leb b a && ltb a (b + l)) (some (record { place = p; base = b })) held
held_by (ends x) p held a = cond (begins_at x held) none held
held_by leaves p held a = held

abbrev pub held_after : Call → (place : ℕ) → (held : Option Allocation) → (a : ℕ) → Option Allocation
held_after (plain c) p held a = held_by (role_of c) p held a
held_after (point c b) p held a = held
held_after (copy t f) p held a = held
held_after (live c b) p held a = held

-- the live allocation that holds an address; a refused call changes nothing
unfoldable pub holder : History → (a : ℕ) → Option Allocation
holder [] a = none
holder ((c, false) ∷ h) a = holder h a
holder ((c, true) ∷ h) a = held_after c (length h) (holder h a) a

-- ---- which allocation a pointer was last set to

abbrev pub place_of : Option Allocation → Option ℕ
place_of none = none
place_of (some n) = some n.place

-- after an accepted call, where `held` tells the live allocation that held an address before it and `set` the allocation that the pointer in a
-- cell was set to: clear unsets all, free and remove those in the allocation that they end; kind 11 sets the cell to the live allocation that holds the
-- address, or to none; kind 12 sets it as another is set
abbrev pub set_by : Role → (held : ℕ → Option Allocation) → (set : ℕ → Option ℕ) → (c : ℕ) → Option ℕ
set_by clears held set c = none
set_by (begins b l) held set c = set c
set_by (ends x) held set c = cond (begins_at x (held c)) none (set c)
set_by leaves held set c = set c

abbrev pub set_after : Call → (held : ℕ → Option Allocation) → (set : ℕ → Option ℕ) → (c : ℕ) → Option ℕ
set_after (plain c) held set d = set_by (role_of c) held set d
set_after (point p a) held set c = cond (eqb c p) (place_of (held a)) (set c)
set_after (copy t f) held set c = cond (eqb c t) (set f) (set c)
set_after (live p a) held set c = set c

-- the allocation that the pointer in a cell was last set to, by its place; none where it is unset, or set to no block
unfoldable pub set_to : History → (c : ℕ) → Option ℕ
set_to [] c = none
set_to ((call, false) ∷ h) c = set_to h c
set_to ((call, true) ∷ h) c = set_after call (holder h) (set_to h) c

-- ---- kind 13

-- one allocation, by its place
abbrev pub same : (pointed holding : Option ℕ) → Bool
same none q = false
same (some p) none = false
same (some p) (some q) = eqb p q

-- "exactly if the very allocation the pointer was last set to is live and holds the address"
abbrev pub judged : History → (cell address : ℕ) → Bool
judged h c a = same (set_to h c) (place_of (holder h a))

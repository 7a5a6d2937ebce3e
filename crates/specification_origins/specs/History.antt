-- S-4: what kind 13 must answer, judged by the calls that were made and whether each was accepted. Nothing else is looked at: no origin, no counter and no
-- cell's content occurs here. Assumes nothing.
use Rattle.std.specs.Prelude.{Bool, true, false, cond, ◌&&◌, ◌||◌, List, [], ◌∷◌, ℕ, ◌+◌, length, leb, ltb, eqb}
use Rattle.std.proofs.Math.Option.{Option, none, some}
use Rattle.types.specs.Origins.{Call, plain, point, copy, live}
use Rattle.specification_origins.specs.Origins.{Does, records, ends, clears, leaves, does}

-- the calls made so far, the latest first, each with whether it was accepted. A call's place is the number of calls before it
abbrev pub History : Type 0
History = List (Call × Bool)

-- an allocation is named by the place of the recording that made it, so that no two have one name
pub record Allocation : Type 0 where
  pub place : ℕ
  pub base : ℕ
  pub bytes : ℕ

-- what follows from a history: the live allocations, and for each cell the allocation that its pointer was last set to, if any
pub record Past : Type 0 where
  pub alive : List Allocation
  pub pointer : (cell : ℕ) → Option ℕ

-- ---- allocations

abbrev pub holds : (a : ℕ) → Allocation → Bool
holds a p = leb p.base a && ltb a (p.base + p.bytes)

-- the first one that holds an address
unfoldable pub holder : (a : ℕ) → List Allocation → Option Allocation
holder a [] = none
holder a (p ∷ ps) = cond (holds a p) (some p) (holder a ps)

abbrev pub name_of : Option Allocation → Option ℕ
name_of none = none
name_of (some p) = some p.place

-- those of other bases
unfoldable pub others : (base : ℕ) → List Allocation → List Allocation
others base [] = []
others base (p ∷ ps) = cond (eqb p.base base) (others base ps) (p ∷ others base ps)

-- one of them is so
unfoldable pub is_some : (Allocation → Bool) → List Allocation → Bool
is_some so [] = false
is_some so (p ∷ ps) = so p || is_some so ps

-- ---- what an accepted call changes

-- a recording at place i adds allocation i. The end of a block ends the allocation of that base, and unsets the pointers that it holds. clear ends
-- and unsets all
abbrev pub after_plain : Does → (i : ℕ) → Past → Past
after_plain (records base L) i past = record { alive = record { place = i; base = base; bytes = L } ∷ past.alive; pointer = past.pointer }
after_plain (ends base) i past =
    record { alive = others base past.alive; pointer = λ c. cond (is_some (λ p. holds c p && eqb p.base base) past.alive) none (past.pointer c) }
after_plain clears i past = record { alive = []; pointer = λ c. none }
after_plain leaves i past = past

-- kind 11 sets the cell to the live allocation that holds the address, or to none; kind 12 sets `to` as `from` is set
abbrev pub after : Call → (i : ℕ) → Past → Past
after (plain c) i past = after_plain (does c) i past
after (point c a) i past = record { alive = past.alive; pointer = λ d. cond (eqb d c) (name_of (holder a past.alive)) (past.pointer d) }
after (copy to from) i past = record { alive = past.alive; pointer = λ d. cond (eqb d to) (past.pointer from) (past.pointer d) }
after (live c a) i past = past

-- a refused call changes nothing
unfoldable pub past_of : History → Past
past_of [] = record { alive = []; pointer = λ c. none }
past_of ((c, false) ∷ h) = past_of h
past_of ((c, true) ∷ h) = after c (length h) (past_of h)

-- ---- kind 13

abbrev pub is_named : Option ℕ → Allocation → Bool
is_named none p = false
is_named (some i) p = eqb i p.place

-- some live allocation holds the address and is the one that the pointer was last set to; of a pointer that is unset, or set to no block, none is
abbrev pub judged : History → (cell address : ℕ) → Bool
judged h c a = is_some (λ p. holds a p && is_named ((past_of h).pointer c) p) (past_of h).alive

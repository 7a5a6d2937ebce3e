-- The number of each call is that of the first row of the table that holds, for every form, and 0 exactly if none does. Assumes nothing.
use mathlib.Core.Path.{◌≡◌, refl, sym, ◌∙◌}
use mathlib.Core.Bool.{Bool, true, false, cond, not, ◌&&◌, ◌||◌, and-true, and-false}
use mathlib.Core.List.{List, [], ◌∷◌}
use mathlib.Core.Option.{Option, none, some}
use Prim.Native.Nat.{ℕ, zero, suc, ◌-◌}
use native.Mathlib.Omega.{arith}
use lib.ListN.{length, take}
use lib.Dec.{leb, eqb}
use borrow.Author.Tests.{ne_eqb, eqb-false, not-true}
use Rattle.number.specs.Parts.{Each}
use Rattle.number.proofs.TestLaws as law
use Rattle.number.proofs.TestLaws.{Test, is_true, is_false, test}
use Rattle.types.specs.Gap.{Gap}
use Rattle.types.specs.Reading.{Reading, nothing, block, damaged}
use Rattle.types.specs.Call.{Call, clear, begin, free, remove, written, ask, valid, initialised, next, audit, place, number, Refusal, first_of}
use Rattle.plain.proofs.RunLaws.{unless-number}
use Rattle.specification.specs.Map.{Map, Shadows, heap_of, end_of_areas}
use Rattle.specification.specs.Form.{Form}
use Rattle.specification.specs.Readings.{reading, is_damaged, is_block, is_first}
use Rattle.specification.specs.Footprint.{place_length}
use Rattle.specification.specs.Calls as calls
use Rattle.specification.specs.Calls.{ask_fields, stops, climb, next_fields}
use Rattle.specification.specs.Audit as audits
use Rattle.specification.specs.Place as places
use Rattle.specification.specs.Place.{gaps, smaller, best, is_none, place_fields}
use Rattle.specification.specs.Call.{call}
use Rattle.specification.specs.Table.{damaged_first, none_begins, none_holds, rows}
use Rattle.specification.specs.Votes.{number_of}

-- ---- a number of 0 and the conditions

abbrev pub NoneHolds : List Refusal → Type 0
NoneHolds rs = Each (λ (r : Refusal). r.1 ≡ false) rs

first-none : (rs : List Refusal) → NoneHolds rs → first_of rs ≡ 0
first-none [] h = refl
first-none (r ∷ rs) h = rw h.0 (first-none rs h.1)

-- no number of a list is 0
abbrev numbered : List Refusal → Bool
numbered [] = true
numbered (r ∷ rs) = not (eqb r.0 0) && numbered rs

none_first : (rs : List Refusal) → numbered rs ≡ true → first_of rs ≡ 0 → NoneHolds rs
none_first [] n e = tt
none_first (r ∷ rs) n e = go (test r.1) (law.and-true (not (eqb r.0 0)) (numbered rs) n) (none_first rs)
  where
    go : Test r.1 → (not (eqb r.0 0) ≡ true) × (numbered rs ≡ true) → (numbered rs ≡ true → first_of rs ≡ 0 → NoneHolds rs) → NoneHolds (r ∷ rs)
    go (is_true t) (p, q) ih = absurd (eqb-false r.0 0 (not-true (eqb r.0 0) p) (rw t at e))
    go (is_false t) (p, q) ih = (t, ih q (rw t at e))

-- ---- next: where the climb ends

climbed : (rd : ℕ → Reading) (a n : ℕ)
    → ◌≡◌ {A = ℕ} (cond (is_damaged (climb rd a n)) 8 (cond (not (is_block (climb rd a n))) 7 0)) (cond (damaged_first rd a n) 8 (cond (none_begins rd a n) 7 0))
unfolding climb damaged_first none_begins
climbed rd a zero = refl
climbed rd a (suc n) = go (rd a) (climb rd (suc a) n) (damaged_first rd (suc a) n) (none_begins rd (suc a) n) (climbed rd (suc a) n)
  where
    go : (r above : Reading) (d k : Bool) → ◌≡◌ {A = ℕ} (cond (is_damaged above) 8 (cond (not (is_block above)) 7 0)) (cond d 8 (cond k 7 0))
        → ◌≡◌ {A = ℕ} (cond (is_damaged (stops r above)) 8 (cond (not (is_block (stops r above))) 7 0))
        (cond (is_damaged r || (not (is_first r) && d)) 8 (cond (not (is_first r) && k) 7 0))
    go nothing above d k e = e
    go (block b L zero w t) above d k e = refl
    go (block b L (suc o) w t) above d k e = rw (ne_eqb (suc o) 0 (λ z. omega arith)) e
    go damaged above d k e = refl

-- ---- place: a gap is chosen exactly if one holds the block

chosen : (need : ℕ) (gs : List Gap) → is_none (best need gs) ≡ none_holds need gs
unfolding best none_holds
chosen need [] = refl
chosen need (g ∷ gs) = go (test (leb need g.bytes)) (chosen need gs)
  where
    one : (o : Option Gap) → is_none (smaller g o) ≡ false
    one none = refl
    one (some h) = either (leb g.bytes h.bytes)
      where
        either : (t : Bool) → is_none (cond t (some g) (some h)) ≡ false
        either true = refl
        either false = refl

    go : Test (leb need g.bytes) → is_none (best need gs) ≡ none_holds need gs → is_none (best need (g ∷ gs)) ≡ none_holds need (g ∷ gs)
    go (is_true e) r = rw e (one (best need gs))
    go (is_false e) r = rw e r

-- ---- fields come with the number 0

ask-zero : (r : Reading) → number (ask_fields r) ≡ 0
ask-zero nothing = refl
ask-zero (block b L o w t) = refl
ask-zero damaged = refl

next-zero : (r : Reading) → number (next_fields r) ≡ 0
next-zero nothing = refl
next-zero (block b L o w t) = refl
next-zero damaged = refl

place-zero : (F : Form) (L n : ℕ) (o : Option Gap) → number (place_fields F L n o) ≡ 0
place-zero F L n none = refl
place-zero F L n (some g) = refl

module _ (F : Form) (m : Map) where
  pub by_the_table : (c : Call) (s : Shadows) → number_of F m c s ≡ first_of (rows F m c s)
  unfolding call calls.clear calls.begin calls.free calls.remove calls.written calls.ask calls.valid calls.initialised calls.next audits.audit places.place
  by_the_table clear s = unless-number _ s _ refl
  by_the_table (begin how b L) s = unless-number _ s _ refl
  by_the_table (free b) s = go (test (eqb b 0))
    where
      go : Test (eqb b 0) → number_of F m (free b) s ≡ first_of (rows F m (free b) s)
      go (is_true e) = simp (e, and-false) (unless-number _ s _ refl)
      go (is_false e) = simp (e, and-true) (unless-number _ s _ refl)
  by_the_table (remove b) s = unless-number _ s _ refl
  by_the_table (written a n) s = unless-number _ s _ refl
  by_the_table (ask a) s = unless-number _ s _ (ask-zero (reading F m s a))
  by_the_table (valid write a n from) s = unless-number _ s _ refl
  by_the_table (initialised a n) s = unless-number _ s _ refl
  by_the_table (next a) s =
      let (rd, n) : (ℕ → Reading) × ℕ = (reading F m s, end_of_areas m - a) in
      rw (← climbed rd a n) (unless-number _ s _ (next-zero (climb rd a n)))
  by_the_table audit s = unless-number _ s _ refl
  by_the_table (place L budget) s =
      let (need, gs) : ℕ × List Gap = (place_length F L, take budget (gaps F m (heap_of s))) in
      rw (← chosen need gs) (unless-number _ s _ (place-zero F L (length gs) (best need gs)))

  -- no number of the table is 0
  pub accepted_only : (c : Call) (s : Shadows) → number_of F m c s ≡ 0 → NoneHolds (rows F m c s)
  accepted_only c s e = none_first (rows F m c s) refl (sym (by_the_table c s) ∙ e)

  pub accepted_if : (c : Call) (s : Shadows) → NoneHolds (rows F m c s) → number_of F m c s ≡ 0
  accepted_if c s h = by_the_table c s ∙ first-none (rows F m c s) h

-- A history tells what the library's does, address by address, where no recording took an address that a live allocation held. Assumes nothing.
use mathlib.Core.Path.{◌≡◌, refl, ap, ◌∙◌}
use mathlib.Core.Bool.{Bool, true, false, cond, ◌&&◌, or-false}
use mathlib.Core.List.{List, [], ◌∷◌}
use mathlib.Core.Option.{Option, none, some, some-ne-none}
use Prim.Native.Nat.{ℕ, ◌+◌}
use lib.ListN.{length}
use lib.Dec.{leb, ltb, eqb}
use Rattle.number.proofs.TestLaws.{Test, is_true, is_false, test}
use Rattle.types.specs.Call as plains
use Rattle.types.specs.Origins.{Call, plain, point, copy, live}
use Rattle.origins_list.specs.Call.{Role, clears, begins, ends, leaves, role_of}
use Rattle.origins_list.specs.History as library
use Rattle.specification_origins.specs.Origins.{does}
use Rattle.specification_origins.specs.History.{History, Allocation, Past, holds, holder, name_of, others, is_some, after_plain, past_of, is_named, judged}
use Rattle.specification_origins.proofs.OriginsSame.{Kind, clearing, recording, ending, leaving, kind}

-- ---- allocations apart: no two hold one address

abbrev pub Apart : List Allocation → Type 0
Apart [] = Unit {0}
Apart (p ∷ ps) = ((a : ℕ) → holds a p ≡ true → holder a ps ≡ none) × Apart ps

-- what is so of the one found
abbrev on_found : (Allocation → Bool) → Option Allocation → Bool
on_found t none = false
on_found t (some p) = t p

none-some : (t : Allocation → Bool) (a : ℕ) (ps : List Allocation) → holder a ps ≡ none → is_some (λ p. holds a p && t p) ps ≡ false
unfolding holder is_some
none-some t a [] e = refl
none-some t a (p ∷ ps) e = go (test (holds a p)) (none-some t a ps)
  where
    go : Test (holds a p) → (holder a ps ≡ none → is_some (λ q. holds a q && t q) ps ≡ false) → is_some (λ q. holds a q && t q) (p ∷ ps) ≡ false
    go (is_true h) ih = absurd (some-ne-none p (rw h at e))
    go (is_false h) ih = rw h (ih (rw h at e))

the_one : (t : Allocation → Bool) (a : ℕ) (ps : List Allocation) → Apart ps → is_some (λ p. holds a p && t p) ps ≡ on_found t (holder a ps)
unfolding holder is_some
the_one t a [] d = refl
the_one t a (p ∷ ps) d = go (test (holds a p)) (the_one t a ps d.1)
  where
    go : Test (holds a p) → is_some (λ q. holds a q && t q) ps ≡ on_found t (holder a ps) → is_some (λ q. holds a q && t q) (p ∷ ps) ≡ on_found t (holder a (p ∷ ps))
    go (is_true h) ih = rw (h, none-some t a ps (d.0 a h)) (or-false (t p))
    go (is_false h) ih = rw h ih

-- ---- one ends

still-none : (b a : ℕ) (ps : List Allocation) → holder a ps ≡ none → holder a (others b ps) ≡ none
unfolding holder others
still-none b a [] e = refl
still-none b a (p ∷ ps) e = go (test (holds a p)) (test (eqb p.base b)) (still-none b a ps)
  where
    go : Test (holds a p) → Test (eqb p.base b) → (holder a ps ≡ none → holder a (others b ps) ≡ none) → holder a (others b (p ∷ ps)) ≡ none
    go (is_true h) k ih = absurd (some-ne-none p (rw h at e))
    go (is_false h) (is_true k) ih = rw k (ih (rw h at e))
    go (is_false h) (is_false k) ih = rw (k, h) (ih (rw h at e))

still-apart : (b : ℕ) (ps : List Allocation) → Apart ps → Apart (others b ps)
unfolding others
still-apart b [] d = tt
still-apart b (p ∷ ps) d = go (test (eqb p.base b)) (still-apart b ps d.1)
  where
    go : Test (eqb p.base b) → Apart (others b ps) → Apart (others b (p ∷ ps))
    go (is_true k) ih = rw k ih
    go (is_false k) ih = rw k (λ a h. still-none b a ps (d.0 a h), ih)

ended : (b a : ℕ) (ps : List Allocation) → Apart ps → holder a (others b ps) ≡ cond (on_found (λ p. eqb p.base b) (holder a ps)) none (holder a ps)
unfolding holder others
ended b a [] d = refl
ended b a (p ∷ ps) d = go (test (holds a p)) (test (eqb p.base b)) (ended b a ps d.1)
  where
    go : Test (holds a p) → Test (eqb p.base b) → holder a (others b ps) ≡ cond (on_found (λ q. eqb q.base b) (holder a ps)) none (holder a ps)
        → holder a (others b (p ∷ ps)) ≡ cond (on_found (λ q. eqb q.base b) (holder a (p ∷ ps))) none (holder a (p ∷ ps))
    go (is_true h) (is_true k) ih = rw (h, k) (still-none b a ps (d.0 a h))
    go (is_true h) (is_false k) ih = rw (h, k, h)
    go (is_false h) (is_true k) ih = rw (k, h) ih
    go (is_false h) (is_false k) ih = rw (k, h) ih

-- ---- the same allocation, told by the library

abbrev pub told : Option Allocation → Option library.Allocation
told none = none
told (some p) = some (record { place = p.place; base = p.base })

told_none : (o : Option Allocation) → told o ≡ none → o ≡ none
told_none none e = refl
told_none (some p) e = absurd (some-ne-none (record { place = p.place; base = p.base }) e)

told-cond : (t : Bool) (o : Option Allocation) → told (cond t none o) ≡ cond t none (told o)
told-cond true o = refl
told-cond false o = refl

based-same : (b : ℕ) (o : Option Allocation) → on_found (λ p. eqb p.base b) o ≡ library.begins_at b (told o)
based-same b none = refl
based-same b (some p) = refl

name-same : (o : Option Allocation) → name_of o ≡ library.place_of (told o)
name-same none = refl
name-same (some p) = refl

named-same : (s : Option ℕ) (o : Option Allocation) → on_found (is_named s) o ≡ library.same s (library.place_of (told o))
named-same none none = refl
named-same none (some p) = refl
named-same (some i) none = refl
named-same (some i) (some p) = refl

-- ---- histories

-- no address of a recorded block was held
abbrev pub FreshBy : Role → History → Type 0
FreshBy (begins b l) h = (a : ℕ) → (leb b a && ltb a (b + l)) ≡ true → library.holder h a ≡ none
FreshBy clears h = Unit {0}
FreshBy (ends b) h = Unit {0}
FreshBy leaves h = Unit {0}

abbrev pub Fresh : Call → History → Type 0
Fresh (plain c) h = FreshBy (role_of c) h
Fresh (point c a) h = Unit {0}
Fresh (copy t f) h = Unit {0}
Fresh (live c a) h = Unit {0}

abbrev pub Sane : History → Type 0
Sane [] = Unit {0}
Sane ((c, false) ∷ h) = Sane h
Sane ((c, true) ∷ h) = Fresh c h × Sane h

record Same (h : History) (past : Past) : Type 0 where
  apart : Apart past.alive
  held : (a : ℕ) → told (holder a past.alive) ≡ library.holder h a
  set : (c : ℕ) → past.pointer c ≡ library.set_to h c

same-plain : (h : History) (past : Past) → Same h past → {c : plains.Call} → Kind c → FreshBy (role_of c) h
    → Same ((plain c, true) ∷ h) (after_plain (does c) (length h) past)
unfolding library.holder library.set_to holder
same-plain h past S clearing f = record { apart = tt; held = λ a. refl; set = λ c. refl }
same-plain h past S (recording how b l) f =
    record { apart = (λ a t. told_none (holder a past.alive) (S.held a ∙ f a t), S.apart); held = λ a. there a (test (leb b a && ltb a (b + l))); set = S.set }
  where
    there : (a : ℕ) → Test (leb b a && ltb a (b + l))
        → told (cond (leb b a && ltb a (b + l)) (some (record { place = length h; base = b; bytes = l })) (holder a past.alive))
        ≡ cond (leb b a && ltb a (b + l)) (some (record { place = length h; base = b })) (library.holder h a)
    there a (is_true t) = rw t
    there a (is_false t) = rw t (S.held a)
same-plain h past S (ending c b d r i) f = rw d (record { apart = still-apart b past.alive S.apart; held = λ a. rw r (held a); set = λ e. rw r (set e) })
  where
    it : (a : ℕ) → on_found (λ p. eqb p.base b) (holder a past.alive) ≡ library.begins_at b (library.holder h a)
    it a = based-same b (holder a past.alive) ∙ ap (library.begins_at b) (S.held a)

    held : (a : ℕ) → told (holder a (others b past.alive)) ≡ cond (library.begins_at b (library.holder h a)) none (library.holder h a)
    held a =
        rw (ended b a past.alive S.apart, told-cond (on_found (λ p. eqb p.base b) (holder a past.alive)) (holder a past.alive), it a, S.held a)

    set : (e : ℕ) → cond (is_some (λ p. holds e p && eqb p.base b) past.alive) none (past.pointer e) ≡ cond (library.begins_at b (library.holder h e)) none (library.set_to h e)
    set e = rw (the_one (λ p. eqb p.base b) e past.alive S.apart, it e, S.set e)
same-plain h past S (leaving c d r) f = rw d (record { apart = S.apart; held = λ a. rw r (S.held a); set = λ e. rw r (S.set e) })

same_of : (h : History) → Sane h → Same h (past_of h)
unfolding past_of library.holder library.set_to holder
same_of [] s = record { apart = tt; held = λ a. refl; set = λ c. refl }
same_of ((c, false) ∷ h) s = let S = same_of h s in record { apart = S.apart; held = S.held; set = S.set }
same_of ((plain c, true) ∷ h) s = same-plain h (past_of h) (same_of h s.1) (kind c) s.0
same_of ((point c a, true) ∷ h) s =
    let S = same_of h s.1 in
    record { apart = S.apart; held = S.held; set = λ d. rw (name-same (holder a (past_of h).alive), S.held a, S.set d) }
same_of ((copy t f, true) ∷ h) s = let S = same_of h s.1 in record { apart = S.apart; held = S.held; set = λ d. rw (S.set f, S.set d) }
same_of ((live c a, true) ∷ h) s = let S = same_of h s.1 in record { apart = S.apart; held = S.held; set = S.set }

-- who holds an address, and what a pointer is set to
pub past_same : (h : History) → Sane h → ((a : ℕ) → told (holder a (past_of h).alive) ≡ library.holder h a) × ((c : ℕ) → (past_of h).pointer c ≡ library.set_to h c)
past_same h s = let S = same_of h s in (S.held, S.set)

-- kind 13 is judged alike
pub judged-same : (h : History) → Sane h → (c a : ℕ) → judged h c a ≡ library.judged h c a
judged-same h s c a =
    let S = same_of h s in
    the_one (is_named ((past_of h).pointer c)) a (past_of h).alive S.apart
    ∙ named-same ((past_of h).pointer c) (holder a (past_of h).alive)
    ∙ rw (S.set c, S.held a)

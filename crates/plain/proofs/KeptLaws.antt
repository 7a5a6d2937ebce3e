-- A list stays placed when a block joins that meets none, when a block goes, and when bytes count as written. Assumes nothing.
use mathlib.Core.Path.{◌≡◌, refl, sym, ap, ◌∙◌}
use mathlib.Core.Bool.{Bool, true, false, cond, ◌&&◌}
use mathlib.Core.List.{List, [], ◌∷◌}
use Prim.Native.Nat.{ℕ, zero, suc, ◌+◌, ◌-◌, ◌≤◌, ◌<◌}
use native.Mathlib.Omega.{arith}
use lib.ListN.{set, replicate, length-set}
use lib.Dec.{ltb}
use borrow.Author.Tests.{ltb-true, ltb-false}
use Rattle.number.proofs.TestLaws.{Test, is_true, is_false, test, not-both}
use Rattle.plain.specs.Block.{Block, len, contains, has_base, mark_block}
use Rattle.plain.specs.Blocks.{find, any, Has, here, there, insert, remove, mark_one, mark_all}
use Rattle.plain.specs.Rules.{Rules, meets, Proper, Placed, Sound}

-- where none is so, the first is not, and no later one
pub any_false : (p : Block → Bool) (c : Block) (cs : List Block) → any p (c ∷ cs) ≡ false → (p c ≡ false) × (any p cs ≡ false)
unfolding find
any_false p c cs e = go (test (p c))
  where
    go : Test (p c) → (p c ≡ false) × (any p cs ≡ false)
    go (is_true t) = absurd (not-both true refl (rw t at e))
    go (is_false t) = (t, rw t at e)

pub has-proper : (R : Rules) {b : Block} {bs : List Block} (from : ℕ) → Placed R from bs → Has b bs → Proper R b
has-proper R from P (here {bs = bs}) = P.proper
has-proper R {b} from P (there {c = c} {bs = cs} h) = has-proper R (R.high c.base (len c)) P.later h

pub weaken : (R : Rules) (bs : List Block) (from less : ℕ) → less ≤ from → Placed R from bs → Placed R less bs
weaken R [] from less h P = tt
weaken R (c ∷ cs) from less h P = record { some = P.some; fits = P.fits; aligned = P.aligned; proper = P.proper; room = omega arith; later = P.later }

module _ (R : Rules) (G : Sound R) where
  -- a footprint ends no lower than it begins
  pub low-high : (b l : ℕ) → R.fits b l ≡ true → R.low b l ≤ R.high b l
  low-high b l f = omega (arith, G.low_base b l f, G.high_end b l)

  -- the base of a block that fits lies inside
  pub base-inside : (b l : ℕ) → 1 ≤ l → R.fits b l ≡ true → R.inside b ≡ true
  base-inside b l n f = G.in_inside b l b f (omega arith) (omega arith)

  -- where footprints do not meet, the one ends where the other begins, or before
  pub apart : (b l : ℕ) (c : Block) → 1 ≤ l → R.fits b l ≡ true → R.fits c.base (len c) ≡ true → meets R b l c ≡ false
      → (b < c.base → R.high b l ≤ R.low c.base (len c)) × (c.base ≤ b → R.high c.base (len c) ≤ R.low b l)
  unfolding meets
  apart b l c k f fc m = (λ h. before (test x) (test y) h, λ h. after (test x) (test y) h)
    where
      x : Bool
      x = ltb (R.low b l) (R.high c.base (len c))

      y : Bool
      y = ltb (R.low c.base (len c)) (R.high b l)

      lb : R.low b l ≤ b
      lb = G.low_base b l f

      hb : b + l ≤ R.high b l
      hb = G.high_end b l

      lc : R.low c.base (len c) ≤ c.base
      lc = G.low_base c.base (len c) fc

      hc : c.base + len c ≤ R.high c.base (len c)
      hc = G.high_end c.base (len c)

      both : x ≡ true → y ≡ true → ⊥
      both p q = not-both (x && y) (rw (p, q)) m

      before : Test x → Test y → b < c.base → R.high b l ≤ R.low c.base (len c)
      before s (is_false q) h = ltb-false (R.low c.base (len c)) (R.high b l) q
      before (is_false p) (is_true q) h = absurd (omega (arith, ltb-false (R.low b l) (R.high c.base (len c)) p, lb, hc))
      before (is_true p) (is_true q) h = absurd (both p q)

      after : Test x → Test y → c.base ≤ b → R.high c.base (len c) ≤ R.low b l
      after (is_false p) t h = ltb-false (R.low b l) (R.high c.base (len c)) p
      after (is_true p) (is_false q) h = absurd (omega (arith, ltb-false (R.low c.base (len c)) (R.high b l) q, lc, hb))
      after (is_true p) (is_true q) h = absurd (both p q)

  pub insert-placed : (b : Block) → 1 ≤ len b → R.fits b.base (len b) ≡ true → R.aligned b.base ≡ true → Proper R b
      → (bs : List Block) (from : ℕ) → from ≤ R.low b.base (len b) → Placed R from bs → any (meets R b.base (len b)) bs ≡ false → Placed R from (insert b bs)
  unfolding insert
  insert-placed b k f al pr [] from h P m = record { some = k; fits = f; aligned = al; proper = pr; room = h; later = tt }
  insert-placed b k f al pr (c ∷ cs) from h P m = go (test (ltb b.base c.base)) (insert-placed b k f al pr cs (R.high c.base (len c)))
    where
      mm : (meets R b.base (len b) c ≡ false) × (any (meets R b.base (len b)) cs ≡ false)
      mm = any_false (meets R b.base (len b)) c cs m

      sides : (b.base < c.base → R.high b.base (len b) ≤ R.low c.base (len c)) × (c.base ≤ b.base → R.high c.base (len c) ≤ R.low b.base (len b))
      sides = apart b.base (len b) c k f P.fits mm.0

      go : Test (ltb b.base c.base)
          → (R.high c.base (len c) ≤ R.low b.base (len b) → Placed R (R.high c.base (len c)) cs → any (meets R b.base (len b)) cs ≡ false → Placed R (R.high c.base (len c)) (insert b cs))
          → Placed R from (cond (ltb b.base c.base) (b ∷ c ∷ cs) (c ∷ insert b cs))
      go (is_true t) ih =
          rw t (record {
            some = k;
            fits = f;
            aligned = al;
            proper = pr;
            room = h;
            later =
                record { some = P.some; fits = P.fits; aligned = P.aligned; proper = P.proper; room = sides.0 (ltb-true b.base c.base t); later = P.later };
          })
      go (is_false t) ih =
          rw t (record {
            some = P.some;
            fits = P.fits;
            aligned = P.aligned;
            proper = P.proper;
            room = P.room;
            later =
                ih (sides.1 (ltb-false b.base c.base t)) P.later mm.1;
          })

  pub remove-placed : (x : ℕ) (bs : List Block) (from : ℕ) → Placed R from bs → Placed R from (remove x bs)
  unfolding remove
  remove-placed x [] from P = tt
  remove-placed x (c ∷ cs) from P = go (has_base x c) (remove-placed x cs (R.high c.base (len c)) P.later)
    where
      go : (t : Bool) → Placed R (R.high c.base (len c)) (remove x cs) → Placed R from (cond t cs (c ∷ remove x cs))
      go true ih = weaken R cs (R.high c.base (len c)) from (omega (arith, low-high c.base (len c) P.fits, P.room)) P.later
      go false ih = record { some = P.some; fits = P.fits; aligned = P.aligned; proper = P.proper; room = P.room; later = ih }

set-true : (n i : ℕ) → set (replicate n true) i true ≡ replicate n true
set-true zero i = refl
set-true (suc n) zero = refl
set-true (suc n) (suc i) = ap (λ (ms : List Bool). true ∷ ms) (set-true n i)

-- a block whose bytes are all written stays as it is
pub mark-all : (a : ℕ) (c : Block) → c.marks ≡ replicate (len c) true → mark_block a c ≡ c
mark-all a c e j =
    record {
      base = c.base;
      marks = (ap (λ (ms : List Bool). set ms (a - c.base) true) e ∙ set-true (len c) (a - c.base) ∙ sym e) j;
      literal = c.literal;
    }

pub mark-proper : (R : Rules) (a : ℕ) (c : Block) → Proper R c → Proper R (mark_block a c)
mark-proper R a c h t =
    let i = a - c.base in (
      (h t).0,
      ap (λ (ms : List Bool). set ms i true) (h t).1 ∙ set-true (len c) i ∙ ap (λ (n : ℕ). replicate n true) (sym (length-set c.marks i true)),
    )

-- marks change neither base nor length, so they need no more of the rules
pub mark-placed : (R : Rules) (a : ℕ) (bs : List Block) (from : ℕ) → Placed R from bs → Placed R from (mark_one a bs)
unfolding mark_one
mark-placed R a [] from P = tt
mark-placed R a (c ∷ cs) from P = go (contains a c) (mark-placed R a cs (R.high c.base (len c)) P.later)
  where
    ls : len (mark_block a c) ≡ len c
    ls = length-set c.marks (a - c.base) true

    go : (t : Bool) → Placed R (R.high c.base (len c)) (mark_one a cs) → Placed R from (cond t (mark_block a c ∷ cs) (c ∷ mark_one a cs))
    go true ih = record { some = rw ls P.some; fits = rw ls P.fits; aligned = P.aligned; proper = mark-proper R a c P.proper; room = rw ls P.room; later = rw ls P.later }
    go false ih = record { some = P.some; fits = P.fits; aligned = P.aligned; proper = P.proper; room = P.room; later = ih }

pub marks-placed : (R : Rules) (n a : ℕ) (bs : List Block) (from : ℕ) → Placed R from bs → Placed R from (mark_all a n bs)
unfolding mark_all
marks-placed R zero a bs from P = P
marks-placed R (suc n) a bs from P = marks-placed R n (suc a) (mark_one a bs) from (mark-placed R a bs from P)

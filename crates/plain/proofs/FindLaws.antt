-- Finding blocks in placed lists. Assumes nothing.
use mathlib.Core.Path.{◌≡◌, refl, sym, ap, ◌∙◌}
use mathlib.Core.Bool.{Bool, true, false, cond, ◌&&◌}
use mathlib.Core.Logic.{◌≢◌}
use mathlib.Core.List.{List, [], ◌∷◌}
use mathlib.Core.Option.{Option, none, some}
use Prim.Native.Nat.{ℕ, suc, ◌+◌, ◌-◌, ◌≤◌, ◌<◌}
use native.Mathlib.Omega.{arith}
use lib.ListN.{length-set}
use lib.Dec.{leb}
use borrow.Author.Tests.{le-leb, lt-leb, leb-true, eqb-false}
use Rattle.number.proofs.TestLaws.{Test, is_true, is_false, test, and-true, same_test, not-both, false_of}
use Rattle.plain.specs.Block.{Block, len, contains, has_base, mark_block}
use Rattle.plain.specs.Blocks.{find, mark_one}
use Rattle.plain.specs.Rules.{Rules, Proper, Placed, Sound}
use Rattle.plain.proofs.BlockLaws.{contains-true, true-contains}

abbrev pub keep_if : (Block → Bool) → Option Block → Option Block
keep_if p none = none
keep_if p (some b) = cond (p b) (some b) none

-- whoever is so holds the address
abbrev pub At : ℕ → (Block → Bool) → Type 0
At a p = (c : Block) → 1 ≤ len c → p c ≡ true → contains a c ≡ true

module _ (R : Rules) (G : Sound R) where
  pub none_below : (bs : List Block) (from a : ℕ) (p : Block → Bool) → Placed R from bs → a < from → At a p → find p bs ≡ none
  unfolding find
  none_below [] from a p P h i = refl
  none_below (c ∷ cs) from a p P h i =
      rw (no-c) (none_below cs (R.high c.base (len c)) a p P.later (omega (arith, lo, hi)) i)
    where
      lo : R.low c.base (len c) ≤ c.base
      lo = G.low_base c.base (len c) P.fits

      hi : c.base + len c ≤ R.high c.base (len c)
      hi = G.high_end c.base (len c)

      no-c : p c ≡ false
      no-c = false_of (p c) (λ e. omega (arith, contains-true a c (i c P.some e), lo, P.room, h))

  -- what holds an address is found where the address is
  pub find_at : (bs : List Block) (from a : ℕ) (p : Block → Bool) → Placed R from bs → At a p → find p bs ≡ keep_if p (find (contains a) bs)
  unfolding find
  find_at [] from a p P i = refl
  find_at (c ∷ cs) from a p P i = go (test (contains a c)) (find_at cs (R.high c.base (len c)) a p P.later i)
    where
      go : Test (contains a c) → find p cs ≡ keep_if p (find (contains a) cs)
          → cond (p c) (some c) (find p cs) ≡ keep_if p (cond (contains a c) (some c) (find (contains a) cs))
      go (is_true e) ih =
          rw (e, none_below cs (R.high c.base (len c)) a p P.later (omega (arith, contains-true a c e, G.high_end c.base (len c))) i)
      go (is_false e) ih = rw (e, false_of (p c) (λ q. not-both (contains a c) (i c P.some q) e), ih)

  pub record Facts (q : Block → Bool) (b : Block) : Type 0 where
    pub so : q b ≡ true
    pub some : 1 ≤ len b
    pub fits : R.fits b.base (len b) ≡ true
    pub aligned : R.aligned b.base ≡ true
    pub proper : Proper R b

  pub find-facts : (bs : List Block) (from : ℕ) (q : Block → Bool) (b : Block) → Placed R from bs → find q bs ≡ some b → Facts q b
  unfolding find
  find-facts [] from q b P e = absurd (let z : ◌≡◌ {A = ℕ} 0 1 = cc in omega arith)
  find-facts (c ∷ cs) from q b P e = go (test (q c)) (find-facts cs (R.high c.base (len c)) q b P.later)
    where
      go : Test (q c) → (find q cs ≡ some b → Facts q b) → Facts q b
      go (is_true t) ih =
          let s : c ≡ b = cc in
          rw (← s) (record { so = t; some = P.some; fits = P.fits; aligned = P.aligned; proper = P.proper })
      go (is_false t) ih = ih (rw t at e)

  pub none-outside : (bs : List Block) (from a : ℕ) → Placed R from bs → R.inside a ≡ false → find (contains a) bs ≡ none
  unfolding find
  none-outside [] from a P o = refl
  none-outside (c ∷ cs) from a P o =
      let h : contains a c ≡ false =
      false_of (contains a c) (λ e. let h = contains-true a c e in not-both (R.inside a) (G.in_inside c.base (len c) a P.fits h.0 (omega arith)) o) in
      rw h (none-outside cs (R.high c.base (len c)) a P.later o)

  -- the block at one address is the block at each other address that it holds
  pub find-other : (bs : List Block) (a f : ℕ) (b : Block) → Placed R 0 bs → find (contains a) bs ≡ some b → contains f b ≡ true → find (contains f) bs ≡ some b
  find-other bs a f b P e h = go (find (contains f) bs) (sym there ∙ here)
    where
      p : Block → Bool
      p d = contains a d && contains f d

      at_a : At a p
      at_a c k w = (and-true (contains a c) (contains f c) w).0

      at_f : At f p
      at_f c k w = (and-true (contains a c) (contains f c) w).1

      here : find p bs ≡ some b
      here = find_at bs 0 a p P at_a ∙ rw (e, (find-facts bs 0 (contains a) b P e).so, h)

      there : find p bs ≡ keep_if p (find (contains f) bs)
      there = find_at bs 0 f p P at_f

      go : (o : Option Block) → keep_if p o ≡ some b → o ≡ some b
      go none q = absurd (let z : ◌≡◌ {A = ℕ} 0 1 = cc in omega arith)
      go (some c) q = go2 (p c) q
        where
          go2 : (t : Bool) → ◌≡◌ {A = Option Block} (cond t (some c) none) (some b) → ◌≡◌ {A = Option Block} (some c) (some b)
          go2 true q = q
          go2 false q = absurd (let z : ◌≡◌ {A = ℕ} 0 1 = cc in omega arith)

  -- a block that is found begins no lower than the list
  pub find-from : (bs : List Block) (from : ℕ) (q : Block → Bool) (b : Block) → Placed R from bs → find q bs ≡ some b → from ≤ b.base
  unfolding find
  find-from [] from q b P e = absurd (let z : ◌≡◌ {A = ℕ} 0 1 = cc in omega arith)
  find-from (c ∷ cs) from q b P e = go (test (q c)) (find-from cs (R.high c.base (len c)) q b P.later)
    where
      lo : R.low c.base (len c) ≤ c.base
      lo = G.low_base c.base (len c) P.fits

      hi : c.base + len c ≤ R.high c.base (len c)
      hi = G.high_end c.base (len c)

      go : Test (q c) → (find q cs ≡ some b → R.high c.base (len c) ≤ b.base) → from ≤ b.base
      go (is_true t) ih = let s : c ≡ b = cc in rw (← s) (omega (arith, lo, P.room))
      go (is_false t) ih = omega (arith, ih (rw t at e), lo, hi, P.room)

  -- the first block from its own base on
  pub first-here : (bs : List Block) (from a : ℕ) (b : Block) → Placed R from bs → find (contains a) bs ≡ some b → b.base ≡ a → find (λ c. leb a c.base) bs ≡ some b
  unfolding find
  first-here [] from a b P e z = e
  first-here (c ∷ cs) from a b P e z = go (test (contains a c)) (first-here cs (R.high c.base (len c)) a b P.later)
    where
      go : Test (contains a c) → (find (contains a) cs ≡ some b → b.base ≡ a → find (λ d. leb a d.base) cs ≡ some b)
          → cond (leb a c.base) (some c) (find (λ d. leb a d.base) cs) ≡ some b
      go (is_true t) ih =
          let s : c ≡ b = cc in
          rw (s, le-leb a b.base (omega arith))
      go (is_false t) ih =
          let e' : find (contains a) cs ≡ some b = rw t at e in
          let f : R.high c.base (len c) ≤ b.base = find-from cs (R.high c.base (len c)) (contains a) b P.later e' in
          rw (lt-leb a c.base (omega (arith, f, G.high_end c.base (len c), P.some))) (ih e' z)

  pub none-top : (bs : List Block) (from a : ℕ) → Placed R from bs → R.top ≤ a → find (λ c. leb a c.base) bs ≡ none
  unfolding find
  none-top [] from a P h = refl
  none-top (c ∷ cs) from a P h =
      let i : R.inside c.base ≡ true = G.in_inside c.base (len c) c.base P.fits (omega arith) (omega (arith, P.some)) in
      rw (lt-leb a c.base (omega (arith, G.in_top c.base i))) (none-top cs (R.high c.base (len c)) a P.later h)

-- where no block begins at a, the search from a and from the address above are one
pub first-up : (bs : List Block) (a : ℕ) → find (has_base a) bs ≡ none → find (λ c. leb a c.base) bs ≡ find (λ c. leb (suc a) c.base) bs
unfolding find
first-up [] a e = refl
first-up (c ∷ cs) a e = go (test (has_base a c)) (first-up cs a)
  where
    go : Test (has_base a c) → (find (has_base a) cs ≡ none → find (λ d. leb a d.base) cs ≡ find (λ d. leb (suc a) d.base) cs)
        → cond (leb a c.base) (some c) (find (λ d. leb a d.base) cs) ≡ cond (leb (suc a) c.base) (some c) (find (λ d. leb (suc a) d.base) cs)
    go (is_true t) ih = absurd (let z : ◌≡◌ {A = ℕ} 0 1 = cc in omega arith)
    go (is_false t) ih =
        let s : leb a c.base ≡ leb (suc a) c.base =
        same_test (leb a c.base) (leb (suc a) c.base)
        (λ h. let x : a ≤ c.base = leb-true a c.base h in let y : c.base ≢ a = eqb-false c.base a t in le-leb (suc a) c.base (omega arith))
        (λ h. let x : suc a ≤ c.base = leb-true (suc a) c.base h in le-leb a c.base (omega arith)) in
        rw (s, ih (rw t at e))

-- a marked list has a block of the same place and length where there was one
pub mark-find : (a f : ℕ) (bs : List Block) (b : Block) → find (contains f) bs ≡ some b
    → (d : Block) × (find (contains f) (mark_one a bs) ≡ some d) × (d.base ≡ b.base) × (len d ≡ len b)
unfolding find mark_one
mark-find a f [] b e = absurd (let z : ◌≡◌ {A = ℕ} 0 1 = cc in omega arith)
mark-find a f (c ∷ cs) b e = go (contains a c) (test (contains f c)) (mark-find a f cs b)
  where
    ls : len (mark_block a c) ≡ len c
    ls = length-set c.marks (a - c.base) true

    hs : contains f (mark_block a c) ≡ contains f c
    hs = same_test (contains f (mark_block a c)) (contains f c)
        (λ t. let h = contains-true f (mark_block a c) t in true-contains f c h.0 (omega (arith, h.1, ls)))
        (λ t. let h = contains-true f c t in true-contains f (mark_block a c) h.0 (omega (arith, h.1, ls)))

    go : (s : Bool) → Test (contains f c) → (find (contains f) cs ≡ some b → (d : Block) × (find (contains f) (mark_one a cs) ≡ some d) × (d.base ≡ b.base) × (len d ≡ len b))
        → (d : Block) × (find (contains f) (cond s (mark_block a c ∷ cs) (c ∷ mark_one a cs)) ≡ some d) × (d.base ≡ b.base) × (len d ≡ len b)
    go true (is_true t) ih = let s : c ≡ b = cc in (mark_block a c, rw (hs, t), ap (λ (d : Block). d.base) s, ls ∙ ap (λ (d : Block). len d) s)
    go true (is_false t) ih = (b, rw (hs, t) (rw t at e), refl, refl)
    go false (is_true t) ih = let s : c ≡ b = cc in (c, rw t, ap (λ (d : Block). d.base) s, ap (λ (d : Block). len d) s)
    go false (is_false t) ih = let r = ih (rw t at e) in (r.0, rw t r.1, r.2, r.3)

-- A placed list seen place by place: a block that joins, goes or is marked changes the places that it covers, and no others.
-- Assumes nothing.
use mathlib.Core.Path.{◌≡◌, refl}
use mathlib.Core.Bool.{Bool, true, false, cond}
use mathlib.Core.List.{List, [], ◌∷◌}
use mathlib.Core.Option.{Option, none, some}
use Prim.Native.Nat.{ℕ, ◌≤◌, ◌<◌}
use native.Mathlib.Omega.{arith}
use lib.Dec.{ltb}
use borrow.Author.Tests.{lt-ltb, ne_eqb, eq-eqb}
use Rattle.number.proofs.TestLaws.{Test, is_true, is_false, test, not-both, false_of}
use Rattle.plain.specs.Block.{Block, len, contains, mark_block}
use Rattle.plain.specs.Blocks.{find, any, Has, here, there, insert, remove, mark_one}
use Rattle.plain.specs.Rules.{Rules, meets, Placed, Sound}
use Rattle.plain.specs.Layer.{layer}
use Rattle.plain.proofs.KeptLaws.{any_false}
use Rattle.plain.proofs.FindLaws.{keep_if}
use Rattle.plain.proofs.ListLaws.{find-has}

-- what is known of a block of a placed list
pub record Listed (R : Rules) (from : ℕ) (b : Block) : Type 0 where
  pub some : 1 ≤ len b
  pub fits : R.fits b.base (len b) ≡ true
  pub aligned : R.aligned b.base ≡ true
  pub room : from ≤ R.low b.base (len b)

-- place s stands for position `pos s`: a block covers places of its footprint alone
abbrev pub InFoot : Rules → (Block → ℕ → Bool) → (ℕ → ℕ) → Type 0
InFoot R covers pos =
    (b : Block) (s : ℕ) → Listed R 0 b → covers b s ≡ true
    → (R.low b.base (len b) ≤ pos s) × (pos s < R.high b.base (len b))

-- what a block makes of place s, or z where there is none
abbrev pub own_of : {X : Type 0} → (Block → ℕ → X) → X → ℕ → Option Block → X
own_of own z s none = z
own_of own z s (some b) = own b s

module _ (R : Rules) (S : Sound R) where
  high-low : (b : Block) (from : ℕ) → Listed R from b → from ≤ R.high b.base (len b)
  high-low b from l = omega (arith, l.room, S.low_base b.base (len b) l.fits, S.high_end b.base (len b))

  first : (c : Block) (cs : List Block) (from : ℕ) → Placed R from (c ∷ cs) → Listed R from c
  first c cs from P = record { some = P.some; fits = P.fits; aligned = P.aligned; room = P.room }

  lower : (b : Block) (from less : ℕ) → less ≤ from → Listed R from b → Listed R less b
  lower b from less h l = record { some = l.some; fits = l.fits; aligned = l.aligned; room = omega (arith, l.room) }

  front : (c : Block) (cs : List Block) (from : ℕ) → Placed R from (c ∷ cs) → Listed R 0 c
  front c cs from P = lower c from 0 (omega arith) (first c cs from P)

  -- the blocks of a placed list, one by one
  pub listed : {b : Block} {bs : List Block} (from : ℕ) → Placed R from bs → Has b bs → Listed R from b
  listed from P (here {bs = bs}) = first _ bs from P
  listed {b} from P (there {c = c} {bs = cs} h) =
      lower b (R.high c.base (len c)) from (high-low c from (first c cs from P)) (listed (R.high c.base (len c)) P.later h)

  module _ (covers : Block → ℕ → Bool) (pos : ℕ → ℕ) (F : InFoot R covers pos) (s : ℕ) where
    -- a block that is listed at or after `from` covers no place before it
    misses : (c : Block) (from : ℕ) → Listed R from c → pos s < from → covers c s ≡ false
    misses c from l h = false_of (covers c s) (λ e. omega (arith, l.room, F c s (lower c from 0 (omega arith) l) e))

    -- a later block and an earlier one do not cover the same place
    no_cover : (c b : Block) → Listed R 0 c → Listed R (R.high c.base (len c)) b → covers c s ≡ true → covers b s ≡ false
    no_cover c b lc lb e = misses b (R.high c.base (len c)) lb (F c s lc e).1

    -- whoever is so covers s: it is found among those that cover s
    pub find-cover : (bs : List Block) (from : ℕ) (p : Block → Bool) → Placed R from bs
        → ((c : Block) → Listed R 0 c → p c ≡ true → covers c s ≡ true) → find p bs ≡ keep_if p (find (λ c. covers c s) bs)
    unfolding find
    find-cover [] from p P i = refl
    find-cover (c ∷ cs) from p P i = go (test (covers c s)) (find-cover cs (R.high c.base (len c)) p P.later i)
      where
        none-later : (ds : List Block) (g : ℕ) → Placed R g ds → pos s < g → find p ds ≡ none
        none-later [] g Q h = refl
        none-later (d ∷ ds) g Q h =
            let k = first d ds g Q in
            rw (false_of (p d) (λ e. not-both (covers d s) (i d (lower d g 0 (omega arith) k) e) (misses d g k h)))
            (none-later ds (R.high d.base (len d)) Q.later (omega (arith, high-low d g k)))

        go : Test (covers c s) → find p cs ≡ keep_if p (find (λ c. covers c s) cs)
            → cond (p c) (some c) (find p cs) ≡ keep_if p (cond (covers c s) (some c) (find (λ c. covers c s) cs))
        go (is_true e) ih = rw (e, none-later cs (R.high c.base (len c)) P.later (F c s (front c cs from P) e).1)
        go (is_false e) ih = rw (e, false_of (p c) (λ q. not-both (covers c s) (i c (front c cs from P) q) e), ih)

    -- no place of a footprint is covered by a block that does not meet it
    apart : (b l : ℕ) (c : Block) → Listed R 0 c → meets R b l c ≡ false → R.low b l ≤ pos s → pos s < R.high b l → covers c s ≡ false
    unfolding meets
    apart b l c k n x y = false_of (covers c s) (λ e.
        let q = F c s k e in
        not-both (meets R b l c)
        (rw (lt-ltb (R.low b l) (R.high c.base (len c)) (omega arith), lt-ltb (R.low c.base (len c)) (R.high b l) (omega arith))) n)

    -- the order in which two such blocks are asked does not matter
    swap : {X : Type 0} (c b : Block) (x y r : X) → (covers c s ≡ true → covers b s ≡ false)
        → cond (covers c s) x (cond (covers b s) y r) ≡ cond (covers b s) y (cond (covers c s) x r)
    swap c b x y r h = go (test (covers c s))
      where
        go : Test (covers c s) → cond (covers c s) x (cond (covers b s) y r) ≡ cond (covers b s) y (cond (covers c s) x r)
        go (is_true e) = rw (e, h e)
        go (is_false e) = rw e

    module _ {X : Type 0} (own : Block → ℕ → X) (z : X) where
      -- what the block that covers s makes of it
      pub layer-find : (bs : List Block) → layer covers own z bs s ≡ own_of own z s (find (λ c. covers c s) bs)
      unfolding layer find
      layer-find [] = refl
      layer-find (c ∷ cs) = rw (layer-find cs) (go (covers c s))
        where
          go : (t : Bool) → cond t (own c s) (own_of own z s (find (λ d. covers d s) cs)) ≡ own_of own z s (cond t (some c) (find (λ d. covers d s) cs))
          go true = refl
          go false = refl

      -- below a placed list there is nothing
      pub layer-low : (bs : List Block) (from : ℕ) → Placed R from bs → pos s < from → layer covers own z bs s ≡ z
      unfolding layer
      layer-low [] from P h = refl
      layer-low (c ∷ cs) from P h =
          let l = first c cs from P in
          rw (misses c from l h) (layer-low cs (R.high c.base (len c)) P.later (omega (arith, high-low c from l)))

      -- where no block covers it there is nothing
      pub layer-none : (bs : List Block) (from : ℕ) → Placed R from bs → ((c : Block) → Listed R 0 c → covers c s ≡ false) → layer covers own z bs s ≡ z
      unfolding layer
      layer-none [] from P h = refl
      layer-none (c ∷ cs) from P h = rw (h c (front c cs from P)) (layer-none cs (R.high c.base (len c)) P.later h)

      -- nor in a footprint that no block meets
      pub layer-apart : (b l : ℕ) (bs : List Block) (from : ℕ) → Placed R from bs → any (meets R b l) bs ≡ false
          → R.low b l ≤ pos s → pos s < R.high b l → layer covers own z bs s ≡ z
      unfolding layer
      layer-apart b l [] from P m x y = refl
      layer-apart b l (c ∷ cs) from P m x y =
          let n = any_false (meets R b l) c cs m in
          rw (apart b l c (front c cs from P) n.0 x y) (layer-apart b l cs (R.high c.base (len c)) P.later n.1 x y)

      -- a listed block makes its own places
      pub layer-has : {b : Block} {bs : List Block} (from : ℕ) → Placed R from bs → Has b bs → covers b s ≡ true → layer covers own z bs s ≡ own b s
      unfolding layer
      layer-has from P here e = rw e
      layer-has {b} from P (there {c = c} {bs = cs} h) e =
          let l = listed (R.high c.base (len c)) P.later h in
          let n : covers c s ≡ false = false_of (covers c s) (λ q. not-both (covers b s) e (no_cover c b (front c cs from P) l q)) in
          rw n (layer-has (R.high c.base (len c)) P.later h e)

      -- a block joins
      pub layer-insert : (b : Block) (bs : List Block) (from : ℕ) → Listed R 0 b → Placed R from bs → any (meets R b.base (len b)) bs ≡ false
          → layer covers own z (insert b bs) s ≡ layer covers own z (b ∷ bs) s
      unfolding insert layer
      layer-insert b [] from l P m = refl
      layer-insert b (c ∷ cs) from l P m =
          let n = any_false (meets R b.base (len b)) c cs m in
          go (ltb b.base c.base) (test (covers b s)) (test (covers c s)) n.0 (layer-insert b cs (R.high c.base (len c)) l P.later n.1)
        where
          go : (t : Bool) → Test (covers b s) → Test (covers c s) → meets R b.base (len b) c ≡ false
              → layer covers own z (insert b cs) s ≡ layer covers own z (b ∷ cs) s
              → layer covers own z (cond t (b ∷ c ∷ cs) (c ∷ insert b cs)) s ≡ layer covers own z (b ∷ c ∷ cs) s
          go true x y n ih = refl
          go false (is_true x) (is_true y) n ih =
              let f = F b s l x in
              absurd (not-both (covers c s) y (apart b.base (len b) c (front c cs from P) n f.0 f.1))
          go false (is_true x) (is_false y) n ih = rw (y, ih, x)
          go false (is_false x) y n ih = rw (ih, x)

      -- a block goes
      pub layer-remove : {b : Block} {bs : List Block} (from : ℕ) → Placed R from bs → Has b bs
          → layer covers own z (remove b.base bs) s ≡ cond (covers b s) z (layer covers own z bs s)
      unfolding layer remove
      layer-remove {b} from P (here {bs = bs}) = rw (eq-eqb b.base b.base refl) (go (test (covers b s)))
        where
          go : Test (covers b s) → layer covers own z bs s ≡ cond (covers b s) z (cond (covers b s) (own b s) (layer covers own z bs s))
          go (is_true x) =
              rw x (layer-low bs (R.high b.base (len b)) P.later (F b s (front b bs from P) x).1)
          go (is_false x) = rw x
      layer-remove {b} from P (there {c = c} {bs = cs} h) =
          let l = listed (R.high c.base (len c)) P.later h in
          rw (
            ne_eqb c.base b.base (λ e. omega (arith, l.room, S.low_base b.base (len b) l.fits, S.high_end c.base (len c), P.some)),
            layer-remove (R.high c.base (len c)) P.later h,
          )
          (swap c b (own c s) z (layer covers own z cs s) (no_cover c b (front c cs from P) l))

      -- a byte of a block counts as written
      pub layer-mark : (p : ℕ) (b : Block) (bs : List Block) (from : ℕ) → Placed R from bs → find (contains p) bs ≡ some b
          → covers (mark_block p b) s ≡ covers b s
          → layer covers own z (mark_one p bs) s ≡ cond (covers b s) (own (mark_block p b) s) (layer covers own z bs s)
      unfolding layer mark_one find
      layer-mark p b [] from P e k = absurd (let n : ◌≡◌ {A = ℕ} 0 1 = cc in omega arith)
      layer-mark p b (c ∷ cs) from P e k = go (test (contains p c)) (layer-mark p b cs (R.high c.base (len c)) P.later)
        where
          twice : (t : Bool) (x y r : X) → cond t x r ≡ cond t x (cond t y r)
          twice true x y r = refl
          twice false x y r = refl

          go : Test (contains p c)
              → (find (contains p) cs ≡ some b → covers (mark_block p b) s ≡ covers b s → layer covers own z (mark_one p cs) s ≡ cond (covers b s) (own (mark_block p b) s) (layer covers own z cs s))
              → layer covers own z (cond (contains p c) (mark_block p c ∷ cs) (c ∷ mark_one p cs)) s
              ≡ cond (covers b s) (own (mark_block p b) s) (cond (covers c s) (own c s) (layer covers own z cs s))
          go (is_true t) ih =
              let q : c ≡ b = cc in
              rw (t, q, k) (twice (covers b s) (own (mark_block p b) s) (own b s) (layer covers own z cs s))
          go (is_false t) ih =
              let f : find (contains p) cs ≡ some b = rw t at e in
              let l = listed (R.high c.base (len c)) P.later (find-has (contains p) cs b f).0 in
              rw (t, ih f k) (swap c b (own c s) (own (mark_block p b) s) (layer covers own z cs s) (no_cover c b (front c cs from P) l))

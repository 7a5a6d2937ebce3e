-- The ways to record on the plain list: to record a block and then mark all its bytes is to record it as written. Assumes nothing.
use mathlib.Core.Path.{◌≡◌, refl, sym, ap, ◌∙◌}
use mathlib.Core.Bool.{Bool, true, false, cond, not, ◌&&◌}
use mathlib.Core.List.{List, [], ◌∷◌, ◌++◌}
use mathlib.Core.Option.{none, some}
use Prim.Native.Nat.{ℕ, zero, suc, ◌+◌, ◌-◌, ◌≤◌, ◌<◌}
use native.Mathlib.Omega.{arith}
use native.Mathlib.Nat.{sub_self}
use lib.ListN.{set, replicate, length-set, length-replicate, get_or-replicate}
use lib.Dec.{ltb}
use borrow.Author.Tests.{ltb-true, ltb-false, ne_eqb}
use Rattle.number.specs.Bits.{bit}
use Rattle.number.proofs.TestLaws.{Test, is_true, is_false, test, and-true, and_false_r, false_of}
use Rattle.types.specs.declared.Beginning.{Beginning}
use Rattle.types.specs.declared.Beginning.TheVariants.{Written}
use Rattle.plain.specs.Block.{Block, len, starts_written, starts_literal, begun, contains, holds, is_written, mark_block}
use Rattle.plain.specs.Blocks.{find, found, any, insert, mark_one, mark_all}
use Rattle.plain.specs.Rules.{Rules, Placed, Sound, meets}
use Rattle.plain.specs.Call.{begin, written, ask, valid, answer, yes_no, number, done, first_of, by_rules}
use Rattle.plain.specs.PlainList.{by_list, plain_step}
use Rattle.plain.proofs.BlockLaws.{contains-true, true-contains, true-holds, holds-one}
use Rattle.plain.proofs.FindLaws.{find_at, find-facts}
use Rattle.plain.proofs.KeptLaws.{any_false, base-inside, apart}
use Rattle.plain.proofs.RunLaws.{Joins, begin-joins, keep-begin, number-first}

-- ---- the marks of one block

-- n marks are set from mark i on, one after the other
unfoldable pub set_many : (ms : List Bool) (i n : ℕ) → List Bool
set_many ms i zero = ms
set_many ms i (suc n) = set_many (set ms i true) (suc i) n

set-later : (x : Bool) (ms : List Bool) (i n : ℕ) → set_many (x ∷ ms) (suc i) n ≡ x ∷ set_many ms i n
unfolding set_many
set-later x ms i zero = refl
set-later x ms i (suc n) = set-later x (set ms i true) (suc i) n

-- whatever they all were before
pub set_all : (w : Bool) (l : ℕ) → set_many (replicate l w) 0 l ≡ replicate l true
unfolding set_many
set_all w zero = refl
set_all w (suc l) = set-later true (replicate l w) 0 l ∙ ap (λ (ms : List Bool). true ∷ ms) (set_all w l)

-- ---- a block that joined a list

any-insert : (p : Block → Bool) (b : Block) (bs : List Block) → p b ≡ true → any p (insert b bs) ≡ true
unfolding find insert
any-insert p b [] e = rw e
any-insert p b (c ∷ cs) e = go (ltb b.base c.base) (test (p c)) (any-insert p b cs e)
  where
    go : (t : Bool) → Test (p c) → any p (insert b cs) ≡ true → any p (cond t (b ∷ c ∷ cs) (c ∷ insert b cs)) ≡ true
    go true s ih = rw e
    go false (is_true h) ih = rw h
    go false (is_false h) ih = rw h ih

-- where no listed block is so, the one that joined is found
find-insert : (p : Block → Bool) (b : Block) (bs : List Block) → p b ≡ true → any p bs ≡ false → find p (insert b bs) ≡ some b
unfolding find insert
find-insert p b [] e m = rw e
find-insert p b (c ∷ cs) e m = let n = any_false p c cs m in go (ltb b.base c.base) n.0 (find-insert p b cs e n.1)
  where
    go : (t : Bool) → p c ≡ false → find p (insert b cs) ≡ some b → find p (cond t (b ∷ c ∷ cs) (c ∷ insert b cs)) ≡ some b
    go true n ih = rw e
    go false n ih = rw n ih

-- a byte that no listed block holds is marked in the one that joined
mark-insert : (a : ℕ) (b : Block) (bs : List Block) → contains a b ≡ true → any (contains a) bs ≡ false
    → mark_one a (insert b bs) ≡ insert (mark_block a b) bs
unfolding insert mark_one
mark-insert a b [] e m = rw e
mark-insert a b (c ∷ cs) e m =
    let n = any_false (contains a) c cs m in go (ltb b.base c.base) n.0 (mark-insert a b cs e n.1)
  where
    go : (t : Bool) → contains a c ≡ false → mark_one a (insert b cs) ≡ insert (mark_block a b) cs
        → mark_one a (cond t (b ∷ c ∷ cs) (c ∷ insert b cs)) ≡ cond t (mark_block a b ∷ c ∷ cs) (c ∷ insert (mark_block a b) cs)
    go true n ih = rw e
    go false n ih = rw (n, ih)

-- so is each byte of a range, since marks change neither base nor length
marks-insert : (n a : ℕ) (b : Block) (bs : List Block) → b.base ≤ a → a + n ≤ b.base + len b
    → ((x : ℕ) → contains x b ≡ true → any (contains x) bs ≡ false)
    → mark_all a n (insert b bs) ≡ insert (record { base = b.base; marks = set_many b.marks (a - b.base) n; literal = b.literal }) bs
unfolding mark_all set_many
marks-insert zero a b bs h k alone = refl
marks-insert (suc n) a b bs h k alone =
    rw (mark-insert a b bs here (alone a here)) (marks-insert n (suc a) c bs (omega arith) (omega (arith, ls)) still ∙ rw e)
  where
    c : Block
    c = mark_block a b

    ls : len c ≡ len b
    ls = length-set b.marks (a - b.base) true

    e : suc a - b.base ≡ suc (a - b.base)
    e = omega arith

    here : contains a b ≡ true
    here = true-contains a b h (omega arith)

    still : (x : ℕ) → contains x c ≡ true → any (contains x) bs ≡ false
    still x i = let f = contains-true x c i in alone x (true-contains x b f.0 (omega (arith, f, ls)))

-- ---- one call, and then the other

module _ (R : Rules) (G : Sound R) where
  -- blocks whose footprints do not meet share no byte
  no_share_lem : (b l : ℕ) → 1 ≤ l → R.fits b l ≡ true → (bs : List Block) (from : ℕ) → Placed R from bs → any (meets R b l) bs ≡ false
      → (x : ℕ) → b ≤ x → x < b + l → any (contains x) bs ≡ false
  unfolding find
  no_share_lem b l k f [] from P m x u v = refl
  no_share_lem b l k f (c ∷ cs) from P m x u v = rw no-c (no_share_lem b l k f cs (R.high c.base (len c)) P.later mm.1 x u v)
    where
      mm : (meets R b l c ≡ false) × (any (meets R b l) cs ≡ false)
      mm = any_false (meets R b l) c cs m

      sides : (b < c.base → R.high b l ≤ R.low c.base (len c)) × (c.base ≤ b → R.high c.base (len c) ≤ R.low b l)
      sides = apart R G b l c k f P.fits mm.0

      go : (c.base ≤ x) × (x < c.base + len c) → Test (ltb b c.base) → ⊥
      go h (is_true t) = omega (arith, h, sides.0 (ltb-true b c.base t), G.high_end b l, G.low_base c.base (len c) P.fits)
      go h (is_false t) = omega (arith, h, sides.1 (ltb-false b c.base t), G.high_end c.base (len c), G.low_base b l f)

      no-c : contains x c ≡ false
      no-c = false_of (contains x c) (λ e. go (contains-true x c e) (test (ltb b c.base)))

  begin-step : (h : Beginning) (b l : ℕ) (bs : List Block) → first_of (by_rules R (begin h b l) ++ by_list R (begin h b l) bs) ≡ 0
      → plain_step R (begin h b l) bs ≡ (insert (begun h b l) bs, done)
  unfolding plain_step
  begin-step h b l bs e = rw e

  -- the block that was recorded is the one that is found
  begin-found : (h : Beginning) (b l : ℕ) (bs : List Block) → Placed R 0 bs → Joins R h b l bs → (x : ℕ) → b ≤ x → x < b + l
      → find (contains x) (insert (begun h b l) bs) ≡ some (begun h b l)
  begin-found h b l bs P j x p q =
      find-insert (contains x) (begun h b l) bs (true-contains x (begun h b l) p (omega (arith, length-replicate l (starts_written h))))
      (no_share_lem b l j.some j.fits bs 0 P j.alone x p q)

  written_step : (h : Beginning) → starts_literal h ≡ false → (b l : ℕ) (bs : List Block) → Placed R 0 bs → Joins R h b l bs
      → plain_step R (written b l) (insert (begun h b l) bs) ≡ (insert (begun Written b l) bs, done)
  unfolding plain_step
  written_step h nl b l bs P j =
      rw (ne_eqb l 0 (omega (arith, j.some)), base-inside R G b l j.some j.fits, held, plainly, marked, nl, sub_self b, set_all (starts_written h) l)
    where
      ln : len (begun h b l) ≡ l
      ln = length-replicate l (starts_written h)

      held : any (holds b l) (insert (begun h b l) bs) ≡ true
      held = any-insert (holds b l) (begun h b l) bs (true-holds b l (begun h b l) (omega arith) (omega (arith, ln)))

      alone : (x : ℕ) → contains x (begun h b l) ≡ true → any (contains x) bs ≡ false
      alone x i = let h = contains-true x (begun h b l) i in no_share_lem b l j.some j.fits bs 0 P j.alone x h.0 (omega (arith, h, ln))

      -- the one block that holds the range is no literal
      plainly : any (λ c. holds b l c && c.literal) (insert (begun h b l) bs) ≡ false
      plainly =
          let p : Block → Bool = λ c. holds b l c && c.literal in
          ap found (find_at R G (insert (begun h b l) bs) 0 b p (keep-begin R G h b l bs P j) (λ c n w. holds-one b l c j.some (and-true (holds b l c) c.literal w).0))
          ∙ rw (begin-found h b l bs P j b (omega arith) (omega (arith, j.some)), and_false_r (holds b l (begun h b l)) (starts_literal h) nl)

      marked : mark_all b l (insert (begun h b l) bs)
          ≡ insert (record { base = b; marks = set_many (replicate l (starts_written h)) (b - b) l; literal = starts_literal h }) bs
      marked = marks-insert l b (begun h b l) bs (omega arith) (omega (arith, ln)) alone

  ask-found : (x : ℕ) (bs : List Block) (c : Block) → R.inside x ≡ true → find (contains x) bs ≡ some c
      → (plain_step R (ask x) bs).1 ≡ answer 0 c.base (len c) (x - c.base) (bit (is_written c x))
  unfolding plain_step
  ask-found x bs c i f = rw (i, f)

  -- where a recording is accepted, and not of a literal, written of the whole block leaves what recording it as written does
  pub begin-written : (h : Beginning) → starts_literal h ≡ false → (b l : ℕ) (bs : List Block) → Placed R 0 bs
      → number (plain_step R (begin h b l) bs).1 ≡ 0
      → plain_step R (written b l) (plain_step R (begin h b l) bs).0 ≡ (insert (begun Written b l) bs, done)
  begin-written h nl b l bs P e =
      let z : first_of (by_rules R (begin h b l) ++ by_list R (begin h b l) bs) ≡ 0 = sym (number-first R (begin h b l) bs) ∙ e in
      rw (begin-step h b l bs z) (written_step h nl b l bs P (begin-joins R h b l bs z))

  -- and what ask answers of each of its bytes right after it
  pub begin-ask : (h : Beginning) (b l : ℕ) (bs : List Block) → Placed R 0 bs → number (plain_step R (begin h b l) bs).1 ≡ 0 → (x : ℕ) → b ≤ x → x < b + l
      → (plain_step R (ask x) (plain_step R (begin h b l) bs).0).1 ≡ answer 0 b l (x - b) (bit (starts_written h))
  begin-ask h b l bs P e x p q =
      let z : first_of (by_rules R (begin h b l) ++ by_list R (begin h b l) bs) ≡ 0 = sym (number-first R (begin h b l) bs) ∙ e in
      rw (begin-step h b l bs z) (asked (begin-joins R h b l bs z))
    where
      asked : Joins R h b l bs → (plain_step R (ask x) (insert (begun h b l) bs)).1 ≡ answer 0 b l (x - b) (bit (starts_written h))
      asked j = ask-found x (insert (begun h b l) bs) (begun h b l) (G.in_inside b l x j.fits p q) (begin-found h b l bs P j x p q)
          ∙ rw (length-replicate l (starts_written h), get_or-replicate l (x - b) (starts_written h) false (omega arith))

  valid-found : (x : ℕ) (bs : List Block) (c : Block) → Placed R 0 bs → find (contains x) bs ≡ some c
      → (plain_step R (valid true x 1 x) bs).1 ≡ answer 0 (bit (not c.literal)) 0 0 0
  unfolding plain_step
  valid-found x bs c P f =
      let p : Block → Bool = λ b. holds x 1 b && contains x b && not (true && b.literal) in
      let h = contains-true x c (find-facts R G bs 0 (contains x) c P f).so in
      rw (
        find_at R G bs 0 x p P (λ b n w. (and-true (holds x 1 b) (contains x b) (and-true (holds x 1 b && contains x b) (not b.literal) w).0).1),
        f,
        true-holds x 1 c h.0 (omega arith),
        true-contains x c h.0 h.1,
      )
      (go c.literal)
    where
      go : (t : Bool) → yes_no (found (cond (not t) (some c) none)) ≡ answer 0 (bit (not t)) 0 0 0
      go true = refl
      go false = refl

  -- and what valid answers of them
  pub begin-valid : (h : Beginning) (b l : ℕ) (bs : List Block) → Placed R 0 bs → number (plain_step R (begin h b l) bs).1 ≡ 0 → (x : ℕ) → b ≤ x → x < b + l
      → (plain_step R (valid true x 1 x) (plain_step R (begin h b l) bs).0).1 ≡ answer 0 (bit (not (starts_literal h))) 0 0 0
  begin-valid h b l bs P e x p q =
      let z : first_of (by_rules R (begin h b l) ++ by_list R (begin h b l) bs) ≡ 0 = sym (number-first R (begin h b l) bs) ∙ e in
      let j = begin-joins R h b l bs z in
      rw (begin-step h b l bs z)
      (valid-found x (insert (begun h b l) bs) (begun h b l) (keep-begin R G h b l bs P j) (begin-found h b l bs P j x p q))

-- Each call keeps the plain list placed and gives no 8; what holds of each call holds of every list of calls. Assumes nothing.
use mathlib.Core.Path.{◌≡◌, refl, sym, ap}
use mathlib.Core.Bool.{Bool, true, false, cond, not, ◌&&◌}
use mathlib.Core.List.{List, [], ◌∷◌, ◌++◌}
use mathlib.Core.Logic.{◌≢◌}
use mathlib.Core.Option.{Option, none, some}
use Prim.Native.Nat.{ℕ, zero, suc, ◌≤◌}
use native.Mathlib.Omega.{arith}
use lib.ListN.{replicate, length-replicate}
use lib.Dec.{leb, eqb}
use borrow.Author.Tests.{eqb-false}
use Rattle.number.specs.Parts.{Each}
use Rattle.number.proofs.TestLaws.{Test, is_true, is_false, test, and-true, not-both, false_of}
use Rattle.types.specs.declared.Beginning.{Beginning}
use Rattle.types.specs.declared.Beginning.TheVariants.{Unwritten, Written, Literal}
use Rattle.plain.specs.Block.{Block, len, starts_written, starts_literal, begun, contains, has_base}
use Rattle.plain.specs.Blocks.{find, any, insert}
use Rattle.plain.specs.Rules.{Rules, Proper, Placed, Sound, meets}
use Rattle.plain.specs.Call.{Call, clear, begin, free, remove, written, ask, valid, initialised, next, audit, place, Answer, number, Refusal, first_of, unless, allows, is_stack, by_rules}
use Rattle.plain.specs.PlainList.{by_list, list_after, list_answer, ask_of, next_of, plain_step}
use Rattle.plain.specs.Run.{run}
use Rattle.plain.proofs.KeptLaws.{insert-placed, remove-placed, marks-placed}
use Rattle.plain.proofs.AnswerLaws.{place-0}

-- ---- the placing rules hold after each call

-- what an accepted recording says of the block that begins
pub record Joins (R : Rules) (h : Beginning) (b l : ℕ) (bs : List Block) : Type 0 where
  pub some : 1 ≤ l
  pub fits : R.fits b l ≡ true
  pub aligned : R.aligned b ≡ true
  pub alone : any (meets R b l) bs ≡ false
  pub proper : Proper R (begun h b l)

-- a literal that is allowed is the stack's, and begins with every byte written
pub begun-proper : (R : Rules) (h : Beginning) (b l : ℕ) → not (starts_literal h && R.heap b) ≡ true → Proper R (begun h b l)
begun-proper R Unwritten b l e t = absurd (not-both false t refl)
begun-proper R Written b l e t = absurd (not-both false t refl)
begun-proper R Literal b l e t = (false_of (R.heap b) (λ x. not-both false (rw x at e) refl), ap (λ (n : ℕ). replicate n true) (sym (length-replicate l true)))

pub begin-joins : (R : Rules) (h : Beginning) (b l : ℕ) (bs : List Block) → first_of (by_rules R (begin h b l) ++ by_list R (begin h b l) bs) ≡ 0 → Joins R h b l bs
begin-joins R h b l bs = go (test (eqb l 0)) (test (allows R h b l)) (test (R.aligned b)) (test (any (meets R b l) bs))
  where
    go : Test (eqb l 0) → Test (allows R h b l) → Test (R.aligned b) → Test (any (meets R b l) bs)
        → ◌≡◌ {A = ℕ} (cond (eqb l 0) 3 (cond (not (allows R h b l)) 4 (cond (not (R.aligned b)) 5 (cond (any (meets R b l) bs) 6 0)))) 0 → Joins R h b l bs
    go (is_true n) f a m e = absurd (omega (arith, rw n at e))
    go (is_false n) (is_false f) a m e = absurd (omega (arith, rw (n, f) at e))
    go (is_false n) (is_true f) (is_false a) m e = absurd (omega (arith, rw (n, f, a) at e))
    go (is_false n) (is_true f) (is_true a) (is_true m) e = absurd (omega (arith, rw (n, f, a, m) at e))
    go (is_false n) (is_true f) (is_true a) (is_false m) e =
        let k : l ≢ 0 = eqb-false l 0 n in
        let t = and-true (R.fits b l) (not (starts_literal h && R.heap b)) f in
        record { some = omega arith; fits = t.0; aligned = a; alone = m; proper = begun-proper R h b l t.1 }

-- an accepted free, but of 0, is of a heap block's base, an accepted remove of a stack block's
pub free-accepted : (R : Rules) (x : ℕ) (bs : List Block) → first_of (by_rules R (free (suc x)) ++ by_list R (free (suc x)) bs) ≡ 0
    → (R.inside (suc x) ≡ true) × (is_stack R (suc x) ≡ false) × (any (has_base (suc x)) bs ≡ true)
free-accepted R x bs = go (R.inside (suc x)) (is_stack R (suc x)) (any (has_base (suc x)) bs)
  where
    go : (i s b : Bool) → ◌≡◌ {A = ℕ} (cond (not i) 4 (cond s 15 (cond (not b) 7 0))) 0 → (i ≡ true) × (s ≡ false) × (b ≡ true)
    go true false true e = (refl, refl, refl)
    go true false false e = absurd (omega arith)
    go true true b e = absurd (omega arith)
    go false s b e = absurd (omega arith)

pub remove-accepted : (R : Rules) (x : ℕ) (bs : List Block) → first_of (by_rules R (remove x) ++ by_list R (remove x) bs) ≡ 0
    → (is_stack R x ≡ true) × (any (has_base x) bs ≡ true)
remove-accepted R x bs = go (is_stack R x) (any (has_base x) bs)
  where
    go : (s b : Bool) → ◌≡◌ {A = ℕ} (cond (not s) 4 (cond (not b) 7 0)) 0 → (s ≡ true) × (b ≡ true)
    go true true e = (refl, refl)
    go true false e = absurd (omega arith)
    go false b e = absurd (omega arith)

module _ (R : Rules) (G : Sound R) where
  pub keep-begin : (h : Beginning) (b l : ℕ) (bs : List Block) → Placed R 0 bs → Joins R h b l bs → Placed R 0 (insert (begun h b l) bs)
  keep-begin h b l bs P j =
      let ln : len (begun h b l) ≡ l = length-replicate l (starts_written h) in
      insert-placed R G (begun h b l) (rw ln j.some) (rw ln j.fits) j.aligned j.proper bs 0 (omega arith) P (rw ln j.alone)

  keep-after : (c : Call) (bs : List Block) → Placed R 0 bs → first_of (by_rules R c ++ by_list R c bs) ≡ 0 → Placed R 0 (list_after c bs)
  keep-after clear bs P e = tt
  keep-after (begin h b l) bs P e = keep-begin h b l bs P (begin-joins R h b l bs e)
  keep-after (free zero) bs P e = P
  keep-after (free (suc x)) bs P e = remove-placed R G (suc x) bs 0 P
  keep-after (remove x) bs P e = remove-placed R G x bs 0 P
  keep-after (written a n) bs P e = marks-placed R n a bs 0 P
  keep-after (ask a) bs P e = P
  keep-after (valid w a n from) bs P e = P
  keep-after (initialised a n) bs P e = P
  keep-after (next a) bs P e = P
  keep-after audit bs P e = P
  keep-after (place l k) bs P e = P

  pub keep : (c : Call) (bs : List Block) → Placed R 0 bs → Placed R 0 (plain_step R c bs).0
  unfolding plain_step
  keep c bs P = go (first_of (by_rules R c ++ by_list R c bs)) refl
    where
      go : (k : ℕ) → first_of (by_rules R c ++ by_list R c bs) ≡ k → Placed R 0 (unless k bs (list_after c bs, list_answer R c bs)).0
      go zero e = keep-after c bs P e
      go (suc k) e = P

-- ---- number 8 is never given

abbrev No8 : List Refusal → Type 0
No8 rs = Each (λ (r : Refusal). r.0 ≢ 8) rs

first-8 : (rs : List Refusal) → No8 rs → first_of rs ≢ 8
first-8 [] h = omega arith
first-8 (r ∷ rs) h = go r.1 (first-8 rs h.1)
  where
    go : (t : Bool) → first_of rs ≢ 8 → cond t r.0 (first_of rs) ≢ 8
    go true k = h.0
    go false k = k

listed-8 : (R : Rules) (c : Call) (bs : List Block) → No8 (by_rules R c ++ by_list R c bs)
listed-8 R clear bs = tt
listed-8 R (begin h b l) bs = (omega arith, (omega arith, (omega arith, (omega arith, tt))))
listed-8 R (free zero) bs = tt
listed-8 R (free (suc x)) bs = (omega arith, (omega arith, (omega arith, tt)))
listed-8 R (remove x) bs = (omega arith, (omega arith, tt))
listed-8 R (written a n) bs = (omega arith, (omega arith, (omega arith, (omega arith, tt))))
listed-8 R (ask a) bs = (omega arith, (omega arith, tt))
listed-8 R (valid w a n from) bs = (omega arith, tt)
listed-8 R (initialised a n) bs = (omega arith, tt)
listed-8 R (next a) bs = (omega arith, tt)
listed-8 R audit bs = tt
listed-8 R (place l k) bs = (omega arith, (omega arith, tt))

-- an accepted call has number 0
pub accepted-0 : (R : Rules) (c : Call) (bs : List Block) → number (list_answer R c bs) ≡ 0
accepted-0 R clear bs = refl
accepted-0 R (begin h b l) bs = refl
accepted-0 R (free x) bs = refl
accepted-0 R (remove x) bs = refl
accepted-0 R (written a n) bs = refl
accepted-0 R (ask a) bs = go (find (contains a) bs)
  where
    go : (o : Option Block) → number (ask_of a o) ≡ 0
    go none = refl
    go (some b) = refl
accepted-0 R (valid w a n from) bs = refl
accepted-0 R (initialised a n) bs = refl
accepted-0 R (next a) bs = go (find (λ b. leb a b.base) bs)
  where
    go : (o : Option Block) → number (next_of o) ≡ 0
    go none = refl
    go (some b) = refl
accepted-0 R audit bs = refl
accepted-0 R (place l k) bs = place-0 R.segment l k (R.gaps bs)

-- the number of an answer is the first that holds, where that of an accepted call is 0
pub unless-number : {S : Type 0} (k : ℕ) (s : S) (r : S × Answer) → number r.1 ≡ 0 → number (unless k s r).1 ≡ k
unless-number zero s r e = e
unless-number (suc k) s r e = refl

pub number-first : (R : Rules) (c : Call) (bs : List Block) → number (plain_step R c bs).1 ≡ first_of (by_rules R c ++ by_list R c bs)
unfolding plain_step
number-first R c bs = unless-number (first_of (by_rules R c ++ by_list R c bs)) bs (list_after c bs, list_answer R c bs) (accepted-0 R c bs)

pub never-8 : (R : Rules) (c : Call) (bs : List Block) → number (plain_step R c bs).1 ≢ 8
never-8 R c bs = rw (number-first R c bs) (first-8 (by_rules R c ++ by_list R c bs) (listed-8 R c bs))

-- ---- whole lists of calls

-- where each call does on a view what it does on the state behind it, and keeps the state good, so does every list of calls
module _ {C A X S : Type 0} (view : X → S) (Good : X → Type 0) (act : C → S → S × A) (plainly : C → X → X × A)
    (same : (c : C) (x : X) → Good x → act c (view x) ≡ (view (plainly c x).0, (plainly c x).1))
    (keeps : (c : C) (x : X) → Good x → Good (plainly c x).0) where
  pub run-same : (cs : List C) (x : X) → Good x → run (λ (s : S). s) act (view x) cs ≡ run view plainly x cs
  unfolding run
  run-same [] x h = refl
  run-same (c ∷ cs) x h = rw (same c x h, run-same cs (plainly c x).0 (keeps c x h))

-- what holds of each answer holds of each in a run
module _ {C A X S : Type 0} (view : X → S) (act : C → X → X × A) (ok : A → Type 0) (each : (c : C) (x : X) → ok (act c x).1) where
  pub run-each : (cs : List C) (x : X) → Each (λ (r : A × S). ok r.0) (run view act x cs)
  unfolding run
  run-each [] x = tt
  run-each (c ∷ cs) x = (each c x, run-each cs (act c x).0)

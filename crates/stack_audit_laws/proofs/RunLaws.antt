-- Many turns of the audit's loop at once: over bytes that are zero, and over bytes of one block. Assumes nothing.
use mathlib.Core.Path.{◌≡◌, refl, sym, ◌∙◌}
use mathlib.Core.Bool.{Bool, true, false, cond}
use mathlib.Core.List.{List}
use Prim.Native.Nat.{ℕ, zero, suc, ◌+◌, ◌-◌, ◌%◌, ◌≤◌, ◌<◌, max}
use native.Mathlib.Omega.{arith}
use native.Mathlib.Numerals.{add-one}
use native.Mathlib.Nat.{add-zero, add-suc, suc-add}
use lib.ListN.{length}
use lib.Dec.{leb, eqb}
use borrow.Author.Tests.{eqb-true, ne_eqb, lt-leb, leb-false}
use Rattle.number.specs.Parts.{at, odd_bytes}
use Rattle.number.proofs.TestLaws.{Test, is_true, is_false, test}
use Rattle.number.proofs.WordLaws.{odds-more}
use Rattle.stack_layout.specs.Code.{short_code, length_from, short_length}
use Rattle.stack_audit_laws.specs.declared.Walk.{Walk}
use Rattle.stack_audit_laws.specs.Turn.{told, current, literal_at, stands, past, after}
use Rattle.stack_audit_laws.specs.Rest.{rest, Kept}
use Rattle.stack_audit_laws.proofs.LoopLaws.{rest-on}
use Rattle.stack_audit_laws.proofs.ClearLaws.{Clear}

-- ---- bytes that are zero

-- no block begins at a zero byte
current-clear : (size : ℕ) (pr se : ℕ → ℕ) (q : ℕ) → pr q ≡ 0 → current size pr se q 0 ≡ 0
unfolding current told short_length length_from short_code
current-clear size pr se q z = rw z (go (leb (q + 0) size))
  where
    go : (t : Bool) → cond {A = ℕ} t 0 0 ≡ 0
    go true = refl
    go false = refl

module _ (P S : List ℕ) (w : Walk) (z : w.len ≡ 0) (y : w.i ≡ 0) where
  clear-one : (q : ℕ) → q < length P → at P q ≡ 0 → at S q ≡ 0 → rest P S q w ≡ rest P S (q + 1) w
  unfolding stands after
  clear-one q h a b =
      rest-on P S q 0 (literal_at (at P) q w.i) w true h (omega arith) (rw z (sym (current-clear (length P) (at P) (at S) q a))) refl
      (rw (a, b)) w (at P q % 2) refl refl refl

  -- n bytes that are zero: the walk goes on past them as it is
  pub clear-run : (n q : ℕ) → Clear P S q (q + n) → rest P S q w ≡ rest P S (q + n) w
  clear-run zero q c = rw (add-zero q)
  clear-run (suc n) q c =
      let z = c.zero q (omega arith) (omega arith) in
      clear-one q (omega (arith, c.to)) z.0 z.1
      ∙ rw (add-one q, add-suc q n, ← suc-add q n) (clear-run n (suc q) (record { from = omega arith; to = omega (arith, c.to); zero = λ i h k. c.zero i (omega arith) (omega arith) }))

-- where the length is 0 no block goes on
pub none-on : (size : ℕ) (pr se : ℕ → ℕ) (q L : ℕ) → 0 ≡ current size pr se q L → L ≡ 0
unfolding current
none-on size pr se q L e = go (test (eqb L 0))
  where
    go : Test (eqb L 0) → L ≡ 0
    go (is_true a) = eqb-true L 0 a
    go (is_false a) = sym (rw a at e)

pub keeps-clear : (size q r : ℕ) (w : Walk) → Kept size q w → q ≤ r → r ≤ size → Kept size r w
keeps-clear size q r w k h l = record { within = l; begun = omega arith; offset = k.offset; few = omega arith; lives = omega arith; marks = omega arith }

-- ---- bytes of a block

-- a block that goes on past n bytes
module _ (w : Walk) (K n m : ℕ) (h : w.i + n < K) where
  past-len : (past w K n m).len ≡ K
  unfolding past
  past-len = rw (lt-leb K (w.i + n) h)

  past-offset : (past w K n m).i ≡ w.i + n
  unfolding past
  past-offset = rw (lt-leb K (w.i + n) h)

  past_more : (x : ℕ) → after (past w K n m) K x ≡ past w K (suc n) (m + x)
  unfolding past after
  past_more x =
      let a : w.i + n + 1 ≡ w.i + suc n = omega arith in
      let b : w.live + n + 1 ≡ w.live + suc n = omega arith in
      let c : w.written + m + x ≡ w.written + (m + x) = omega arith in
      rw (ne_eqb K 0 (λ e. omega arith), lt-leb K (w.i + n) h, add-zero w.blocks, a, b, c)

past_one : (w : Walk) (K x : ℕ) → 0 < K → past w K 1 x ≡ after w K x
unfolding past after
past_one w K x h = rw (ne_eqb K 0 (λ e. omega arith))

current-on : (size : ℕ) (pr se : ℕ → ℕ) (q K : ℕ) → 0 < K → K ≡ current size pr se q K
unfolding current
current-on size pr se q K h = rw (ne_eqb K 0 (λ e. omega arith))

-- the block's first byte stays where it is
literal-on : (pr : ℕ → ℕ) (q i n : ℕ) → literal_at pr q i ≡ literal_at pr (q + n) (i + n)
unfolding literal_at
literal-on pr q i n = let e : q + n - (i + n) ≡ q - i = omega arith in rw e

-- the n bytes from q on are those of a block of length K, a literal or not, from its byte i on
abbrev pub Goes : (P S : List ℕ) (q K i : ℕ) (t : Bool) (n : ℕ) → Type 0
Goes P S q K i t n = (j : ℕ) → j < n → stands (at P (q + j)) (at S (q + j)) K (i + j) t ≡ true

module _ (P S : List ℕ) (q K : ℕ) (t : Bool) (w : Walk) (o : w.i < max w.len 1) (e : K ≡ current (length P) (at P) (at S) q w.len)
    (u : t ≡ literal_at (at P) q w.i) where
  abbrev marked : ℕ → Walk
  marked n = past w K n (odd_bytes (at P) q n)

  -- one byte more
  run_more : (n : ℕ) → w.i + n < K → q + n < length P → stands (at P (q + n)) (at S (q + n)) K (w.i + n) t ≡ true
      → rest P S (q + n) (marked n) ≡ rest P S (q + suc n) (marked (suc n))
  run_more n h k s =
      let l = past-len w K n (odd_bytes (at P) q n) h in
      let i = past-offset w K n (odd_bytes (at P) q n) h in
      let x : q + n + 1 ≡ q + suc n = omega arith in
      rest-on P S (q + n) K t (marked n) true k (rw (l, i) (omega arith)) (rw l (current-on (length P) (at P) (at S) (q + n) K (omega arith)))
      (rw i (u ∙ literal-on (at P) q w.i n)) (rw i (sym s))
      (after (marked n) K (at P (q + n) % 2)) (at P (q + n) % 2) refl refl refl
      ∙ rw (x, odds-more (at P) q n, past_more w K n (odd_bytes (at P) q n) h (at P (q + n) % 2))

  -- the walk goes on past them
  pub block_run : (n : ℕ) → w.i + suc n ≤ K → q + suc n ≤ length P → Goes P S q K w.i t (suc n)
      → rest P S q w ≡ rest P S (q + suc n) (past w K (suc n) (odd_bytes (at P) q (suc n)))
  unfolding odd_bytes
  block_run zero h k g =
      let s : stands (at P q) (at S q) K w.i t ≡ true = rw (add-zero, add-zero) at (g 0 (omega arith)) in
      rest-on P S q K t w true (omega arith) o e u (sym s) (past w K 1 (at P q % 2 + 0)) (at P q % 2) refl refl (rw (add-zero (at P q % 2)) (past_one w K (at P q % 2) (omega arith)))
  block_run (suc n) h k g =
      block_run n (omega arith) (omega arith) (λ j l. g j (omega arith)) ∙ run_more (suc n) (omega arith) (omega arith) (g (suc n) (omega arith))

pub keeps-block : (size q K n m : ℕ) (w : Walk) → Kept size q w → 1 ≤ n → w.i + n ≤ K → m ≤ n → q + n ≤ size → Kept size (q + n) (past w K n m)
unfolding past
keeps-block size q K n m w k a b c d = go (test (leb K (w.i + n)))
  where
    go : Test (leb K (w.i + n)) → Kept size (q + n) (past w K n m)
    go (is_true x) = rw x (record { within = omega arith; begun = omega arith; offset = omega arith; few = omega arith; lives = omega arith; marks = omega arith })
    go (is_false x) =
        let y = leb-false K (w.i + n) x in
        rw x (record { within = omega arith; begun = omega arith; offset = omega arith; few = omega arith; lives = omega arith; marks = omega arith })

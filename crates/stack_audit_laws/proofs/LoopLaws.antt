-- What the audit's loop keeps, and what is ahead of it. Assumes nothing.
use mathlib.Core.Path.{◌≡◌, ◌∙◌}
use mathlib.Core.Bool.{Bool, true, false, cond}
use mathlib.Core.List.{List}
use mathlib.Core.Option.{none, some}
use Prim.Native.Nat.{ℕ, suc, ◌+◌, ◌-◌, ◌%◌, ◌≤◌, ◌<◌, max}
use native.Mathlib.Omega.{arith}
use native.Mathlib.Numerals.{add-one}
use lib.ListN.{length}
use lib.Dec.{leb, eqb}
use borrow.Author.Tests.{ne_eqb, eqb-true, leb-false}
use Rattle.number.specs.Bits.{ones}
use Rattle.number.specs.Parts.{at}
use Rattle.number.proofs.TestLaws.{Test, is_true, is_false, test}
use Rattle.plain.specs.Blocks.{total}
use Rattle.plain.specs.Reading.{tally}
use Rattle.plain.specs.Areas.{stack_rules}
use Rattle.plain.specs.Found.{totals}
use Rattle.stack_layout.specs.Walk.{stack_walk}
use Rattle.stack_audit_laws.specs.declared.Walk.{Walk}
use Rattle.stack_audit_laws.specs.Turn.{current, literal_at, stands, past, after}
use Rattle.stack_audit_laws.specs.Rest.{beside, ahead, rest, Kept}
use Rattle.stack_audit_laws.proofs.WalkLaws.{idle, start, turn}

-- the offset is one of the block that goes on or begins
pub offset-in : (size : ℕ) (pr se : ℕ → ℕ) (q i L K : ℕ) → i < max L 1 → K ≡ current size pr se q L → i < max K 1
unfolding current
offset-in size pr se q i L K h e = go (test (eqb L 0))
  where
    go : Test (eqb L 0) → i < max K 1
    go (is_true a) = omega (arith, eqb-true L 0 a)
    go (is_false a) = let x : K ≡ L = rw a at e in omega arith

pub keeps : (size q K m : ℕ) (w v : Walk) → q < size → Kept size q w → w.i < max K 1 → m < 2 → v ≡ after w K m → Kept size (q + 1) v
unfolding after past
keeps size q K m w v h k f g e = rw e (go (test (eqb K 0)) (test (leb K (w.i + 1))))
  where
    go : Test (eqb K 0) → Test (leb K (w.i + 1)) → Kept size (q + 1) (after w K m)
    go (is_true a) b = rw a (record { within = omega arith; begun = omega arith; offset = omega arith; few = omega arith; lives = omega arith; marks = omega arith })
    go (is_false a) (is_true b) = rw (a, b) (record { within = omega arith; begun = omega arith; offset = omega arith; few = omega arith; lives = omega arith; marks = omega arith })
    go (is_false a) (is_false b) =
        let x = leb-false K (w.i + 1) b in
        rw (a, b) (record { within = omega arith; begun = omega arith; offset = omega arith; few = omega arith; lives = omega arith; marks = omega arith })

module _ (P S : List ℕ) where
  pub rest-start : totals (stack_rules 0 (length P)) (stack_walk (length P) (at P) (at S) (length P) 0 0 0 false) ≡ rest P S 0 (record { len = 0; i = 0; blocks = 0; live = 0; written = 0 })
  unfolding rest ahead
  rest-start =
      let e : length P - 0 ≡ length P = omega arith in
      rw (e, idle (length P) (at P) (at S) (length P) 0 0 (literal_at (at P) 0 0)) (start (length P) (at P) (at S) (length P) 0)

  module _ (q K : ℕ) (t : Bool) (w : Walk) (b : Bool) (h : q < length P) (o : w.i < max w.len 1) (e : K ≡ current (length P) (at P) (at S) q w.len)
      (u : t ≡ literal_at (at P) q w.i) (s : b ≡ stands (at P q) (at S q) K w.i t) where
    step : rest P S q w ≡ cond b (rest P S (q + 1) (after w K (at P q % 2))) none
    unfolding rest
    step =
        let n : length P - q ≡ suc (length P - (q + 1)) = omega arith in
        rw (n, s, add-one q) (turn (length P) (at P) (at S) (length P - suc q) q w K t o e u)

    pub rest-on : (v : Walk) (m : ℕ) → b ≡ true → m ≡ at P q % 2 → v ≡ after w K m → rest P S q w ≡ rest P S (q + 1) v
    rest-on v m a c d = step ∙ rw (a, d, c)

    pub rest-bad : b ≡ false → rest P S q w ≡ none
    rest-bad a = step ∙ rw a

  pub rest_end : (q : ℕ) (w : Walk) → length P ≤ q → w.len ≡ 0 → rest P S q w ≡ some (tally 0 w.blocks w.live w.written)
  unfolding rest ahead stack_walk beside total ones
  rest_end q w h z =
      let n : length P - q ≡ 0 = omega arith in
      let u : w.live + (0 + 0) ≡ w.live = omega arith in
      let v : w.written + (0 + 0) ≡ w.written = omega arith in
      let c : w.blocks + 0 + 0 ≡ w.blocks = omega arith in
      rw (n, z, c, u, v)

  pub rest-open : (q : ℕ) (w : Walk) → length P ≤ q → (w.len ≡ 0 → ⊥) → rest P S q w ≡ none
  unfolding rest ahead stack_walk beside
  rest-open q w h z =
      let n : length P - q ≡ 0 = omega arith in
      rw (n, ne_eqb w.len 0 z)

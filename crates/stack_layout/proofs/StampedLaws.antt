-- A block that begins on any stack shadows, an image or not: it is read at its base, and marks of its bytes leave what the marked block would
-- have left. Assumes nothing.
use mathlib.Core.Path.{◌≡◌, sym, ◌∙◌}
use mathlib.Core.Bool.{true, cond}
use mathlib.Core.List.{List, [], ◌∷◌}
use mathlib.Core.Option.{some}
use Prim.Native.Nat.{ℕ, ◌+◌, ◌-◌, ◌/◌, ◌%◌, ◌^◌, ◌≤◌, ◌<◌}
use native.Mathlib.Omega.{arith}
use native.Mathlib.Nat.{sub_self, zero-add}
use lib.ListN.{length, length-set}
use lib.Dec.{eqb}
use borrow.Author.Tests.{le-leb, eqb-true, eqb-false}
use Rattle.number.specs.Parts.{at, over}
use Rattle.number.proofs.TestLaws.{Test, is_true, is_false, test}
use Rattle.number.proofs.BitLaws.{bit-back}
use Rattle.number.proofs.PartLaws.{length_over, over-in, set-over, over-ext}
use Rattle.plain.specs.Block.{Block, len, contains, is_written, mark_block}
use Rattle.plain.specs.Blocks.{find, mark_one}
use Rattle.plain.specs.Rules.{Placed}
use Rattle.plain.specs.Areas.{stack_rules}
use Rattle.plain.specs.Layer.{layer}
use Rattle.plain.specs.Reading.{block}
use Rattle.plain.specs.ShadowCalls.{in_one, is_literal}
use Rattle.plain.proofs.AreaLaws.{stack-span}
use Rattle.plain.proofs.BlockLaws.{contains-true, true-contains}
use Rattle.plain.proofs.StampedLaws.{Stands, Stamped}
use Rattle.stack_layout.specs.Code.{low_bits}
use Rattle.stack_layout.specs.Image.{primary_own, secondary_own, by_block, primary_byte, secondary_byte}
use Rattle.stack_layout.specs.Reading.{stack_reading}
use Rattle.stack_layout.specs.Ops.{StackShadows, with_written, stack_stamp, stack_mark, stack_ops}
use Rattle.stack_layout.proofs.CodeLaws.{low-lt, low-literal}
use Rattle.stack_layout.proofs.ReadingLaws.{read-own}
use Rattle.stack_layout.proofs.ChangeLaws.{primary-here, primary-there, same_byte}

module _ (size : ℕ) (small : size < 256 ^ 4) (s : StackShadows) (fit : (length s.0 ≡ size) × (length s.1 ≡ size)) (b : Block) (t : Stands (stack_rules 0 size) b) where
  abbrev B : ℕ
  B = b.base

  ends : b.base + len b ≤ size
  ends = omega (arith, stack-span 0 size b.base (len b) t.fits)

  alone : Placed (stack_rules 0 size) 0 (b ∷ [])
  alone = record { some = t.some; fits = t.fits; aligned = t.aligned; proper = t.proper; room = omega arith; later = tt }

  -- the bytes of its place are its own
  own-byte : (own : Block → ℕ → ℕ) (l : List ℕ) → length l ≡ size → (q : ℕ) → b.base ≤ q → q < b.base + len b
      → at (over b.base (len b) (by_block own (b ∷ [])) l) q ≡ own b q
  unfolding layer
  own-byte own l k q x y =
      over-in b.base (len b) (by_block own (b ∷ [])) l q (omega (arith, ends)) x y ∙ rw (true-contains q b x y)

  read-base : stack_reading size (at (stack_stamp s b).0) (at (stack_stamp s b).1) b.base
      ≡ block b.base (len b) (b.base - b.base) (low_bits b.literal (is_written b b.base) % 2) (eqb (low_bits b.literal (is_written b b.base) / 2 % 2) 1)
  unfolding stack_stamp primary_own secondary_own
  read-base =
      read-own size small (at (over B (len b) (primary_byte (b ∷ [])) s.0)) (at (over B (len b) (secondary_byte (b ∷ [])) s.1)) B B (len b)
      (low_bits b.literal (is_written b B)) (omega arith) (omega (arith, t.some)) ends (low-lt b.literal (is_written b B))
      (own-byte primary_own s.0 fit.0 B (omega arith) (omega (arith, t.some)))
      (λ q x y. own-byte secondary_own s.1 fit.1 q x y)

  read_one : in_one (len b) (stack_reading size (at (stack_stamp s b).0) (at (stack_stamp s b).1) b.base) ≡ true
  read_one = rw (read-base, sub_self B, zero-add (len b)) (le-leb (len b) (len b) (omega arith))

  read-literal : is_literal (stack_reading size (at (stack_stamp s b).0) (at (stack_stamp s b).1) b.base) ≡ b.literal
  read-literal = rw (read-base, low-literal b.literal (is_written b B)) (bit-back b.literal)

  module _ (p : ℕ) (e : contains p b ≡ true) where
    held : find (contains p) (b ∷ []) ≡ some b
    unfolding find
    held = rw e

    marked-primary : (q : ℕ) → Test (eqb q p) → cond (eqb q p) (with_written (primary_byte (b ∷ []) p)) (primary_byte (b ∷ []) q) ≡ primary_byte (mark_block p b ∷ []) q
    unfolding mark_one
    marked-primary q (is_true c) =
        let d : q ≡ p = eqb-true q p c in rw (c, d) (sym (rw e at (primary-here size (b ∷ []) alone p b held)))
    marked-primary q (is_false c) = rw c (sym (rw e at (primary-there size (b ∷ []) alone p b held q (eqb-false q p c))))

    marked-secondary : (q : ℕ) → secondary_byte (b ∷ []) q ≡ secondary_byte (mark_block p b ∷ []) q
    unfolding mark_one secondary_own
    marked-secondary q =
        sym (rw e at (same_byte size (b ∷ []) alone p b held secondary_own q (λ x. rw (length-set b.marks (p - b.base) true))))

    mark-base : stack_mark (stack_stamp s b) p ≡ stack_stamp s (mark_block p b)
    unfolding stack_mark stack_stamp
    mark-base =
        let h = contains-true p b e in
        rw (
          length-set b.marks (p - b.base) true,
          over-in B (len b) (primary_byte (b ∷ [])) s.0 p (omega (arith, ends, fit.0)) h.0 h.1,
          set-over B (len b) p (with_written (primary_byte (b ∷ []) p)) (primary_byte (b ∷ [])) s.0 h.0 h.1 (omega (arith, ends, fit.0)),
          over-ext B (len b) (λ q. cond (eqb q p) (with_written (primary_byte (b ∷ []) p)) (primary_byte (b ∷ []) q)) (primary_byte (mark_block p b ∷ [])) s.0
              (λ q x y. marked-primary q (test (eqb q p))),
          over-ext B (len b) (secondary_byte (b ∷ [])) (secondary_byte (mark_block p b ∷ [])) s.1 (λ q x y. marked-secondary q),
        )

pub stack-stamped : (size : ℕ) → size < 256 ^ 4
    → Stamped (stack_rules 0 size) (stack_ops size) (λ s. (length s.0 ≡ size) × (length s.1 ≡ size))
unfolding stack_stamp
stack-stamped size small =
    record {
      stamp-fit = λ s k b. (length_over _ _ _ s.0 ∙ k.0, length_over _ _ _ s.1 ∙ k.1);
      stamp-read = λ s k b t. read_one size small s k b t;
      stamp-literal = λ s k b t. read-literal size small s k b t;
      stamp-mark = λ s k b t a e. mark-base size small s k b t a e;
    }

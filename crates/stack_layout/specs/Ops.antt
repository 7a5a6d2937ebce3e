-- The operations on two stack shadows, primary and secondary. Positions. Assumes nothing.
use Rattle.std.specs.Prelude.{Bool, false, ◌&&◌, List, [], ◌∷◌, ℕ, ◌+◌, ◌*◌, ◌/◌, ◌%◌, replicate, set, eqb}
use Rattle.number.specs.Parts.{at, zeros, over}
use Rattle.plain.specs.Block.{Block, len}
use Rattle.plain.specs.Areas.{stack_rules}
use Rattle.plain.specs.Ops.{Ops}
use Rattle.plain.specs.Found.{totals}
use Rattle.stack_layout.specs.Image.{primary_byte, secondary_byte}
use Rattle.stack_layout.specs.Reading.{stack_reading}
use Rattle.stack_layout.specs.Walk.{stack_walk}

-- primary and secondary
abbrev pub StackShadows : Type 0
StackShadows = List ℕ × List ℕ

unfoldable pub stack_vacant : StackShadows → (b l : ℕ) → Bool
stack_vacant s b l = zeros (at s.0) b l && zeros (at s.1) b l

unfoldable pub stack_stamp : StackShadows → Block → StackShadows
stack_stamp s b = (over b.base (len b) (primary_byte (b ∷ [])) s.0, over b.base (len b) (secondary_byte (b ∷ [])) s.1)

unfoldable pub stack_erase : StackShadows → (b l : ℕ) → StackShadows
stack_erase s b l = (over b l (λ q. 0) s.0, over b l (λ q. 0) s.1)

-- a primary byte with its written bit set
abbrev pub with_written : ℕ → ℕ
with_written x = x / 2 * 2 + 1

unfoldable pub stack_mark : StackShadows → (p : ℕ) → StackShadows
stack_mark s p = (set s.0 p (with_written (at s.0 p)), s.1)

unfoldable pub stack_marked : StackShadows → (p : ℕ) → Bool
stack_marked s p = eqb (at s.0 p % 2) 1

abbrev pub stack_ops : (size : ℕ) → Ops StackShadows
stack_ops size =
    record {
      cleared = (replicate size 0, replicate size 0);
      read = λ s p. stack_reading size (at s.0) (at s.1) p;
      vacant = stack_vacant;
      stamp = stack_stamp;
      erase = stack_erase;
      mark = stack_mark;
      marked = stack_marked;
      audit = λ s. totals (stack_rules 0 size) (stack_walk size (at s.0) (at s.1) size 0 0 0 false);
      gaps = λ s. [];
    }

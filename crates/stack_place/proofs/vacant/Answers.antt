-- `stack_place::vacant` meets its contract: an or of two words is zero where the bytes of both are. Assumes nothing.
use mathlib.Core.Path.{◌≡◌, ◌∙◌}
use mathlib.Core.List.{List}
use Prim.Native.Nat.{ℕ}
use lib.Bits.{bit_or}
use lib.Dec.{eqb}
use Rattle.number.specs.Little.{word}
use Rattle.number.specs.Parts.{at}
use Rattle.number.proofs.BitLaws.{or-none}
use Rattle.number.proofs.ZeroLaws.{zero_word}
use Rattle.stack_layout.specs.Ops.{stack_vacant}
use Rattle.stack_place.proofs.vacant.Goals as goal

-- by two words x and y of w bytes, where the length is w
both : (P S : List ℕ) (q n w x y : ℕ) → n ≡ w → x ≡ word (at P) q w → y ≡ word (at S) q w → eqb (bit_or x y) 0 ≡ stack_vacant (P, S) q n
unfolding stack_vacant
both P S q n w x y e f g = rw (e, f, g) (or-none (word (at P) q w) (word (at S) q w) ∙ rw (zero_word (at P) q w, zero_word (at S) q w))

pub returns-in-4 : goal.returns-in-4
returns-in-4 c = both c.args.primary.now c.args.secondary.now c.args.base.0 c.args.len 4 _ _ c.in-4.is c.number_at.ensures c.number_at-in-4.ensures

pub returns-in-8 : goal.returns-in-8
returns-in-8 c = both c.args.primary.now c.args.secondary.now c.args.base.0 c.args.len 8 _ _ c.in-8.is c.eight_at.ensures c.eight_at-in-8.ensures

pub returns-in_default : goal.returns-in_default
unfolding stack_vacant
returns-in_default c = rw (c.zero_at.ensures, c.zero_at-in_default.ensures)

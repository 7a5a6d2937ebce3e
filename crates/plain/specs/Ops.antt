-- The operations on a shadow state, of whatever layout: by addresses, or by positions in a layout's own instance. Assumes nothing.
use Rattle.std.specs.Prelude.{Bool, true, cond, ◌&&◌, List, ℕ, zero, suc}
use Rattle.std.proofs.Math.Option.{Option}
use Rattle.plain.specs.Block.{Block}
use Rattle.plain.specs.Gaps.{Gap}
use Rattle.plain.specs.Rules.{Rules}
use Rattle.plain.specs.Reading.{Reading, nothing, Tally}

pub record Ops (S : Type 0) : Type 0 where
  pub cleared : S
  -- the reading of an address inside the area
  pub read : S → ℕ → Reading
  -- base and length: each shadow byte of the place is zero
  pub vacant : S → ℕ → ℕ → Bool
  -- the shadow bytes of the block's place become what the layout gives for it
  pub stamp : S → Block → S
  -- base and length: each shadow byte of the place becomes zero
  pub erase : S → ℕ → ℕ → S
  -- the written bit of an address is set; is it set
  pub mark : S → ℕ → S
  pub marked : S → ℕ → Bool
  -- the totals, or none where the state is no image
  pub audit : S → Option Tally
  -- the longest runs of all-zero heap segments, in address order
  pub gaps : S → List Gap

module _ {S : Type 0} (O : Ops S) where
  -- the written bits of the n addresses from a on are set
  unfoldable pub mark_range : S → (a n : ℕ) → S
  mark_range s a zero = s
  mark_range s a (suc n) = mark_range (O.mark s a) (suc a) n

  -- the written bit of each of the n addresses from a on is set
  unfoldable pub range_marked : S → (a n : ℕ) → Bool
  range_marked s a zero = true
  range_marked s a (suc n) = O.marked s a && range_marked s (suc a) n

-- the reading of any address: outside the areas it is no block
unfoldable pub read_any : {S : Type 0} → Rules → Ops S → S → ℕ → Reading
read_any R O s a = cond (R.inside a) (O.read s a) nothing

-- What a call of the form with origins does to cells, by addresses, whatever their layout. Assumes nothing.
use Rattle.std.specs.Prelude.{ℕ}

pub record CellOps (C : Type 0) : Type 0 where
  -- every cell is zero
  pub cleared : C
  -- what the cell that an address lies in holds
  pub origin : C → (address : ℕ) → ℕ
  pub referent : C → (address : ℕ) → ℕ
  -- the one half of that cell becomes a number, the other half stays
  pub set_origin : C → (address value : ℕ) → C
  pub set_referent : C → (address value : ℕ) → C
  -- both halves of each cell that touches the block become zero
  pub zeroed : C → (base length : ℕ) → C

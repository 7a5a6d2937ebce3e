-- What the plain list of the form with origins carries after every run: "a live block's origin at its base's cell, a set pointer's referent at its
-- own, zero elsewhere". Assumes nothing.
use Rattle.std.specs.Prelude.{◌≡◌, ◌≢◌, true, false, ℕ, ◌%◌, ◌≤◌, ◌<◌}
use Rattle.plain.specs.Block.{holds, has_base}
use Rattle.plain.specs.Blocks.{any}
use Rattle.plain.specs.Rules.{Rules, Placed}
use Rattle.origins_list.specs.OriginList.{OriginList}

pub record Carries (R : Rules) (x : OriginList) : Type 0 where
  -- the live blocks stand in address order, each fits, and no footprints meet
  pub placed : Placed R 0 x.blocks
  -- each begins at a cell, and has an origin below the counter
  pub based : (b : ℕ) → any (has_base b) x.blocks ≡ true → (b % 4 ≡ 0) × (1 ≤ x.origin b) × (x.origin b < x.counter)
  -- no other cell has one
  pub unbased : (b : ℕ) → any (has_base b) x.blocks ≡ false → x.origin b ≡ 0
  -- no two live blocks have the same
  pub own : (b c : ℕ) → any (has_base b) x.blocks ≡ true → any (has_base c) x.blocks ≡ true → x.origin b ≡ x.origin c → b ≡ c
  -- a pointer is set only in a cell whose four bytes lie in one live block
  pub pointed : (c : ℕ) → x.referent c ≢ 0 → (c % 4 ≡ 0) × (any (holds c 4) x.blocks ≡ true)
  -- to a number below the counter
  pub known : (c : ℕ) → x.referent c < x.counter
  -- origins run from 1 to 4,294,967,295
  pub last : (1 ≤ x.counter) × (x.counter ≤ 4294967296)

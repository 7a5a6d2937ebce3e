-- The totals of what the walk finds, beside what was counted before. Assumes nothing.
use mathlib.Core.Path.{◌≡◌, refl}
use mathlib.Core.Bool.{Bool, true, false}
use mathlib.Core.List.{List, [], ◌∷◌}
use Prim.Native.Nat.{ℕ, suc, ◌+◌}
use native.Mathlib.Omega.{arith}
use lib.ListN.{length}
use Rattle.number.specs.Bits.{bit, ones}
use Rattle.plain.specs.Block.{Block}
use Rattle.plain.specs.Blocks.{total, count, live, written}
use Rattle.plain.specs.Areas.{stack_rules}
use Rattle.plain.specs.Found.{Found, bad, got, goes_on, begins, totals}
use Rattle.stack_audit_laws.specs.Rest.{beside}

pub beside-on : (b l m : ℕ) (t : Bool) (f : Found) → beside b l m (goes_on (t ∷ []) f) ≡ beside b (l + 1) (m + bit t) f
unfolding beside ones
beside-on b l m t bad = refl
beside-on b l m t (got ms bs) =
    let u : l + (suc (length ms) + live bs) ≡ l + 1 + (length ms + live bs) = omega arith in
    let v : m + (bit t + ones ms + written bs) ≡ m + bit t + (ones ms + written bs) = omega arith in
    rw (u, v)

pub beside-begins : (b l m q : ℕ) (u t : Bool) (f : Found) → beside b l m (begins q u (goes_on (t ∷ []) f)) ≡ beside (b + 1) (l + 1) (m + bit t) f
unfolding beside ones total
beside-begins b l m q u t bad = refl
beside-begins b l m q u t (got ms bs) =
    let c : b + (1 + count (λ a. true) bs) ≡ b + 1 + count (λ a. true) bs = omega arith in
    let u : l + (0 + (suc (length ms) + live bs)) ≡ l + 1 + (length ms + live bs) = omega arith in
    let v : m + (0 + (bit t + ones ms + written bs)) ≡ m + bit t + (ones ms + written bs) = omega arith in
    rw (c, u, v)

-- no heap block is found on the stack
no-heap : (bs : List Block) → count (λ a. false) bs ≡ 0
unfolding total
no-heap [] = refl
no-heap (b ∷ bs) = let ih = no-heap bs in omega arith

-- no block goes on where this was found
pub data Unmarked : Found → Type 0 where
  no : Unmarked bad
  yes : {bs : List Block} → Unmarked (got [] bs)

pub begins-unmarked : (q : ℕ) (u : Bool) (f : Found) → Unmarked (begins q u f)
begins-unmarked q u bad = no
begins-unmarked q u (got ms bs) = yes

pub totals-beside : (size : ℕ) {f : Found} → Unmarked f → totals (stack_rules 0 size) f ≡ beside 0 0 0 f
unfolding beside ones
totals-beside size no = refl
totals-beside size (yes {bs}) =
    let c : 0 + count (λ a. true) bs ≡ count (λ a. true) bs = omega arith in
    let u : 0 + (0 + live bs) ≡ live bs = omega arith in
    let v : 0 + (0 + written bs) ≡ written bs = omega arith in
    rw (no-heap bs, c, u, v)

-- Table 1 as the code has it: two constants, with a bit for each code of a first byte and of a last one. Assumes nothing.
use mathlib.Core.Path.{◌≡◌, sym, ap, ◌∙◌}
use Prim.Native.Nat.{ℕ, ◌+◌, ◌-◌, ◌*◌, ◌/◌, ◌%◌, ◌^◌, ◌<◌, ◌≤◌}
use native.Mathlib.Omega.{arith}
use lib.Count.{count_leading_zeros, count_trailing_zeros}
use lib.ListN.{get_or}
use Rattle.number.specs.Parts.{tab}
use Rattle.number.proofs.PartLaws.{get_d-tab}
use Rattle.stack_layout.specs.Code.{short_length, short_offset}
use Rattle.stack_layout.proofs.TableLaws.{decoded}

-- two functions whose tables are computed to be equal
same_at : (f g : ℕ → ℕ) (a n k : ℕ) → tab a n f ≡ tab a n g → a ≤ k → k < a + n → f k ≡ g k
same_at f g a n k e h l =
    let i : k - a < n = omega (arith, h, l) in
    let s : a + (k - a) ≡ k = omega (arith, h) in
    rw s at (sym (get_d-tab n a (k - a) f 0 i) ∙ ap (λ t. get_or t (k - a) 0) e ∙ get_d-tab n a (k - a) g 0 i)

-- the bits of w are at the codes of first bytes: what lies below a code, down to the next of them, is its offset
pub first-bits : (w k : ℕ) → tab 1 36 (λ c. count_leading_zeros 64 (w * 2 ^ (63 - c) % 18446744073709551616)) ≡ tab 1 36 short_offset → 1 ≤ k → k < 37
    → count_leading_zeros 64 (w * 2 ^ (63 - k) % 18446744073709551616) ≡ short_offset k
first-bits w k e h l = same_at (λ c. count_leading_zeros 64 (w * 2 ^ (63 - c) % 18446744073709551616)) short_offset 1 36 k e h (omega (arith, l))

-- the bits of w are at the codes of last bytes
pub last-bits : (w k : ℕ) → tab 1 36 (λ c. short_offset c + count_trailing_zeros 64 (w / 2 ^ c) + 1) ≡ tab 1 36 short_length → 1 ≤ k → k < 37
    → short_offset k + count_trailing_zeros 64 (w / 2 ^ k) + 1 ≡ short_length k
last-bits w k e h l = same_at (λ c. short_offset c + count_trailing_zeros 64 (w / 2 ^ c) + 1) short_length 1 36 k e h (omega (arith, l))

pub length-told : (c : ℕ) → 1 ≤ c → c < 37 → (1 ≤ short_length c) × (short_length c ≤ 8)
length-told c h l = let d = decoded c h (omega (arith, l)) in (d.some, d.most)

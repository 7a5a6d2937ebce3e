-- Bits of a number: bit j has weight 2 to the j. Assumes nothing.
use Rattle.std.specs.Prelude.{Bool, true, false, ◌&&◌, List, [], ◌∷◌, ℕ, zero, suc, ◌+◌, ◌*◌, ◌/◌, ◌%◌, ◌^◌, eqb}
use Rattle.std.specs.Int.Bits.{bit_or}

abbrev pub bit : Bool → ℕ
bit true = 1
bit false = 0

-- bit j of a number
unfoldable pub bit_of : ℕ → ℕ → ℕ
bit_of n j = n / 2 ^ j % 2

-- the number with bit j set
unfoldable pub with_bit : ℕ → ℕ → ℕ
with_bit n j = bit_or n (2 ^ j)

-- the number with the n bits from bit j on set
unfoldable pub with_bits : ℕ → (j n : ℕ) → ℕ
with_bits b j zero = b
with_bits b j (suc n) = with_bits (with_bit b j) (suc j) n

-- the n bits from bit j on are set
unfoldable pub bits_set : ℕ → (j n : ℕ) → Bool
bits_set b j zero = true
bits_set b j (suc n) = eqb (bit_of b j) 1 && bits_set b (suc j) n

-- the number whose bits are these, bit 0 first
unfoldable pub of_bits : List Bool → ℕ
of_bits [] = 0
of_bits (x ∷ xs) = bit x + 2 * of_bits xs

-- how many are true
unfoldable pub ones : List Bool → ℕ
ones [] = 0
ones (x ∷ xs) = bit x + ones xs

-- the ones among the first n bits of a number
unfoldable pub ones_of : ℕ → ℕ → ℕ
ones_of zero b = 0
ones_of (suc n) b = bit_of b n + ones_of n b

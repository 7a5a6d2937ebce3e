-- A segment of the shadow as two numbers, one after the other. Assumes nothing.
use Rattle.std.specs.Prelude.{cond, ℕ, ◌-◌, ltb}
use Rattle.number.specs.Little.{byte_of}

-- byte r of two numbers of W bytes
unfoldable pub pair_byte : (W low high r : ℕ) → ℕ
pair_byte W low high r = cond (ltb r W) (byte_of low r) (byte_of high (r - W))

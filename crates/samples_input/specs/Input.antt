-- What is read of standard input, whatever it has. Assumes nothing.
use Rattle.std.specs.Prelude.{cond, List, Option, Some, None, ◌≢◌, ℕ, ◌<◌, take, eqb}
use Rattle.number.specs.Parts.{Each}
use Rattle.samples_input.specs.declared.Line.{Line}
use Rattle.samples_input.specs.declared.Line.TheVariants as line

-- no byte is a line end
abbrev pub NoEnd : List ℕ → Type 0
NoEnd bytes = Each (λ b. b ≢ 10) bytes

-- a whole line is shorter than the buffer, and no byte of a line is a line end
abbrev pub IsLine : (size : ℕ) → (buffer : List ℕ) → Option Line → Type 0
IsLine size buffer None = Unit {0}
IsLine size buffer (Some (line.Whole n)) = (n < size) × NoEnd (take n buffer)
IsLine size buffer (Some line.Long) = NoEnd buffer

-- what the bytes before the end of the input are
abbrev pub last_line : (n : ℕ) → Option Line
last_line n = cond (eqb n 0) None (Some (line.Whole n))

-- What writing bytes into a buffer does. Assumes nothing.
use Rattle.std.specs.Prelude.{◌≡◌, cond, List, [], ◌∷◌, ℕ, ◌+◌, length, take, eqb}
use Rattle.std.proofs.lemmas.List.Edits.{sets}
use Rattle.plain.specs.Call.{Answer, answer}
use Rattle.calls_format.specs.Lines.{answer_fields}

-- these bytes stand from a place on, every other byte stays, and the place after them is told
pub record Wrote (bytes : List ℕ) (place told : ℕ) (entry exit : List ℕ) : Type 0 where
  pub ends : told ≡ place + length bytes
  pub stores : exit ≡ sets entry place bytes

-- the answer fields of a line; none on a refusal
abbrev pub fields_told : (kind : ℕ) → Answer → List ℕ
fields_told k (answer n a b c d) = cond (eqb n 0) (take (answer_fields k) (a ∷ b ∷ c ∷ d ∷ [])) []

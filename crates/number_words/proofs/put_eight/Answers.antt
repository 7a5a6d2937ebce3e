-- `number_words::put_eight` meets its contract. Assumes nothing.
use Rattle.std.proofs.Common.{◌∙◌}
use native.Mathlib.Nat.{div-div-eq-div-mul}
use Rattle.number.specs.Little.{bytes_of}
use Rattle.number_words.proofs.put_eight.Goals as goal

pub returns : goal.returns
unfolding bytes_of
returns c = c.copy_from_slice.ensures.after ∙ c.to_le_bytes.ensures ∙ simp div-div-eq-div-mul

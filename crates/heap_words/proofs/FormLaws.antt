-- What holds at the sizes of both forms holds at those of any. Assumes nothing.
use Rattle.std.proofs.Common.{ℕ, ◌≡◌, ◌+◌, refl}
use Rattle.map.specs.declared.Form.{Form}
use Rattle.map.specs.declared.Form.TheVariants.{Player, Desk}
use Rattle.map.specs.FormMap.{number_size, segment_size}

-- of the bytes of a number and of a segment: 4 and 8 at the player, 8 and 16 at the desk
pub by_form : (P : ℕ → ℕ → Type 0) → P 4 8 → P 8 16 → (form : Form) → P (number_size form) (segment_size form)
by_form P p d Player = p
by_form P p d Desk = d

-- a segment is two numbers
pub segment_two : (form : Form) → segment_size form ≡ number_size form + number_size form
segment_two Player = refl
segment_two Desk = refl

-- How far on from a position its byte of written bits lies, in either form. Assumes nothing.
use Rattle.std.specs.Prelude.{◌≡◌, ℕ, ◌+◌}
use Rattle.map.specs.declared.Form.{Form}
use Rattle.map.specs.FormMap.{number_size, segment_size}
use Rattle.heap_layout.specs.Reading.{bits_place}

-- own bytes on from q, and that of the position 8 on next bytes on
abbrev pub LieAhead : Form → (q own next : ℕ) → Type 0
LieAhead form q own next =
    (q + own ≡ bits_place (number_size form) (segment_size form) q) × (q + next ≡ bits_place (number_size form) (segment_size form) (q + 8))

-- A map under a form: the form's number width and segment, and the four numbers of the map. Assumes nothing.
use Rattle.std.specs.Prelude.{ℕ, ◌+◌, ◌≤◌}
use Rattle.std.proofs.Common.{arith}
use Rattle.map.specs.declared.Map.{Map}
use Rattle.map.specs.declared.Form.{Form}
use Rattle.map.specs.declared.Form.TheVariants.{Player, Desk}

-- S-8: "any number width of four bytes or more and any segment of at least twice that"
pub record FormMap : Type 0 where
  -- the bytes of a number in the heap shadow, and of a heap segment
  pub width : ℕ
  pub segment : ℕ
  pub wide : 4 ≤ width
  pub two : width + width ≤ segment
  pub heap_start : ℕ
  pub heap_size : ℕ
  pub stack_start : ℕ
  pub stack_size : ℕ

-- the map alone
abbrev pub areas : FormMap → Map
areas m = record { heap_start = m.heap_start; heap_size = m.heap_size; stack_start = m.stack_start; stack_size = m.stack_size }

-- ---- the two sizes that each form supplies

abbrev pub number_size : Form → ℕ
number_size Player = 4
number_size Desk = 8

abbrev pub segment_size : Form → ℕ
segment_size Player = 8
segment_size Desk = 16

pub wide_of : (form : Form) → 4 ≤ number_size form
wide_of Player = omega arith
wide_of Desk = omega arith

pub two_of : (form : Form) → number_size form + number_size form ≤ segment_size form
two_of Player = omega arith
two_of Desk = omega arith

abbrev pub under : Form → Map → FormMap
under form m =
    record {
      width = number_size form;
      segment = segment_size form;
      wide = wide_of form;
      two = two_of form;
      heap_start = m.heap_start;
      heap_size = m.heap_size;
      stack_start = m.stack_start;
      stack_size = m.stack_size;
    }

-- the player: numbers of four bytes, segments of 8; the desk: of eight, and of 16
abbrev pub player : Map → FormMap
player = under Player

abbrev pub desk : Map → FormMap
desk = under Desk

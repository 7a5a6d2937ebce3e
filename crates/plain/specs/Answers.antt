-- What the code's answers stand for. Assumes nothing.
use Rattle.std.proofs.Math.Option.{Option, none, some}
use Rattle.std.specs.Prelude as std
use Rattle.std.specs.Prelude.{◌/◌, ◌%◌, eqb, Some, None}
use Rattle.plain.specs.declared.Reading as code
use Rattle.plain.specs.declared.Reading.TheVariants.{Nothing, Block, Damaged}
use Rattle.plain.specs.declared.Totals.{Totals}
use Rattle.plain.specs.Reading.{Reading, nothing, block, damaged, Tally, tally}

abbrev pub reading_of : code.Reading → Reading
reading_of Nothing = nothing
reading_of (Block base length offset bits) = block base.0 length offset (bits % 2) (eqb (bits / 2 % 2) 1)
reading_of Damaged = damaged

-- an audit of the heap, and one of the stack: none where the shadow is no image
abbrev pub heap_tally : std.Option Totals → Option Tally
heap_tally (Some t) = some (tally t.blocks 0 t.live t.written)
heap_tally None = none

abbrev pub stack_tally : std.Option Totals → Option Tally
stack_tally (Some t) = some (tally 0 t.blocks t.live t.written)
stack_tally None = none

-- `stack_table::short_after` meets its contract: what is left is computed from the rule. Assumes nothing.
use mathlib.Core.Path.{refl}
use lib.Count.{count_trailing_zeros}
use Rattle.number.specs.Parts.{tab}
use Rattle.stack_layout.specs.Code.{short_code, length_from, short_length, short_offset}
use Rattle.stack_laws.proofs.TableLaws.{last-bits}
use Rattle.stack_table.proofs.short_after.Goals as goal

pub returns : goal.returns
unfolding tab count_trailing_zeros short_offset short_length length_from short_code
returns c = last-bits _ c.args.code refl c.requires.0 c.requires.1

-- `stack_table::short_offset` meets its contract: the offsets are computed from the rule. Assumes nothing.
use mathlib.Core.Path.{refl}
use lib.Count.{count_leading_zeros}
use Rattle.number.specs.Parts.{tab}
use Rattle.stack_layout.specs.Code.{short_code, length_from, short_length, short_offset}
use Rattle.stack_laws.proofs.TableLaws.{first-bits}
use Rattle.stack_table.proofs.short_offset.Goals as goal

pub returns : goal.returns
unfolding tab count_leading_zeros short_offset short_length length_from short_code
returns c = first-bits _ c.args.code refl c.requires.0 c.requires.1

-- `calls_records::map_of` meets its contract. Assumes nothing.
use Rattle.calls_format.specs.Records.{request_of}
use borrow.Author.Rules.{rules}
use Rattle.calls_records.proofs.map_of.Goals as goal

pub returns : goal.returns
unfolding request_of
returns c = rw (c.field.ensures, c.field-2.ensures, c.field-3.ensures, c.field-4.ensures)

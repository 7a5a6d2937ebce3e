-- `calls_origins_records::pointer_of` meets its contract. Assumes nothing.
use Rattle.calls_origins_format.specs.Records.{own_call}
use Rattle.calls_origins_records.proofs.pointer_of.Goals as goal

pub returns-in-Point : goal.returns-in-Point
unfolding own_call
returns-in-Point c = rw (c.in-Point.is, c.field.ensures, c.field-2.ensures)

pub returns-in-Copy : goal.returns-in-Copy
unfolding own_call
returns-in-Copy c = rw (c.in-Copy.is, c.field.ensures, c.field-2.ensures)

pub returns-in-Live : goal.returns-in-Live
unfolding own_call
returns-in-Live c = rw (c.in-Live.is, c.field.ensures, c.field-2.ensures)

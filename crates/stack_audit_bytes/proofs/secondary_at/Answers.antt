-- `stack_audit_bytes::secondary_at` meets its contract. Assumes nothing.
use borrow.Author.Tests.{le-leb, lt-leb, lt-ltb, le-ltb}
use Rattle.stack_layout.specs.Code.{piece_byte, secondary_of}
use Rattle.stack_audit_bytes.proofs.secondary_at.Goals as goal

pub returns-then-len-le8 : goal.returns-then-len-le8
unfolding secondary_of
returns-then-len-le8 c = rw (le-leb _ _ c.if-len-le8.true)

pub returns-then-j-lt4 : goal.returns-then-j-lt4
unfolding secondary_of piece_byte
returns-then-j-lt4 c = rw (lt-leb _ _ c.if-len-le8.false, ← c.piece_of-o.ensures.0, lt-ltb _ _ c.if-j-lt4.true) c.byte_of.ensures

pub returns-then-j-lt8 : goal.returns-then-j-lt8
unfolding secondary_of piece_byte
returns-then-j-lt8 c =
    rw (lt-leb _ _ c.if-len-le8.false, ← c.piece_of-o.ensures.0, le-ltb _ _ c.if-j-lt4.false, lt-ltb _ _ c.if-j-lt8.true)
    c.byte_of-then-j-lt8.ensures

pub returns : goal.returns
unfolding secondary_of piece_byte
returns c = rw (lt-leb _ _ c.if-len-le8.false, ← c.piece_of-o.ensures.0, le-ltb _ _ c.if-j-lt4.false, le-ltb _ _ c.if-j-lt8.false)

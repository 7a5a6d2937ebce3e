-- `stack_audit_bytes::byte_of` meets its contract. Assumes nothing.
use Rattle.number.proofs.LittleLaws.{byte_of-shift}
use Rattle.stack_audit_bytes.proofs.byte_of.Goals as goal

pub returns : goal.returns
returns c = byte_of-shift c.args.v c.args.j

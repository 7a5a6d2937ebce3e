-- A record of each kind has a head. Assumes nothing.
use Rattle.std.proofs.Common.{◌≡◌, ◌≤◌, arith}
use Rattle.calls_format.specs.Records.{fields_of}
use Rattle.calls_format.specs.Decoded.{length_of}
use Rattle.calls_kinds.specs.declared.Kind.{Kind}
use Rattle.calls_kinds.specs.declared.Kind.TheVariants.{NewMap, Record, Free, Written, Ask, Valid, Initialised, Next, Audit, RecordWritten, RecordLiteral, ValidRead, Remove}
use Rattle.calls_kinds.specs.Kind.{number_of}

pub head_held : (kind : Kind) → 4 ≤ length_of (number_of kind)
unfolding fields_of
head_held NewMap = omega arith
head_held Record = omega arith
head_held Free = omega arith
head_held Written = omega arith
head_held Ask = omega arith
head_held Valid = omega arith
head_held Initialised = omega arith
head_held Next = omega arith
head_held Audit = omega arith
head_held RecordWritten = omega arith
head_held RecordLiteral = omega arith
head_held ValidRead = omega arith
head_held Remove = omega arith

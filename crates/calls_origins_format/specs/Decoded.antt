-- What the code's requests stand for. Assumes nothing.
use Rattle.std.specs.Prelude as std
use Rattle.std.specs.Prelude.{Some, None}
use Rattle.std.proofs.Math.Option.{Option, none, some}
use Rattle.origins_base.specs.Answers.{pointer_of}
use Rattle.calls_format.specs.Records.{call}
use Rattle.calls_format.specs.Decoded as plain
use Rattle.calls_origins_format.specs.declared.Request as code
use Rattle.calls_origins_format.specs.declared.Request.TheVariants as case
use Rattle.calls_origins_format.specs.Records.{Request, asked}

abbrev pub requested : code.Request → Request
requested (case.Plain r) = asked (plain.requested r)
requested (case.Pointer p) = call (pointer_of p)

-- none where the record is undecodable
abbrev pub decoded_of : std.Option code.Request → Option Request
decoded_of (Some r) = some (requested r)
decoded_of None = none

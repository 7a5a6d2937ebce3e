-- What the search for the next block comes to, as the code tells it. Assumes nothing.
use Rattle.std.specs.Prelude.{Result, Ok, Err}
use Rattle.plain.specs.Call as plain
use Rattle.plain.specs.Call.{answer, refusal}
use Rattle.plain.specs.Reading.{Reading, nothing, block, damaged}
use Rattle.monitor_base.specs.declared.Refusal.{Refusal}
use Rattle.monitor_base.specs.declared.Refusal.TheVariants.{NoBlock, Damaged}
use Rattle.monitor_base.specs.Refusals.{code_of}
use Rattle.monitor_next.specs.declared.Found.{Found}

-- what the definition's climb over addresses ends with
abbrev pub search_of : Reading → Result Found Refusal
search_of nothing = Err NoBlock
search_of (block base length offset written literal) = Ok (record { base = record { 0 = base }; length = length })
search_of damaged = Err Damaged

abbrev pub search_answer : Result Found Refusal → plain.Answer
search_answer (Ok b) = answer 0 b.base.0 b.length 0 0
search_answer (Err r) = refusal (code_of r)

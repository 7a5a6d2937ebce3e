-- What the audits of the two areas come to together. Assumes nothing.
use Rattle.std.specs.Prelude.{◌+◌, ◌≤◌, Option, Some, None}
use Rattle.plain.specs.Call as plain
use Rattle.plain.specs.Call.{answer, refusal}
use Rattle.plain.specs.declared.Totals.{Totals}

-- the heap's audit and the stack's: both are images, or 8
abbrev pub audits_answer : Option Totals → Option Totals → plain.Answer
audits_answer None k = refusal 8
audits_answer (Some h) None = refusal 8
audits_answer (Some h) (Some k) = answer 0 h.blocks k.blocks (h.live + k.live) (h.written + k.written)

-- the sums of the totals fit 32 bits
abbrev pub sums_fit : Option Totals → Option Totals → Type 0
sums_fit None k = Unit {0}
sums_fit (Some h) None = Unit {0}
sums_fit (Some h) (Some k) = (h.live + k.live ≤ 4294967295) × (h.written + k.written ≤ 4294967295)

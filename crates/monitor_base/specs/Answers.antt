-- What the code's answers and calls stand for. Assumes nothing.
use Rattle.std.specs.Prelude.{List, ℕ}
use Rattle.plain.specs.Call as plain
use Rattle.plain.specs.Call.{answer}
use Rattle.shadows.specs.Shadows.{Shadows}
use Rattle.monitor_base.specs.declared.Answer.{Answer}
use Rattle.monitor_base.specs.declared.Call.{Call}
use Rattle.monitor_base.specs.declared.Call.TheVariants as case
use Rattle.monitor_base.specs.declared.PlainCall.{PlainCall}
use Rattle.monitor_base.specs.declared.PlainCall.TheVariants as any
use Rattle.monitor_base.specs.declared.Query.{Query}
use Rattle.monitor_base.specs.declared.Query.TheVariants.{Ask, Valid, Initialised, Next, Audit}
use Rattle.monitor_base.specs.declared.Update.{Update}
use Rattle.monitor_base.specs.declared.Update.TheVariants.{Clear, Begin, Free, Remove, Written}

-- the number and the four fields
abbrev pub answer_of : Answer → plain.Answer
answer_of r = answer r.number r.first r.second r.third r.fourth

-- the three shadows after a call, and its answer
abbrev pub outcome : Answer → (heap primary secondary : List ℕ) → Shadows × plain.Answer
outcome r h p s = ((h, (p, s)), answer_of r)

abbrev pub query_of : Query → plain.Call
query_of (Ask a) = plain.ask a.0
query_of (Valid w a n from) = plain.valid w a.0 n from.0
query_of (Initialised a n) = plain.initialised a.0 n
query_of (Next a) = plain.next a.0
query_of Audit = plain.audit

abbrev pub update_of : Update → plain.Call
update_of Clear = plain.clear
update_of (Begin how base length) = plain.begin how base.0 length
update_of (Free base) = plain.free base.0
update_of (Remove base) = plain.remove base.0
update_of (Written a n) = plain.written a.0 n

abbrev pub call_of : Call → plain.Call
call_of (case.Query q) = query_of q
call_of (case.Update u) = update_of u

abbrev pub any_call_of : PlainCall → plain.Call
any_call_of (any.Call c) = call_of c
any_call_of (any.Place l k) = plain.place l k

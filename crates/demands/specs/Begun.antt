-- Request S-1, the ways to record, what is said of them together. Proved in proofs/Begun.antt. Assumes nothing.
use Rattle.std.specs.Prelude.{◌≡◌, ℕ}
use Rattle.map.specs.FormMap.{FormMap}
use Rattle.plain.specs.Call.{record_block, record_written, written, answer, number}
use Rattle.shadows.specs.Shadows.{Shadows}
use Rattle.monitor_base.specs.Calls.{call}

-- "Answers: those of record": a block that begins written is answered as record answers, for any map, any arguments, any lengths and any bytes
abbrev pub AnswersOfRecord : FormMap → Type 0
AnswersOfRecord m = (b l : ℕ) (s : Shadows) → (call m (record_written b l) s).1 ≡ (call m (record_block b l) s).1

-- "a block whose bytes all count as written": for any map, any arguments, any lengths and any bytes, where record is accepted, written of the
-- whole block is accepted after it, and the two leave the bytes that recording it as written leaves at once
abbrev pub RecordThenWritten : FormMap → Type 0
RecordThenWritten m =
    (b l : ℕ) (s : Shadows) → number (call m (record_block b l) s).1 ≡ 0
    → call m (written b l) (call m (record_block b l) s).0 ≡ ((call m (record_written b l) s).0, answer 0 0 0 0 0)

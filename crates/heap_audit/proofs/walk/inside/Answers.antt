-- `heap_audit::walk::inside` meets its contract. Assumes nothing.
use Rattle.std.proofs.Common.{ℕ, List, ◌≡◌, ◌+◌, ◌*◌, ◌∙◌, arith}
use lib.Count as count
use Rattle.number.specs.Parts.{at}
use Rattle.map.specs.FormMap.{number_size, wide_of}
use Rattle.heap_words.proofs.FormLaws.{segment_two}
use Rattle.heap_audit_laws.specs.declared.Walk.{Walk}
use Rattle.heap_audit_laws.specs.Turn.{Stands, ones_at}
use Rattle.heap_audit_laws.proofs.BitsLaws.{ones-word}
use Rattle.heap_audit_laws.proofs.TurnLaws.{turn-number, turn-bits, turn_last, turn_more}
use Rattle.heap_audit.proofs.walk.inside.Goals as goal

-- the ones of the second number are those of its bytes
counted : (W G : ℕ) {h : List ℕ} {s : ℕ} {w : Walk} {low high m : ℕ} → Stands W G h s w low high → m ≡ count.ones high
    → m ≡ ones_at (at h) (s * G + W) W
counted W G {h} {s} t e = e ∙ rw t.highs (ones-word (at h) t.bytes W (s * G + W))

pub returns-then-low-from : goal.returns-then-low-from
returns-then-low-from c =
    let f = c.args.form in turn-number _ _ (wide_of f) (segment_two f) c.requires.1 c.requires.0 (λ x. omega arith)

pub returns-then-high-bytes-ne0 : goal.returns-then-high-bytes-ne0
returns-then-high-bytes-ne0 c =
    let f = c.args.form in
    turn-bits _ _ (wide_of f) (segment_two f) c.requires.1 c.requires.0 {k = c.min-bytes.result} (omega arith) (omega arith) (λ x. omega arith)

pub returns-then-w-next : goal.returns-then-w-next
returns-then-w-next c =
    let f = c.args.form in
    turn_last _ _ (wide_of f) (segment_two f) c.requires.1 c.requires.0 (omega arith) (omega arith) (omega arith)
    (number_size f) (omega (arith, segment_two f)) (omega arith) (counted _ _ c.requires.1 c.marks.ensures.0) c.marks.ensures.1 (omega arith)

pub returns : goal.returns
returns c =
    let f = c.args.form in
    rw c.segment-segment.ensures
    (turn_more _ _ (wide_of f) (segment_two f) c.requires.1 c.requires.0 (omega arith) (omega arith) (omega arith)
    (number_size f) (omega (arith, segment_two f)) (omega arith) (counted _ _ c.requires.1 c.marks.ensures.0) c.marks.ensures.1 (omega arith))

-- `heap_audit_runs::whole` meets its contract. Assumes nothing.
use Rattle.std.proofs.Common.{ℕ, List, ◌≡◌, ◌+◌, ◌*◌, ◌/◌, ◌%◌, ◌≤◌, ◌<◌, length, arith}
use Rattle.number.specs.Parts.{at}
use Rattle.map.specs.declared.Form.{Form}
use Rattle.map.specs.FormMap.{number_size, segment_size, wide_of}
use Rattle.heap_words.proofs.FormLaws.{segment_two}
use Rattle.heap_audit_laws.specs.declared.Walk.{Walk}
use Rattle.heap_audit_laws.specs.Turn.{Kept}
use Rattle.heap_audit_laws.specs.Runs.{Owned, Passed}
use Rattle.heap_audit_laws.proofs.RunLaws.{owned-few, passed-owned}
use Rattle.heap_audit_runs.proofs.whole.Goals as goal

-- n whole segments that are the block's own, g the bytes of one
few : (form : Form) (f : ℕ → ℕ) (t d n m : ℕ) {g : ℕ} → g ≡ segment_size form → Owned (number_size form) (segment_size form) f t d n m → m ≤ n * g
few form f t d n m e o = rw e (owned-few _ _ f t d n m o)

passed : (form : Form) (n m : ℕ) {h : List ℕ} {s g : ℕ} {w : Walk} → g ≡ segment_size form
    → Owned (number_size form) (segment_size form) (at h) s w.d n m → length h ≤ 131072 → ((q : ℕ) → at h q < 256)
    → length h % segment_size form ≡ 0 → (w.len ≡ 0 → ⊥) → s < length h / segment_size form → Kept (segment_size form) (length h) s w
    → w.d + n * g < w.len
    → Passed (number_size form) (segment_size form) h s w (s + n)
    (record { len = w.len; d = w.d + n * g; blocks = w.blocks; live = w.live + n * g; written = w.written + m })
passed form n m e o small bytes even z i k l =
    rw e
    (passed-owned _ _ (wide_of form) (segment_two form) small bytes even z i k n m o (rw e at l))

pub overflow_add-result-in-Some-3 : goal.overflow_add-result-in-Some-3
overflow_add-result-in-Some-3 c = omega (arith, few c.args.form _ _ _ _ _ c.segment-segment.ensures c.in-Some.ensures, c.segment-segment.ensures)

pub returns-in-Some : goal.returns-in-Some
returns-in-Some c =
    passed c.args.form _ _ c.segment-segment.ensures c.in-Some.ensures c.requires.3 (λ q. (c.type_inv.heap q).fits) c.requires.2 c.requires.0
    c.requires.1 c.requires.4 (omega (arith, wide_of c.args.form))

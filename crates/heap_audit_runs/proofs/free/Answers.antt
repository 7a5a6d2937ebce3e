-- `heap_audit_runs::free` meets its contract. Assumes nothing.
use Rattle.std.proofs.Common.{ℕ, List, true, ◌≡◌, ◌+◌, ◌*◌, ◌/◌, ◌≤◌, ◌<◌, length, refl, sym, ◌∙◌, arith}
use Rattle.number.specs.Parts.{at, zeros}
use Rattle.map.specs.declared.Form.{Form}
use Rattle.map.specs.declared.Form.TheVariants.{Player, Desk}
use Rattle.map.specs.FormMap.{number_size, segment_size, wide_of}
use Rattle.heap_words.proofs.FormLaws.{segment_two}
use Rattle.heap_audit_laws.specs.declared.Walk.{Walk}
use Rattle.heap_audit_laws.specs.Runs.{Passed}
use Rattle.heap_audit_laws.proofs.RunLaws.{passed-free}
use Rattle.heap_audit_runs.proofs.free.Goals as goal

-- k segments of zeros, 32 bytes in all, before one more; g the bytes of one
passed : (form : Form) (k : ℕ) {h : List ℕ} {s t g : ℕ} {w v : Walk} → g ≡ segment_size form → length h ≤ 131072 → ((q : ℕ) → at h q < 256)
    → v.len ≡ 0 → Passed (number_size form) (segment_size form) h s w t v → zeros (at h) (t * g) 32 ≡ true → t * g + g + 32 ≤ length h
    → k * g ≡ 32 → Passed (number_size form) (segment_size form) h s w (t + k) v
passed form k {h} {s} {t} e small bytes z p a o x =
    let y : k * segment_size form ≡ 32 = rw e at x in
    passed-free _ _ (wide_of form) (segment_two form) small bytes k z p (rw y (rw e at a))
    (inside form t k (length h) (rw e at o) y)
  where
    inside : (form : Form) (t k n : ℕ) → t * segment_size form + segment_size form + 32 ≤ n → k * segment_size form ≡ 32
        → t + k < n / segment_size form
    inside Player t k n o y = omega arith
    inside Desk t k n o y = omega arith

-- 32 bytes are whole segments
exact : (form : Form) {g : ℕ} → g ≡ segment_size form → 32 / g * g ≡ 32
exact Player e = rw e refl
exact Desk e = rw e refl

pub loop-t-preserved : goal.loop-t-preserved
loop-t-preserved c =
    passed c.args.form _ c.segment-segment.ensures c.requires.2 (λ q. (c.type_inv.heap q).fits) c.requires.0 c.loop-t.invariant
    (sym c.zero_32.ensures ∙ c.if-not-zero_32.false) c.loop-t-test.true (omega (arith, exact c.args.form c.segment-segment.ensures))

-- `heap_stamp::stamp` meets its contract: after the header, the segments passed are in place. Assumes nothing.
use Rattle.std.proofs.Common.{◌≡◌, ℕ, ◌+◌, ◌-◌, ◌*◌, ◌/◌, ◌%◌, ◌≤◌, ◌<◌, sym, ◌∙◌, arith}
use Rattle.number.proofs.PartLaws.{over_none}
use Rattle.map.specs.declared.Form.{Form}
use Rattle.map.specs.declared.Form.TheVariants.{Player, Desk}
use Rattle.map.specs.FormMap.{number_size, segment_size, wide_of, two_of}
use Rattle.heap_words.proofs.FormLaws.{by_form, segment_two}
use Rattle.heap_laws.proofs.StampLaws.{placed-more, placed-all}
use Rattle.heap_stamp.proofs.stamp.Goals as goal

-- a segment of a block that is whole
in_whole : (form : Form) (i l : ℕ) → i < l / segment_size form → i * segment_size form + segment_size form ≤ l
in_whole Player i l h = omega arith
in_whole Desk i l h = omega arith

-- its last segment, of which it has a part
in_last : (form : Form) (b l z : ℕ) → b % segment_size form ≡ 0 → z % segment_size form ≡ 0 → b + l ≤ z → l / segment_size form * segment_size form < l
    → b + l / segment_size form * segment_size form + segment_size form ≤ z
in_last Player b l z x y h k = omega arith
in_last Desk b l z x y h k = omega arith

some : (form : Form) → 0 < segment_size form
some form = omega (arith, wide_of form, two_of form)

multiple : (form : Form) (i : ℕ) → (i * segment_size form) % segment_size form ≡ 0
multiple form i = by_form (λ W G. (i * G) % G ≡ 0) (omega arith) (omega arith) form

next_multiple : (form : Form) (i : ℕ) → (i * segment_size form + segment_size form) % segment_size form ≡ 0
next_multiple form i = by_form (λ W G. (i * G + G) % G ≡ 0) (omega arith) (omega arith) form

within : (form : Form) (l : ℕ) → l / segment_size form * segment_size form ≤ l
within form l = by_form (λ W G. l / G * G ≤ l) (omega arith) (omega arith) form

past : (form : Form) (l : ℕ) → l < l / segment_size form * segment_size form + segment_size form
past form l = by_form (λ W G. l < l / G * G + G) (omega arith) (omega arith) form

pub put_segment-requires-in-loop-i : goal.put_segment-requires-in-loop-i
put_segment-requires-in-loop-i c =
    let a = c.args in
    let l = c.loop-i in
    let h : l.i < a.len / segment_size a.form = rw c.segment-step.ensures at c.loop-i-test.true in
    let k = in_whole a.form l.i a.len h in
    let n = l.invariant.numbered in
    rw c.segment-step.ensures (omega arith, omega (arith, some a.form), omega arith)

pub put_segment-requires-then-d-length : goal.put_segment-requires-then-d-length
put_segment-requires-then-d-length c =
    let a = c.args in
    let h = rw c.segment-step.ensures at c.if-d-length.true in
    let k = in_last a.form a.base.0 a.len _ c.requires.form_bound.1 c.requires.le_len.1 c.requires.form_bound.2 h in
    rw c.segment-step.ensures (omega arith, omega arith, omega arith)

pub overflow_add-number : goal.overflow_add-number
overflow_add-number c =
    let a = c.args in
    let h : c.loop-i.i < a.len / segment_size a.form = rw c.segment-step.ensures at c.loop-i-test.true in
    let k = in_whole a.form c.loop-i.i a.len h in
    rw c.segment-step.ensures (omega arith)

pub loop-i-init : goal.loop-i-init
loop-i-init c =
    let e : 0 * segment_size c.args.form ≡ 0 = omega arith in
    record { numbered = omega arith; stamped = rw e (sym (over_none _ _ _)) }

pub loop-i-preserved : goal.loop-i-preserved
loop-i-preserved c =
    let a = c.args in
    let l = c.loop-i in
    let W = number_size a.form in
    let G = segment_size a.form in
    let g = some a.form in
    let h : l.i < a.len / G = rw c.segment-step.ensures at c.loop-i-test.true in
    let k = in_whole a.form l.i a.len h in
    let e : (l.i + 1) * G ≡ l.i * G + G = omega arith in
    let n = l.invariant.numbered in
    record {
      numbered = rw c.segment-step.ensures (omega arith);
      stamped =
          c.put_segment-in-loop-i.ensures
          ∙ rw (l.invariant.stamped, l.invariant.numbered, c.first_bits-whole.ensures.0, c.segment-step.ensures, e)
          (placed-more W G g (segment_two a.form) a.how a.base.0 a.len c.requires.form_bound.0 c.requires.form_bound.1 c.requires.le_len.0 (l.i * G) G _ (multiple a.form l.i) (omega arith) (omega arith));
    }

pub returns-then-d-length : goal.returns-then-d-length
returns-then-d-length c =
    let a = c.args in
    let l = c.loop-i in
    let W = number_size a.form in
    let G = segment_size a.form in
    let g = some a.form in
    let q = a.len / G in
    let i : l.i ≡ a.len / c.segment-step.result = omega arith in
    let h : q * G < a.len = rw c.segment-step.ensures at c.if-d-length.true in
    let p = past a.form a.len in
    c.put_segment-then-d-length.ensures
    ∙ rw (l.invariant.stamped, i, c.first_bits-last.ensures.0, c.put_segment.ensures, c.segment-step.ensures)
    (placed-more W G g (segment_two a.form) a.how a.base.0 a.len c.requires.form_bound.0 c.requires.form_bound.1 c.requires.le_len.0 (q * G) (a.len - q * G) _ (multiple a.form q) h (omega arith)
    ∙ placed-all W G g (segment_two a.form) a.how a.base.0 a.len c.requires.form_bound.0 c.requires.form_bound.1 c.requires.le_len.0 (q * G + G) a.heap.now (next_multiple a.form q) (omega arith) (omega arith))

pub returns-else-d-length : goal.returns-else-d-length
returns-else-d-length c =
    let a = c.args in
    let l = c.loop-i in
    let W = number_size a.form in
    let G = segment_size a.form in
    let g = some a.form in
    let q = a.len / G in
    let i : l.i ≡ a.len / c.segment-step.result = omega arith in
    let h : a.len ≤ q * G = rw c.segment-step.ensures at c.if-d-length.false in
    let k = within a.form a.len in
    l.invariant.stamped
    ∙ rw (i, c.put_segment.ensures, c.segment-step.ensures)
    (placed-all W G g (segment_two a.form) a.how a.base.0 a.len c.requires.form_bound.0 c.requires.form_bound.1 c.requires.le_len.0 (q * G) a.heap.now (multiple a.form q) h (omega arith))

-- `heap_read::read` meets its contract: each return is one line of the definition. Assumes nothing.
use Rattle.std.proofs.Common.{◌≡◌, ◌∙◌, ℕ, ◌+◌, ◌*◌, ◌-◌, ◌/◌, ◌%◌, ◌≤◌, ◌<◌, length, arith}
use borrow.Author.Tests.{lt-ltb, le-ltb, le-leb, lt-leb, eq-eqb, ne_eqb}
use Rattle.number.specs.Parts.{at}
use Rattle.number.proofs.LittleLaws.{le-word}
use Rattle.map.specs.declared.Form.{Form}
use Rattle.map.specs.declared.Form.TheVariants.{Player, Desk}
use Rattle.map.specs.FormMap.{number_size, segment_size, wide_of, two_of}
use Rattle.heap_words.proofs.FormLaws.{by_form, segment_two}
use Rattle.heap_layout.specs.Reading.{heap_reading}
use Rattle.heap_laws.proofs.MarkLaws.{bit-alone}
use Rattle.heap_laws.proofs.ReadLaws.{told, read_told, bit-told}
use Rattle.heap_read.proofs.read.Goals as goal
use Rattle.heap_read.proofs.read.Lts as place
use Rattle.heap_read.proofs.read.Reads as reads
use Rattle.heap_read.proofs.read.Tie as tie

-- steps of the code, by name
abbrev After-number2 : Type 0
After-number2 = place.After-number2 tie.the-claims reads.Pre reads.Post

abbrev Else4 : Type 0
Else4 = place.Else4 tie.the-claims reads.Pre reads.Post

pub returns-then-w-eq0 : goal.returns-then-w-eq0
unfolding heap_reading
returns-then-w-eq0 c = rw (← c.start-segment.ensures, ← c.number_at-w.ensures, eq-eqb _ 0 c.if-w-eq0.true)

pub returns-then-d-step-ne0 : goal.returns-then-d-step-ne0
unfolding heap_reading
returns-then-d-step-ne0 c =
    rw (← c.start-segment.ensures, ← c.number_at-w.ensures, ne_eqb _ 0 c.if-w-eq0.false, ← c.segment-step.ensures, ne_eqb _ 0 c.if-d-step-ne0.true)

pub returns-then-segment-d : goal.returns-then-segment-d
unfolding heap_reading
returns-then-segment-d c =
    let s = c.start-segment.result in
    let h : s ≤ c.number_at-w.result - 1 = c.if-segment-d.true in
    rw (
      ← c.start-segment.ensures,
      ← c.number_at-w.ensures,
      ne_eqb _ 0 c.if-w-eq0.false,
      ← c.segment-step.ensures,
      eq-eqb _ 0 c.if-d-step-ne0.false,
      lt-ltb s (c.number_at-w.result - 1 + c.segment-step.result) (omega (arith, wide_of c.args.form, two_of c.args.form)),
    )

-- whole segments are a segment apart
apart : (form : Form) (p d : ℕ) → d % segment_size form ≡ 0 → d < p / segment_size form * segment_size form
    → d + segment_size form ≤ p / segment_size form * segment_size form
apart Player p d o l = omega arith
apart Desk p d o l = omega arith

found : (c : After-number2)
    → let a = c.args in
    heap_reading (number_size a.form) (segment_size a.form) (length a.heap.now) (at a.heap.now) a.p.0
    ≡ told (number_size a.form) (segment_size a.form) (length a.heap.now) (at a.heap.now) a.p.0 (c.number_at-w.result - 1) c.number-length.result
found c =
    let a = c.args in
    let s = a.p.0 / segment_size a.form * segment_size a.form in
    let d = c.number_at-w.result - 1 in
    let o : d % segment_size a.form ≡ 0 = rw c.segment-step.ensures at c.if-d-step-ne0.false in
    let l : d < s = rw c.start-segment.ensures at c.if-segment-d.false in
    let h = apart a.form a.p.0 d o l in
    let n : c.start-segment.result - d - (c.start-segment.result - d - c.number.result) ≡ number_size a.form =
    rw (c.start-segment.ensures, c.number.ensures) (omega (arith, segment_two a.form)) in
    let q : c.start-segment.result - d - c.number.result ≡ s - d - segment_size a.form + number_size a.form =
    rw (c.start-segment.ensures, c.number.ensures) (omega (arith, segment_two a.form)) in
    read_told (number_size a.form) (segment_size a.form) (length a.heap.now) (at a.heap.now) a.p.0 c.number_at-w.result c.number-length.result
    (rw c.start-segment.ensures at c.number_at-w.ensures) c.if-w-eq0.false o h
    (c.number-length.ensures ∙ rw (n, q) (le-word a.heap.now (number_size a.form) (s - d - segment_size a.form + number_size a.form) (omega (arith, segment_two a.form))))

pub returns-then-heap-base : goal.returns-then-heap-base
returns-then-heap-base c =
    let b = c.start-segment.result - (c.number_at-w.result - 1) in
    let h : length c.args.heap.now - b < c.number-length.result = c.if-heap-base.true in
    rw (found c.before.before, ← c.start-segment.ensures, lt-ltb (length c.args.heap.now) (b + c.number-length.result) (omega arith))

-- the block ends in the area
fits : (c : Else4) → c.start-segment.result - (c.number_at-w.result - 1) + c.number-length.result ≤ length c.args.heap.now
fits c =
    let h : c.number-length.result ≤ length c.args.heap.now - (c.start-segment.result - (c.number_at-w.result - 1)) = c.if-heap-base.false in
    omega arith

pub returns-then-length-d : goal.returns-then-length-d
returns-then-length-d c =
    rw (found c.before.before.before, ← c.start-segment.ensures, le-ltb _ _ (fits c.before.before), le-leb _ _ c.if-length-d.true)

pub returns-then-length-offset : goal.returns-then-length-offset
returns-then-length-offset c =
    rw (
      found c.before.before.before.before,
      ← c.start-segment.ensures,
      le-ltb _ _ (fits c.before.before.before),
      lt-leb _ _ c.if-length-d.false,
      le-leb _ _ c.if-length-offset.true,
    )

pub returns : goal.returns
returns c =
    let a = c.args in
    let k = c.bits_place.result in
    let j : a.p.0 % 8 ≡ a.p.0 % segment_size a.form % 8 = by_form (λ W G. a.p.0 % 8 ≡ a.p.0 % G % 8) (omega arith) (omega arith) a.form in
    let alone = bit-alone (at a.heap.now k) (a.p.0 % 8) in
    rw (
      found c.before.before.before.before.before.before.before,
      bit-told (number_size a.form) (segment_size a.form) (at a.heap.now) a.p.0 k (a.p.0 % 8) c.bits_place.ensures j,
      ← c.start-segment.ensures,
      le-ltb _ _ (fits c.before.before.before.before.before.before),
      lt-leb _ _ c.if-length-d.false,
      lt-leb _ _ c.if-length-offset.false,
      c.bit-written.ensures,
      alone.0,
      alone.1,
    )

-- `heap_marked_from::marked_from` meets its contract: the whole range is marked exactly if what is left of it is. Assumes nothing.
use Rattle.std.proofs.Common.{◌≡◌, ◌+◌, ◌-◌, ◌*◌, ◌/◌, ◌≤◌, ℕ, Bool, ◌&&◌, List, length, sym, ◌∙◌, arith}
use Rattle.map.specs.declared.Form.{Form}
use Rattle.map.specs.FormMap.{number_size, segment_size}
use Rattle.plain.specs.Ops.{Ops, range_marked}
use Rattle.plain.proofs.MarkedLaws.{marked_next}
use Rattle.heap_layout.specs.Ops.{heap_ops}
use Rattle.heap_marked_from.proofs.marked_from.Goals as goal

abbrev ops : Form → List ℕ → Ops (List ℕ)
ops form h = heap_ops (number_size form) (segment_size form) (length h)

-- m positions, and the rest
split : (O : Ops (List ℕ)) (h : List ℕ) (p m q e : ℕ) (b : Bool) → q ≡ p + m → q ≤ e → b ≡ range_marked O h p m → range_marked O h p (e - p) ≡ (b && range_marked O h q (e - q))
split O h p m q e b u v w = let k : e - p ≡ m + (e - q) = omega arith in rw (k, w, u) (marked_next O h p m (e - (p + m)))

-- after i turns, which are all
after_turns : (O : Ops (List ℕ)) (h : List ℕ) (s e i n : ℕ) → i ≡ n → range_marked O h s (e - s) ≡ range_marked O h (s + 32 * i) (e - (s + 32 * i))
    → range_marked O h s (e - s) ≡ range_marked O h (s + 32 * n) (e - (s + 32 * n))
after_turns O h s e i n k l = rw (← k) l

pub returns-then-not-four_marked : goal.returns-then-not-four_marked
returns-then-not-four_marked c =
    let a = c.args in
    let p = a.start.0 + 32 * c.loop-i.i in
    sym
    (c.loop-i.invariant ∙ split (ops a.form a.heap.now) a.heap.now p 32 (p + 32) a.end.0 _ (omega arith) (omega arith) c.four_marked.ensures
    ∙ rw c.if-not-four_marked.true)

pub loop-i-preserved : goal.loop-i-preserved
loop-i-preserved c =
    let a = c.args in
    let s = a.start.0 in
    let i = c.loop-i.i in
    c.loop-i.invariant
    ∙ split (ops a.form a.heap.now) a.heap.now (s + 32 * i) 32 (s + 32 * (i + 1)) a.end.0 _ (omega arith) (omega arith) c.four_marked.ensures
    ∙ rw c.if-not-four_marked.false

pub returns-then-two_marked : goal.returns-then-two_marked
returns-then-two_marked c =
    let a = c.args in
    let n = (a.end.0 - a.start.0) / 32 in
    let p = a.start.0 + 32 * n in
    let O = ops a.form a.heap.now in
    sym
    (after_turns O a.heap.now a.start.0 a.end.0 c.loop-i.i n (omega arith) c.loop-i.invariant
    ∙ split O a.heap.now p 16 (p + 16) a.end.0 _ (omega arith) (omega arith) c.two_marked.ensures
    ∙ rw c.if-two_marked.true (sym c.rest_marked.ensures))

pub returns-else-two_marked : goal.returns-else-two_marked
returns-else-two_marked c =
    let a = c.args in
    let n = (a.end.0 - a.start.0) / 32 in
    let p = a.start.0 + 32 * n in
    let O = ops a.form a.heap.now in
    sym
    (after_turns O a.heap.now a.start.0 a.end.0 c.loop-i.i n (omega arith) c.loop-i.invariant
    ∙ split O a.heap.now p 16 (p + 16) a.end.0 _ (omega arith) (omega arith) c.two_marked.ensures
    ∙ rw c.if-two_marked.false)

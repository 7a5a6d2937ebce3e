-- `heap_marked::marked` meets its contract: the positions to the next multiple of 8, then those from there on. Assumes nothing.
use Rattle.std.proofs.Common.{◌≡◌, ◌+◌, ◌-◌, ◌*◌, ◌/◌, ◌%◌, ◌<◌, ℕ, ◌&&◌, Bool, List, length, sym, ◌∙◌, arith}
use Rattle.number.specs.Bits.{bits_set}
use Rattle.number.specs.Parts.{at}
use Rattle.map.specs.declared.Form.{Form}
use Rattle.map.specs.FormMap.{number_size, segment_size}
use Rattle.plain.specs.Ops.{Ops, range_marked}
use Rattle.plain.proofs.MarkedLaws.{marked-none}
use Rattle.heap_layout.specs.Ops.{heap_ops}
use Rattle.heap_bits.specs.Bytes.{LieAhead}
use Rattle.heap_bits.proofs.AheadLaws.{byte_of, byte_in, marked_part, marked_first}
use Rattle.heap_marked.proofs.marked.Goals as goal

abbrev ops : Form → List ℕ → Ops (List ℕ)
ops form h = heap_ops (number_size form) (segment_size form) (length h)

pub returns-then-n-eq0 : goal.returns-then-n-eq0
returns-then-n-eq0 c =
    let a = c.args in
    sym (marked-none (ops a.form a.heap.now) a.heap.now a.p.0 a.n c.if-n-eq0.true)

pub bounds-heap-byte : goal.bounds-heap-byte
bounds-heap-byte c =
    let a = c.args in
    byte_in a.form a.p.0 _ (length a.heap.now) c.requires.1 (omega arith) (byte_of a.form a.p.0 _ _ c.ahead_of.ensures)

pub bounds-heap-byte-2 : goal.bounds-heap-byte-2
bounds-heap-byte-2 c =
    let a = c.args in
    byte_in a.form a.p.0 _ (length a.heap.now) c.requires.1 (omega arith) (byte_of a.form a.p.0 _ _ c.ahead_of.ensures)

pub returns-then-j-n-le8 : goal.returns-then-j-n-le8
returns-then-j-n-le8 c =
    let a = c.args in
    let h = a.heap.now in
    sym (marked_part a.form (length h) h a.p.0 a.n _ _ (omega arith) (byte_of a.form a.p.0 _ _ c.ahead_of.ensures) (omega arith) c.bits_set.result c.bits_set.ensures)

-- the positions to the next multiple of 8, and the rest
first_byte : (form : Form) (h : List ℕ) (p n own next : ℕ) (b : Bool) → 8 < p % 8 + n → LieAhead form (p / 8 * 8) own next → b ≡ bits_set (at h (p / 8 * 8 + own)) (p % 8) (8 - p % 8)
    → range_marked (ops form h) h p n ≡ (b && range_marked (ops form h) h (p / 8 * 8 + 8) (p + n - (p / 8 * 8 + 8)))
first_byte form h p n own next b k l e =
    let z : p + (8 - p % 8) ≡ p / 8 * 8 + 8 = omega arith in
    rw (← z) (marked_first form (length h) h p (8 - p % 8) _ _ (omega arith) (byte_of form p own next l) (omega arith) n (p + n - (p + (8 - p % 8))) (omega arith) b e)

pub returns-then-bits_set : goal.returns-then-bits_set
returns-then-bits_set c =
    let a = c.args in
    sym (first_byte a.form a.heap.now a.p.0 a.n _ _ _ (omega arith) c.ahead_of.ensures c.bits_set-2.ensures ∙ rw c.if-bits_set.true (sym c.marked_from.ensures))

pub returns-else-bits_set : goal.returns-else-bits_set
returns-else-bits_set c =
    let a = c.args in
    sym (first_byte a.form a.heap.now a.p.0 a.n _ _ _ (omega arith) c.ahead_of.ensures c.bits_set-2.ensures ∙ rw c.if-bits_set.false)

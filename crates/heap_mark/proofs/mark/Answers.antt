-- `heap_mark::mark` meets its contract: the positions to the next multiple of 8, then those of the eight after, or those from there on. Assumes
-- nothing.
use Rattle.std.proofs.Common.{◌≡◌, ◌+◌, ◌-◌, ◌*◌, ◌/◌, ◌%◌, ◌≤◌, ◌<◌, ℕ, List, length, refl, sym, ◌∙◌, arith}
use lib.ListN.{set, length-set}
use Rattle.number.specs.Bits.{with_bits}
use Rattle.number.specs.Parts.{at}
use Rattle.map.specs.declared.Form.{Form}
use Rattle.map.specs.FormMap.{number_size, segment_size}
use Rattle.plain.specs.Ops.{Ops, mark_range}
use Rattle.plain.proofs.MarkedLaws.{mark-none}
use Rattle.heap_layout.specs.Ops.{heap_ops}
use Rattle.heap_bits.specs.Bytes.{LieAhead}
use Rattle.heap_bits.proofs.AheadLaws.{byte_of, byte_in, mark_part, mark_first}
use Rattle.heap_mark.proofs.mark.Goals as goal

abbrev ops : Form → ℕ → Ops (List ℕ)
ops form L = heap_ops (number_size form) (segment_size form) L

-- the byte of the first position
in_shadow : (form : Form) (size p n own next : ℕ) → size % segment_size form ≡ 0 → p + n ≤ size → (n ≡ 0 → ⊥) → LieAhead form (p / 8 * 8) own next → p / 8 * 8 + own < size
in_shadow form size p n own next w l k a = byte_in form p _ size w (omega arith) (byte_of form p own next a)

pub returns-then-n-eq0 : goal.returns-then-n-eq0
returns-then-n-eq0 c =
    let a = c.args in
    sym (mark-none (ops a.form (length a.heap.now)) a.heap.now a.p.0 a.n c.if-n-eq0.true)

pub bounds-heap-byte : goal.bounds-heap-byte
bounds-heap-byte c =
    let a = c.args in
    in_shadow a.form (length a.heap.now) a.p.0 a.n _ _ c.requires.1 c.requires.0 c.if-n-eq0.false c.ahead_of-ahead.ensures

pub bounds-heap-byte-2 : goal.bounds-heap-byte-2
bounds-heap-byte-2 c =
    let a = c.args in
    in_shadow a.form (length a.heap.now) a.p.0 a.n _ _ c.requires.1 c.requires.0 c.if-n-eq0.false c.ahead_of-ahead.ensures

pub returns-then-j-n-le8 : goal.returns-then-j-n-le8
returns-then-j-n-le8 c =
    let a = c.args in
    let h = a.heap.now in
    let k : a.p.0 / 8 * 8 + c.ahead_of-ahead.result.own < length h = in_shadow a.form (length h) a.p.0 a.n _ _ c.requires.1 c.requires.0 c.if-n-eq0.false c.ahead_of-ahead.ensures in
    sym (mark_part a.form (length h) h a.p.0 a.n _ _ (omega arith) (byte_of a.form a.p.0 _ _ c.ahead_of-ahead.ensures) (omega arith) _ k c.set_bits.ensures)

-- the positions to the next multiple of 8, and the r that are left
first_byte : (form : Form) (h : List ℕ) (p n r own next b : ℕ) → 8 < p % 8 + n → r ≡ p % 8 + n - 8 → p / 8 * 8 + own < length h → LieAhead form (p / 8 * 8) own next
    → b ≡ with_bits (at h (p / 8 * 8 + own)) (p % 8) (8 - p % 8)
    → mark_range (ops form (length h)) h p n ≡ mark_range (ops form (length h)) (set h (p / 8 * 8 + own) b) (p / 8 * 8 + 8) r
first_byte form h p n r own next b k q l a e =
    let z : p + (8 - p % 8) ≡ p / 8 * 8 + 8 = omega arith in
    rw (← z) (mark_first form (length h) h p (8 - p % 8) _ _ (omega arith) (byte_of form p own next a) (omega arith) n r (omega arith) b l e)

pub returns-then-j-n-le16 : goal.returns-then-j-n-le16
returns-then-j-n-le16 c =
    let a = c.args in
    let h = a.heap.now in
    let q = a.p.0 / 8 * 8 in
    let ahead = c.ahead_of-ahead in
    let v = c.set_bits-2.new.byte in
    let r = a.p.0 % 8 + a.n - 8 in
    let k : q + ahead.result.own < length h = in_shadow a.form (length h) a.p.0 a.n _ _ c.requires.1 c.requires.0 c.if-n-eq0.false ahead.ensures in
    let m : q + ahead.result.next < length h = byte_in a.form (q + 8) _ (length h) c.requires.1 (omega arith) ahead.ensures.1 in
    sym
    (first_byte a.form h a.p.0 a.n r _ _ v (omega arith) refl k ahead.ensures c.set_bits-2.ensures
    ∙ mark_part a.form (length h) (set h (q + ahead.result.own) v) (q + 8) r _ 0 (omega arith) ahead.ensures.1 (omega arith) _ (rw (length-set h (q + ahead.result.own) v) m)
    c.set_bits-then-j-n-le16.ensures)

pub returns : goal.returns
returns c =
    let a = c.args in
    let h = a.heap.now in
    let v = c.set_bits-2.new.byte in
    let k : a.p.0 / 8 * 8 + c.ahead_of-ahead.result.own < length h = in_shadow a.form (length h) a.p.0 a.n _ _ c.requires.1 c.requires.0 c.if-n-eq0.false c.ahead_of-ahead.ensures in
    c.mark_from.ensures
    ∙ rw (length-set h (a.p.0 / 8 * 8 + c.ahead_of-ahead.result.own) v)
    (sym (first_byte a.form h a.p.0 a.n _ _ _ v (omega arith) (omega arith) k c.ahead_of-ahead.ensures c.set_bits-2.ensures))

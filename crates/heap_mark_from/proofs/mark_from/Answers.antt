-- `heap_mark_from::mark_from` meets its contract: what is left to mark makes of the shadow what the whole range makes of it. Assumes nothing.
use Rattle.std.proofs.Common.{◌≡◌, ◌+◌, ◌-◌, ◌≤◌, ℕ, List, length, refl, sym, ◌∙◌, arith}
use Rattle.map.specs.declared.Form.{Form}
use Rattle.map.specs.FormMap.{number_size, segment_size}
use Rattle.plain.specs.Ops.{Ops, mark_range}
use Rattle.plain.proofs.MarkedLaws.{mark-next}
use Rattle.heap_layout.specs.Ops.{heap_ops}
use Rattle.heap_bits.proofs.AheadLaws.{ahead_on}
use Rattle.heap_mark_from.proofs.mark_from.Goals as goal

abbrev ops : Form → ℕ → Ops (List ℕ)
ops form L = heap_ops (number_size form) (segment_size form) L

-- m positions are marked, the rest is left
split : (form : Form) (L : ℕ) (h g : List ℕ) (p m q e : ℕ) → length h ≡ L → q ≡ p + m → q ≤ e → g ≡ mark_range (ops form (length h)) h p m
    → mark_range (ops form L) h p (e - p) ≡ mark_range (ops form L) g q (e - q)
split form L h g p m q e l u v w = let k : e - p ≡ m + (e - q) = omega arith in rw (k, w, u, l) (mark-next (ops form L) h p m (e - (p + m)))

pub loop-at-init : goal.loop-at-init
loop-at-init c = (omega arith, omega arith, c.ahead_of-ahead.ensures, refl, refl)

pub loop-at-preserved : goal.loop-at-preserved
loop-at-preserved c =
    let a = c.args in
    let L = length a.heap.now in
    let p = c.loop-at.at in
    let m = c.mark_two.new.heap in
    let x : length m ≡ L = c.mark_two.auto.heap ∙ c.loop-at.invariant.3 in (
      omega arith,
      omega arith,
      ahead_on a.form p 32 _ _ refl c.loop-at.invariant.2,
      c.mark_two-in-loop-at.auto.heap ∙ x,
      c.loop-at.invariant.4
          ∙ split a.form L c.loop-at.heap m p 16 (p + 16) a.end.0 c.loop-at.invariant.3 refl (omega arith) c.mark_two.ensures
          ∙ split a.form L m _ (p + 16) 16 (p + 32) a.end.0 x (omega arith) (omega arith) c.mark_two-in-loop-at.ensures,
    )

pub returns-then-at-e : goal.returns-then-at-e
returns-then-at-e c =
    let a = c.args in
    let L = length a.heap.now in
    let p = c.loop-at.at in
    let m = c.mark_two-then-at-e.new.heap in
    let x : length m ≡ L = c.mark_two-then-at-e.auto.heap ∙ c.loop-at.invariant.3 in
    c.mark_rest.ensures
    ∙ rw x
    (sym (c.loop-at.invariant.4 ∙ split a.form L c.loop-at.heap m p 16 (p + 16) a.end.0 c.loop-at.invariant.3 refl (omega arith) c.mark_two-then-at-e.ensures))

pub returns : goal.returns
returns c = c.mark_rest-2.ensures ∙ rw c.loop-at.invariant.3 (sym c.loop-at.invariant.4)

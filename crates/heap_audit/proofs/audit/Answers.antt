-- `heap_audit::audit` meets its contract: what is left of the walk comes to what the whole walk does. Assumes nothing.
use Rattle.std.proofs.Common.{ℕ, ◌≡◌, ◌≤◌, ◌*◌, ◌%◌, ◌/◌, length, sym, ◌∙◌, arith, rules}
use Rattle.map.specs.declared.Form.{Form}
use Rattle.map.specs.declared.Form.TheVariants.{Player, Desk}
use Rattle.map.specs.FormMap.{segment_size}
use Rattle.heap_audit_laws.proofs.TurnLaws.{rest-start, rest_end}
use Rattle.heap_audit.proofs.audit.Goals as goal

-- past all segments is past all bytes
past : (form : Form) (n s : ℕ) → n % segment_size form ≡ 0 → n / segment_size form ≤ s → n ≤ s * segment_size form
past Player n s e h = omega arith
past Desk n s e h = omega arith

pub loop-s-init : goal.loop-s-init
loop-s-init c = (search rules, omega arith, rest-start _ _ c.args.heap.now)

pub returns : goal.returns
returns c =
    let l = c.loop-s in
    let f = c.args.form in
    sym (l.invariant.2 ∙ rest_end _ _ c.args.heap.now l.s l.w
    (past f (length c.args.heap.now) l.s c.requires.0 (rw c.segment.ensures at c.loop-s-test.false)) l.invariant.1)

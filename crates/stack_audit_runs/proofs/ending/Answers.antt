-- `stack_audit_runs::ending` meets its contract. Assumes nothing.
use mathlib.Core.Path.{◌≡◌, refl, sym, ◌∙◌}
use mathlib.Core.Bool.{Bool, true, false, cond}
use Prim.Native.Nat.{ℕ}
use native.Mathlib.Omega.{arith}
use Rattle.std.specs.Prelude.{Some, None}
use Rattle.number.specs.Parts.{odd_bytes}
use Rattle.stack_audit_laws.proofs.PassedLaws.{run_is, end_seen, end-odds}
use Rattle.stack_audit_runs.proofs.ending.Goals as goal

-- a number that is told or not, and the one that the laws tell, 0 where it is not
told : (b : Bool) (l n : ℕ) → Some n ≡ cond b (Some l) None → (n ≡ cond b l 0) × (n ≡ l)
told true l n e = (cc, cc)
told false l n e = (cc, cc)

untold : (b : Bool) (l : ℕ) → None ≡ cond b (Some l) None → 0 ≡ cond b l 0
untold true l e = cc
untold false l e = refl

pub returns-in-Some : goal.returns-in-Some
returns-in-Some c =
    let a = c.args in
    let n = c.in-Some.n in
    let t = told _ _ n (sym c.in-Some.is ∙ c.last.ensures.0) in
    let l = c.last.ensures.1 in
    run_is a.primary.now a.q.0 n _ _
    (end_seen a.primary.now a.secondary.now a.q.0 a.len a.i a.literal _ _
    (λ q. (c.type_inv.primary q).fits) (λ q. (c.type_inv.secondary q).fits) c.eight_at-x.ensures c.eight_at.ensures n c.requires.1 l t.0)
    (c.odds.ensures.0 ∙ end-odds a.primary.now a.secondary.now a.q.0 a.len a.i a.literal _ _
    (λ q. (c.type_inv.primary q).fits) (λ q. (c.type_inv.secondary q).fits) c.eight_at-x.ensures c.eight_at.ensures n (omega (arith, t.1, l)))

pub returns-in-None : goal.returns-in-None
unfolding odd_bytes
returns-in-None c =
    let a = c.args in
    run_is a.primary.now a.q.0 0 0 _
    (end_seen a.primary.now a.secondary.now a.q.0 a.len a.i a.literal _ _
    (λ q. (c.type_inv.primary q).fits) (λ q. (c.type_inv.secondary q).fits) c.eight_at-x.ensures c.eight_at.ensures 0 c.requires.1 c.last.ensures.1
    (untold _ _ (sym c.in-None.is ∙ c.last.ensures.0)))
    refl

-- What a turn comes to, as the code goes it: one byte, or a run. Assumes nothing.
use mathlib.Core.Path.{◌≡◌, sym, ap, ◌∙◌, subst}
use mathlib.Core.Bool.{Bool, true, false}
use mathlib.Core.List.{List}
use Prim.Native.Nat.{ℕ, zero, suc, ◌+◌, ◌-◌, ◌%◌, ◌≤◌, ◌<◌, max}
use native.Mathlib.Omega.{arith}
use Rattle.std.specs.Prelude.{Option, Some, None}
use lib.ListN.{length}
use Rattle.number.specs.Parts.{at}
use Rattle.number.proofs.WordLaws.{odds-le}
use Rattle.stack_audit_laws.specs.declared.Walk.{Walk}
use Rattle.stack_audit_laws.specs.declared.Run.{Run}
use Rattle.stack_audit_laws.specs.declared.Moved.{Moved}
use Rattle.stack_audit_laws.specs.Turn.{current, literal_at, stands, past, after}
use Rattle.stack_audit_laws.specs.Runs.{clear_to, run_at, ahead_run}
use Rattle.stack_audit_laws.specs.Rest.{Stands, Turned}
use Rattle.stack_audit_laws.proofs.PassedLaws.{Passed, passed-ahead}
use Rattle.stack_audit_laws.proofs.LoopLaws.{keeps, offset-in, rest-on, rest-bad}
use Rattle.stack_audit_laws.proofs.ClearLaws.{clear-to}
use Rattle.stack_audit_laws.proofs.RunLaws.{none-on, clear-run, keeps-clear, block_run, keeps-block}

module _ (P S : List ℕ) (q : ℕ) (w : Walk) (t : Stands P S q w) where
  module _ (K : ℕ) (l : Bool) (e : K ≡ current (length P) (at P) (at S) q w.len) (u : l ≡ literal_at (at P) q w.i) where
    pub in_block : w.i < max K 1
    in_block = offset-in (length P) (at P) (at S) q w.i w.len K t.kept.offset e

    -- one byte
    module _ (b : Bool) (s : b ≡ stands (at P q) (at S q) K w.i l) where
      pub turned-bad : b ≡ false → Turned P S q w None
      turned-bad a = rest-bad P S q K l w b t.inside t.kept.offset e u s a

      pub turned-one : b ≡ true → (m : ℕ) (v : Walk) → m ≡ at P q % 2 → v ≡ after w K m → Turned P S q w (Some (record { walk = v; n = 1 }))
      turned-one a m v c d = (
        rest-on P S q K l w b t.inside t.kept.offset e u s v m a c d,
        omega arith,
        keeps (length P) q K m w v t.inside t.kept in_block (omega arith) d,
      )

    -- bytes that are zero, where no block goes on
    pub turned_clear : (r : ℕ) → K ≡ 0 → r ≡ clear_to P S q → q < r → Turned P S q w (Some (record { walk = w; n = r - q }))
    turned_clear r z y h =
        let c = clear-to P S q r (omega (arith, t.inside)) y in
        let n : w.len ≡ 0 = none-on (length P) (at P) (at S) q w.len (sym z ∙ e) in
        let i : w.i ≡ 0 = omega (arith, t.kept.offset) in
        let f : q + (r - q) ≡ r = omega arith in (
          clear-run P S w n i (r - q) q (rw f c),
          omega arith,
          rw f (keeps-clear (length P) q r w t.kept c.from c.to),
        )

    -- a run of bytes of a block
    pub run-passed : (r : Run) → (K ≡ 0 → ⊥) → r ≡ run_at P q (ahead_run P S q K w.i l) → Passed P S q K w.i l r.n r.written
    unfolding run_at
    run-passed r z a =
        let n : r.n ≡ ahead_run P S q K w.i l = ap (λ (x : Run). x.n) a in
        passed-ahead P S q K w.i l r.n r.written (omega (arith, t.inside)) (omega (arith, in_block)) n (ap (λ (x : Run). x.written) a ∙ rw n)

    pub turned-run : (n m : ℕ) (v : Walk) → Passed P S q K w.i l n m → 1 ≤ n → v ≡ past w K n m → Turned P S q w (Some (record { walk = v; n = n }))
    turned-run zero m v p h d = absurd (omega arith)
    turned-run (suc n) m v p h d =
        rw d (
          block_run P S q K l w t.kept.offset e u n p.block p.inside p.stand ∙ rw p.marks,
          h,
          keeps-block (length P) q K (suc n) m w t.kept h p.block (rw p.marks (odds-le (at P) q (suc n))) p.inside,
        )

pub turned : (P S : List ℕ) (q : ℕ) (w : Walk) (r m : Option Moved) → Turned P S q w r → r ≡ m → Turned P S q w m
turned P S q w r m t e = subst (Turned P S q w) e t

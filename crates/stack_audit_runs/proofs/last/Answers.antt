-- `stack_audit_runs::last` meets its contract. Assumes nothing.
use mathlib.Core.Path.{◌≡◌, refl}
use Prim.Native.Nat.{◌-◌, ◌≤◌}
use native.Mathlib.Omega.{arith}
use Rattle.number.specs.Parts.{run_of}
use Rattle.stack_audit_laws.specs.Runs.{climbs, stands_in}
use Rattle.stack_audit_laws.proofs.KnownLaws.{short-run, tail-run}
use Rattle.stack_audit_laws.proofs.PassedLaws.{no-piece, left-few}
use Rattle.stack_audit_runs.proofs.last.Goals as goal
use Rattle.stack_audit_runs.proofs.last.Goals.{then-len-le8, else-len-le8}

-- bytes that climb from the first one are those of the block
climbed : (c : goal.Joined-len-le8)
    → let a = c.args in
    (run_of (climbs a.x a.y c.if-len-le8.first 0) 0 (a.len - a.i) ≡ run_of (stands_in a.x a.y a.len a.i a.literal) 0 (a.len - a.i))
    × (c.if-len-le8.first ≤ 227)
climbed c =
    let a = c.args in
    let r = c.requires in
    elim c.if-len-le8.branch [
      | then-len-le8 w ↦ (
        rw (w.first-is, w.first_byte-first.ensures.0) (short-run a.x a.y a.len a.i a.literal r.0 r.1 _ w.if-len-le8.true w.codes_below.ensures.0),
        omega (arith, w.first-is, w.first_byte-first.ensures.1),
      )
      | else-len-le8 w ↦ (
        rw (w.first-is, w.first_byte-first-else-len-le8.ensures.0)
            (tail-run a.x a.y a.len a.i a.literal r.0 r.1 w.if-len-le8.false (no-piece a.len a.i r.2 w.if-len-le8.false)),
        omega (arith, w.first-is, w.first_byte-first-else-len-le8.ensures.1),
      )
    ]

pub holds-requires : goal.holds-requires
holds-requires c = (omega arith, left-few c.args.len c.args.i c.requires.2, (climbed c).1)

pub returns-then-holds : goal.returns-then-holds
returns-then-holds c = rw (← (climbed c.before.before).0, ← c.holds.ensures, c.if-holds.true) (refl, left-few c.args.len c.args.i c.requires.2)

pub returns-else-holds : goal.returns-else-holds
returns-else-holds c = rw (← (climbed c.before.before).0, ← c.holds.ensures, c.if-holds.false) (refl, left-few c.args.len c.args.i c.requires.2)

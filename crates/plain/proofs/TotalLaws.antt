-- The totals of a placed list: no more live bytes than addresses, and no more written bytes than live ones. Assumes nothing.
use mathlib.Core.Bool.{Bool, true, false}
use mathlib.Core.List.{List, [], ◌∷◌}
use Prim.Native.Nat.{ℕ, ◌+◌, ◌-◌, ◌≤◌}
use native.Mathlib.Omega.{arith}
use lib.ListN.{length}
use Rattle.number.specs.Bits.{ones}
use Rattle.plain.specs.Block.{Block, len}
use Rattle.plain.specs.Blocks.{total, live, written}
use Rattle.plain.specs.Rules.{Rules, Placed, Sound}

ones-length : (ms : List Bool) → ones ms ≤ length ms
unfolding ones
ones-length [] = omega arith
ones-length (true ∷ ms) = omega (arith, ones-length ms)
ones-length (false ∷ ms) = omega (arith, ones-length ms)

pub written-live : (bs : List Block) → written bs ≤ live bs
unfolding total
written-live [] = omega arith
written-live (b ∷ bs) = omega (arith, ones-length b.marks, written-live bs)

pub placed-live : (R : Rules) → Sound R → (bs : List Block) (from : ℕ) → Placed R from bs → live bs ≤ R.top - from
unfolding total
placed-live R G [] from P = omega arith
placed-live R G (b ∷ bs) from P =
    let last = b.base + len b - 1 in
    let some = P.some in
    let end = G.in_top last (G.in_inside b.base (len b) last P.fits (omega arith) (omega arith)) in
    omega (
      arith,
      P.room,
      G.low_base b.base (len b) P.fits,
      G.high_end b.base (len b),
      placed-live R G bs (R.high b.base (len b)) P.later,
    )

-- Shadows count positions from 0, calls count addresses: position = address − start. Assumes nothing.
use Rattle.std.specs.Prelude.{◌≡◌, true, List, map, ℕ, ◌+◌, ◌-◌, ◌≤◌}
use Rattle.plain.specs.Block.{Block}
use Rattle.plain.specs.Gaps.{Gap}
use Rattle.plain.specs.Rules.{Rules, Placed}
use Rattle.plain.specs.Reading.{Reading, nothing, block, damaged}
use Rattle.plain.specs.Ops.{Ops}

-- a reading by positions, told by addresses
abbrev pub reading_up : ℕ → Reading → Reading
reading_up s nothing = nothing
reading_up s damaged = damaged
reading_up s (block b l o m t) = block (s + b) l o m t

-- a block by addresses, told by positions
abbrev pub down : ℕ → Block → Block
down s b = record { base = b.base - s; marks = b.marks; literal = b.literal }

abbrev pub downs : ℕ → List Block → List Block
downs s bs = map (down s) bs

-- a gap by positions, told by addresses
abbrev pub gap_up : ℕ → Gap → Gap
gap_up s g = record { start = s + g.start; bytes = g.bytes }

abbrev pub lift_ops : {S : Type 0} → ℕ → Ops S → Ops S
lift_ops s O =
    record {
      cleared = O.cleared;
      read = λ h a. reading_up s (O.read h (a - s));
      vacant = λ h b l. O.vacant h (b - s) l;
      stamp = λ h b. O.stamp h (down s b);
      erase = λ h b l. O.erase h (b - s) l;
      mark = λ h a. O.mark h (a - s);
      marked = λ h a. O.marked h (a - s);
      audit = O.audit;
      gaps = λ h. map (gap_up s) (O.gaps h);
    }

-- each address of A is a position of E, from the start s on. Interface of the proofs: no demand rests on it
pub record Shifted (s : ℕ) (A E : Rules) : Type 0 where
  pub s_inside : (a : ℕ) → A.inside a ≡ true → (s ≤ a) × (E.inside (a - s) ≡ true)
  pub s_fits : (b l : ℕ) → A.fits b l ≡ true → (s ≤ b) × (E.fits (b - s) l ≡ true)
  pub s_aligned : (b l : ℕ) → A.fits b l ≡ true → A.aligned b ≡ true → E.aligned (b - s) ≡ true
  pub s_low : (b l : ℕ) → A.fits b l ≡ true → A.low b l ≡ s + E.low (b - s) l
  pub s_high : (b l : ℕ) → A.fits b l ≡ true → A.high b l ≡ s + E.high (b - s) l
  pub s_heap : (a : ℕ) → A.heap a ≡ E.heap (a - s)
  pub s_gaps : (bs : List Block) → Placed A 0 bs → A.gaps bs ≡ map (gap_up s) (E.gaps (downs s bs))

-- A segment's number tells whether the segment is free. Assumes nothing.
use mathlib.Core.Path.{◌≡◌, sym, ap, ◌∙◌}
use mathlib.Core.List.{List}
use Prim.Native.Nat.{ℕ, ◌+◌}
use lib.Bits.{bit_or}
use lib.Dec.{eqb}
use Rattle.number.specs.Little.{word}
use Rattle.number.specs.Parts.{at}
use Rattle.number.proofs.BitLaws.{or-none}
use Rattle.number.proofs.ZeroLaws.{zero_word, zeros-next}
use Rattle.heap_gap.specs.Scans.{Tells}

-- the number in a segment tells whether it is free
pub word-tells : {G : ℕ} {h : List ℕ} {p w : ℕ} → w ≡ word (at h) p G → Tells G h p w
word-tells {G} {h} {p} {w} e = record { same = ap (λ (x : ℕ). eqb x 0) e ∙ zero_word (at h) p G }

-- so do those in its two halves, taken as one
pub halves-tell : (W : ℕ) {h : List ℕ} {p a b : ℕ} → a ≡ word (at h) p W → b ≡ word (at h) (p + W) W → Tells (W + W) h p (bit_or a b)
halves-tell W {h} {p} {a} {b} x y =
    record { same = or-none a b ∙ rw (x, y, zero_word (at h) p W, zero_word (at h) (p + W) W) (sym (zeros-next (at h) p W W)) }

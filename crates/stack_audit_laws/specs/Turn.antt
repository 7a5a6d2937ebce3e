-- A turn of the audit's loop: the byte at q, and the walk before and after it. Assumes nothing.
use Rattle.std.specs.Prelude.{Bool, cond, ◌&&◌, ◌||◌, ℕ, ◌+◌, ◌-◌, ◌/◌, ◌%◌, leb, eqb}
use Rattle.number.specs.Little.{word}
use Rattle.stack_layout.specs.Code.{short_length, low_bits, primary_of, secondary_of}
use Rattle.stack_audit_laws.specs.declared.Walk.{Walk}

-- the length that the first byte of a block tells; 0 where no block of nine bytes has room to tell its own
unfoldable pub told : (size : ℕ) (pr se : ℕ → ℕ) (q : ℕ) → ℕ
told size pr se q = cond (leb (pr q / 4) 36) (short_length (pr q / 4)) (cond (leb (q + 9) size) (word se q 4) 0)

-- the length of the block that goes on at q; where none does (L is 0), of the one that would begin there and fit; else 0
unfoldable pub current : (size : ℕ) (pr se : ℕ → ℕ) (q L : ℕ) → ℕ
current size pr se q L = cond (eqb L 0) (cond (leb (q + told size pr se q) size) (told size pr se q) 0) L

-- the block that has its byte i at q, or that would begin there (i is 0), is a literal: its first byte tells
unfoldable pub literal_at : (pr : ℕ → ℕ) (q i : ℕ) → Bool
literal_at pr q i = eqb (pr (q - i) / 2 % 2) 1

-- the bytes x and y are those of byte i of a block of length k, a literal or not; they are zero where k is 0
unfoldable pub stands : (x y k i : ℕ) (t : Bool) → Bool
stands x y k i t = cond (eqb k 0) (eqb x 0 && eqb y 0) (eqb x (primary_of k i (low_bits t (t || eqb (x % 2) 1))) && eqb y (secondary_of k i))

-- the walk past n bytes of a block of length k, m of them written; the block counts where it ends
unfoldable pub past : Walk → (k n m : ℕ) → Walk
past w k n m =
    record {
      len = cond (leb k (w.i + n)) 0 k;
      i = cond (leb k (w.i + n)) 0 (w.i + n);
      blocks = w.blocks + cond (leb k (w.i + n)) 1 0;
      live = w.live + n;
      written = w.written + m;
    }

-- the walk past a byte of a block of length k, m its written bit; past a byte of none where k is 0
unfoldable pub after : Walk → (k m : ℕ) → Walk
after w k m = cond (eqb k 0) w (past w k 1 m)

-- The runs of bytes that a turn of the audit's loop passes at once. Assumes nothing.
use Rattle.std.specs.Prelude.{◌≡◌, Bool, cond, ◌&&◌, List, ℕ, ◌+◌, ◌-◌, ◌*◌, ◌/◌, ◌%◌, ◌≤◌, min, length, leb, ltb, eqb}
use Rattle.std.specs.Int.Bits.{bit_or}
use Rattle.number.specs.Little.{byte_of}
use Rattle.number.specs.Parts.{at, run_of, odd_bytes}
use Rattle.stack_layout.specs.Walk.{is_clear}
use Rattle.stack_audit_laws.specs.Turn.{stands}
use Rattle.stack_audit_laws.specs.declared.Run.{Run}

-- q is a place of shadows of one length, or their end
pub record Inside (P S : List ℕ) (q : ℕ) : Type 0 where
  pub within : q ≤ length P
  pub same : length P ≡ length S
  pub small : length P ≤ 65536

-- the end of the zeros in both shadows from q on, as far as whole eights of bytes are left
unfoldable pub clear_to : (P S : List ℕ) (q : ℕ) → ℕ
clear_to P S q = q + run_of (is_clear (length P) (at P) (at S)) q ((length P - q) / 8 * 8)

-- the run of n bytes from q on, with those of them that are written
unfoldable pub run_at : (P : List ℕ) (q n : ℕ) → Run
run_at P q n = record { n = n; written = odd_bytes (at P) q n }

-- ---- bytes of a block

-- the byte of a code, in a literal or in another block where it is not written
abbrev pub first_byte : (code : ℕ) (t : Bool) → ℕ
first_byte code t = cond t (4 * code + 3) (4 * code)

-- byte j of x is 4 j above the first byte expected, whose written bit may be set besides, and byte j of y is that of pair
unfoldable pub climbs : (x y first pair j : ℕ) → Bool
climbs x y first pair j = eqb (byte_of x j) (bit_or (first + 4 * j) (byte_of x j % 2)) && eqb (byte_of y j) (byte_of pair j)

-- the bytes j of x and y are those of byte i + j of a block of length L, a literal or not
unfoldable pub stands_in : (x y L i : ℕ) (t : Bool) (j : ℕ) → Bool
stands_in x y L i t j = stands (byte_of x j) (byte_of y j) L (i + j) t

-- the bytes at q + j are those of byte i + j of a block of length L, a literal or not
unfoldable pub stands_at : (P S : List ℕ) (q L i : ℕ) (t : Bool) (j : ℕ) → Bool
stands_at P S q L i t j = stands (at P (q + j)) (at S (q + j)) L (i + j) t

-- how many bytes from q on are those of a block of length L from its byte i on
unfoldable pub own_run : (P S : List ℕ) (q L i : ℕ) (t : Bool) → ℕ
own_run P S q L i t = run_of (stands_at P S q L i t) 0 (min (length P - q) (L - i))

-- the rest of the block, if it is all there
unfoldable pub end_run : (P S : List ℕ) (q L i : ℕ) (t : Bool) → ℕ
end_run P S q L i t = cond (eqb (own_run P S q L i t) (L - i)) (L - i) 0

-- from its byte i on eight bytes of a piece are left
unfoldable pub has_piece : (L i : ℕ) → Bool
has_piece L i = ltb 8 L && leb 8 (L - i)

-- how many bytes of a block a turn passes at once: where a multiple of eight is behind, the pieces of a long block eight bytes at a time, or
-- else its last bytes, if eight bytes of the shadows are left; a block of one byte is left to the turn past one
unfoldable pub ahead_run : (P S : List ℕ) (q L i : ℕ) (t : Bool) → ℕ
ahead_run P S q L i t =
    cond (eqb (i % 8) 0)
    (cond (has_piece L i) (own_run P S q L i t / 8 * 8)
    (cond (ltb 1 L && leb (q + 8) (length P)) (end_run P S q L i t) 0))
    0

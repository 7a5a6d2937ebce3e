-- Document 01: the place that a block takes, what fits, and what meets. Assumes nothing.
use Rattle.std.specs.Prelude.{Bool, cond, not, ◌&&◌, ℕ, ◌+◌, ◌*◌, ◌-◌, ◌/◌, leb, ltb}
use Rattle.types.specs.Block.{Block, len}
use Rattle.specification.specs.Map.{Map, heap_end, stack_end, in_heap, in_stack}
use Rattle.specification.specs.Form.{Form}

-- ---- the place of a heap block: its header, which is the segment before the base, and its segments

-- ⌈L / segment⌉
abbrev pub segments : Form → (L : ℕ) → ℕ
segments F L = (L + (F.segment - 1)) / F.segment

-- its first address, and the address after its last. A base that fits has a header before it: then the subtraction is exact
abbrev pub place_start : Form → (base : ℕ) → ℕ
place_start F base = base - F.segment

abbrev pub place_end : Form → (base L : ℕ) → ℕ
place_end F base L = base + segments F L * F.segment

abbrev pub place_length : Form → (L : ℕ) → ℕ
place_length F L = F.segment + segments F L * F.segment

-- ---- any block

-- block and, in the heap, header lie in the area that has the base. S-5: a literal's base is the stack's
abbrev pub fits : Form → Map → (literal : Bool) (base L : ℕ) → Bool
fits F m literal base L =
    cond (in_heap m base) (not literal && leb (m.heap_start + F.segment) base && leb (base + L) (heap_end m)) (in_stack m base && leb (base + L) (stack_end m))

-- the footprint: header and segments of a heap block, the bytes of a stack block
abbrev pub foot_start : Form → Map → (base : ℕ) → ℕ
foot_start F m base = cond (in_heap m base) (place_start F base) base

abbrev pub foot_end : Form → Map → (base L : ℕ) → ℕ
foot_end F m base L = cond (in_heap m base) (place_end F base L) (base + L)

-- a block of this base and length would meet a listed one: each footprint begins before the other ends
abbrev pub meets : Form → Map → (base L : ℕ) → Block → Bool
meets F m base L b = ltb (foot_start F m base) (foot_end F m b.base (len b)) && ltb (foot_start F m b.base) (foot_end F m base L)

-- The rules of the two kinds of area, and of a map. Assumes nothing.
use Rattle.std.specs.Prelude.{Bool, true, false, not, ◌&&◌, [], ℕ, ◌+◌, ◌*◌, ◌-◌, ◌/◌, ◌%◌, leb, ltb, eqb}
use Rattle.map.specs.FormMap.{FormMap}
use Rattle.map.specs.Map.{within}
use Rattle.plain.specs.Block.{Block, len}
use Rattle.plain.specs.Blocks.{any}
use Rattle.plain.specs.Gaps.{gaps_of}
use Rattle.plain.specs.Rules.{Rules}
use Rattle.plain.specs.Join.{join_rules}

-- the least number of segments of G bytes that hold n bytes
unfoldable pub segments : (G n : ℕ) → ℕ
segments G n = (n + (G - 1)) / G

-- the bytes of the place of a block of length l: its header, which begins G before the base, and its whole segments
unfoldable pub place_length : (G l : ℕ) → ℕ
place_length G l = G + segments G l * G

-- the place of the block holds a byte of the segment that begins at a
unfoldable pub takes : (G a : ℕ) → Block → Bool
takes G a b = ltb (b.base - G) (a + G) && ltb a (b.base + segments G (len b) * G)

-- a heap of segments of G bytes: a block takes its header, the segment before its base, and its segments; its base is a multiple of G
abbrev pub heap_rules : (G start size : ℕ) → Rules
heap_rules G start size =
    record {
      inside = within start size;
      fits = λ b l. leb (start + G) b && leb (b + l) (start + size) && within start size b;
      aligned = λ b. eqb (b % G) 0;
      low = λ b l. b - G;
      high = λ b l. b + segments G l * G;
      heap = λ a. true;
      top = start + size;
      segment = G;
      gaps = λ bs. gaps_of G start (λ i. not (any (takes G (start + i * G)) bs)) (size / G);
    }

-- a stack: a block takes its own bytes, at any alignment; it has no gaps to choose from
abbrev pub stack_rules : (start size : ℕ) → Rules
stack_rules start size =
    record {
      inside = within start size;
      fits = λ b l. leb (b + l) (start + size) && within start size b;
      aligned = λ b. true;
      low = λ b l. b;
      high = λ b l. b + l;
      heap = λ a. false;
      top = start + size;
      segment = 1;
      gaps = λ bs. [];
    }

-- a heap of the form's segments and a stack
abbrev pub map_rules : FormMap → Rules
map_rules m = join_rules (heap_rules m.segment m.heap_start m.heap_size) (stack_rules m.stack_start m.stack_size)

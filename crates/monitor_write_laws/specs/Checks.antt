-- A call that writes is a check, which only reads, and an effect at the place that the check found. Assumes nothing.
use Rattle.std.specs.Prelude.{◌≡◌, true, cond, ◌≢◌, List, ℕ, ◌+◌, ◌%◌, ◌≤◌, length, eqb, Option, Some, None, Result, Ok, Err}
use Rattle.map.specs.FormMap.{FormMap, areas}
use Rattle.map.specs.declared.Position.{Position}
use Rattle.types.specs.declared.Beginning.{Beginning}
use Rattle.plain.specs.Areas.{map_rules}
use Rattle.plain.specs.Block.{begun}
use Rattle.plain.specs.Ops.{mark_range, read_any}
use Rattle.plain.specs.Reading.{Reading, nothing, block, damaged}
use Rattle.plain.specs.Call.{Call, Answer, number, refusal, done}
use Rattle.plain.specs.ShadowCalls.{length_of}
use Rattle.heap_layout.specs.Ops.{heap_ops, heap_stamp, heap_erase}
use Rattle.stack_layout.specs.Ops.{stack_ops, stack_vacant, stack_stamp, stack_erase}
use Rattle.shadows.specs.Shadows.{Shadows, shadow_ops}
use Rattle.monitor_base.specs.Calls.{call}
use Rattle.map.specs.Locating.{Lies}
use Rattle.monitor_base.specs.declared.Block.{Block}
use Rattle.monitor_base.specs.declared.Refusal.{Refusal}
use Rattle.monitor_base.specs.declared.Refusal.TheVariants.{NoBlock, Damaged}
use Rattle.monitor_base.specs.Refusals.{code_of}
use Rattle.map.specs.declared.Located.{Located}
use Rattle.map.specs.declared.Located.TheVariants.{Heap, Stack, Outside}

-- the number of a call: the first refusal that holds, or 0
abbrev pub number_of : FormMap → Call → Shadows → ℕ
number_of m c s = number (call m c s).1

-- where the number is not 0, nothing is to be done: the place is in neither area
abbrev pub Idle : (number : ℕ) → Located → Type 0
Idle k x = k ≢ 0 → x ≡ Outside

-- ---- a record

-- a block of l bytes can be stamped there; in neither area it cannot
abbrev pub Stampable : (G : ℕ) → Located → (l : ℕ) → Shadows → Type 0
Stampable G (Heap p) l s =
    ((G ≤ p.0) × (p.0 % G ≡ 0) × (p.0 + l ≤ length s.0))
    × ((1 ≤ l) × (length s.0 % G ≡ 0) × (length s.0 ≤ 131072))
Stampable G (Stack p) l s =
    (p.0 + l ≤ length s.1.0) × (length s.1.0 ≡ length s.1.1) × (length s.1.0 ≤ 65536) × (1 ≤ l) × (stack_vacant s.1 p.0 l ≡ true)
Stampable G Outside l s = ⊥

abbrev pub stamped_at : (W G : ℕ) → Located → Beginning → (l : ℕ) → Shadows → Shadows
stamped_at W G (Heap p) how l s = (heap_stamp W G s.0 (begun how p.0 l), s.1)
stamped_at W G (Stack p) how l s = (s.0, stack_stamp s.1 (begun how p.0 l))
stamped_at W G Outside how l s = s

-- ---- a free, and a remove

-- what a reading at a position says of a block that is to end there: its own first byte, or why none may end
abbrev pub ending_of : Reading → Position → Result Block Refusal
ending_of nothing p = Err NoBlock
ending_of (block b l o w t) p = cond (eqb o 0) (Ok (record { base = p; length = l })) (Err NoBlock)
ending_of damaged p = Err Damaged

-- what a call comes to by what its check found, where `erase` empties a place
abbrev pub ended_by : {S : Type 0} → (erase : (p l : ℕ) → S) → S → Result Block Refusal → S × Answer
ended_by erase s (Ok b) = (erase b.base.0 b.length, done)
ended_by erase s (Err r) = (s, refusal (code_of r))

-- a free, in the heap, where there may be nothing to erase; a remove, in the stack
abbrev pub freed_by : (W G : ℕ) → Shadows → Result (Option Block) Refusal → Shadows × Answer
freed_by W G s (Ok (Some b)) = ((heap_erase W G s.0 b.base.0 b.length, s.1), done)
freed_by W G s (Ok None) = (s, done)
freed_by W G s (Err r) = (s, refusal (code_of r))

abbrev pub removed_by : Shadows → Result Block Refusal → Shadows × Answer
removed_by s = ended_by (λ p l. (s.0, stack_erase s.1 p l)) s

-- the length of the block that is read at an address, 0 where none is
abbrev pub block_length : FormMap → Shadows → (a : ℕ) → ℕ
block_length m s a = length_of (read_any (map_rules m) (shadow_ops m) s a)

-- a block that was found is that of the address, and can be erased there; else only a free of C's null pointer is accepted, and no remove
abbrev pub Freeable : FormMap → Shadows → (a : ℕ) → Result (Option Block) Refusal → Type 0
Freeable m s a (Ok (Some b)) =
    (Lies (areas m) a (Heap b.base) × (b.length ≡ block_length m s a))
    × ((m.segment ≤ b.base.0) × (b.base.0 % m.segment ≡ 0) × (b.base.0 + b.length ≤ length s.0))
    × ((1 ≤ b.length) × (length s.0 % m.segment ≡ 0) × (length s.0 ≤ 131072))
Freeable m s a (Ok None) = a ≡ 0
Freeable m s a (Err r) = code_of r ≢ 0

abbrev pub Removable : FormMap → Shadows → (a : ℕ) → Result Block Refusal → Type 0
Removable m s a (Ok b) =
    (Lies (areas m) a (Stack b.base) × (b.length ≡ block_length m s a))
    × ((b.base.0 + b.length ≤ length s.1.0) × (length s.1.0 ≡ length s.1.1) × (length s.1.0 ≤ 65536))
Removable m s a (Err r) = code_of r ≢ 0

-- ---- a mark of written bytes

-- n bytes can be marked there, where the secondary has no part; in neither area nothing is to be done
abbrev pub Markable : (G : ℕ) → Located → (n : ℕ) → (heap primary : List ℕ) → Type 0
Markable G (Heap q) n h p = (q.0 + n ≤ length h) × (length h % G ≡ 0) × (length h ≤ 131072)
Markable G (Stack q) n h p = q.0 + n ≤ length p
Markable G Outside n h p = Unit {0}

abbrev pub marked_at : (W G : ℕ) → Located → (n : ℕ) → Shadows → Shadows
marked_at W G (Heap p) n s = (mark_range (heap_ops W G (length s.0)) s.0 p.0 n, s.1)
marked_at W G (Stack p) n s = (s.0, mark_range (stack_ops (length s.1.0)) s.1 p.0 n)
marked_at W G Outside n s = s

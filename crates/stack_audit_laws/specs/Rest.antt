-- What is ahead of the audit's walk, and what a turn of its loop keeps. Assumes nothing.
use Rattle.std.specs.Prelude as std
use Rattle.std.specs.Prelude.{Some, None, ◌≡◌, true, cond, List, ℕ, ◌+◌, ◌-◌, ◌≤◌, ◌<◌, max, length, eqb}
use Rattle.std.proofs.Math.Option.{Option, none, some}
use Rattle.number.specs.Bits.{ones}
use Rattle.number.specs.Parts.{at}
use Rattle.plain.specs.Blocks.{count, live, written}
use Rattle.plain.specs.Reading.{Tally, tally}
use Rattle.plain.specs.Found.{Found, bad, got}
use Rattle.stack_layout.specs.Walk.{stack_walk}
use Rattle.stack_audit_laws.specs.declared.Walk.{Walk}
use Rattle.stack_audit_laws.specs.declared.Moved.{Moved}
use Rattle.stack_audit_laws.specs.Turn.{literal_at}

-- what is found, beside the blocks, live bytes and written bytes that were counted
unfoldable pub beside : (b l m : ℕ) → Found → Option Tally
beside b l m bad = none
beside b l m (got ms bs) = some (tally 0 (b + count (λ a. true) bs) (l + (length ms + live bs)) (m + (ones ms + written bs)))

-- what is ahead of a walk that has n bytes left, from q on; the block that goes on there was not counted yet
unfoldable pub ahead : (size : ℕ) (pr se : ℕ → ℕ) (n q : ℕ) → Walk → Option Tally
ahead size pr se n q w = beside (w.blocks + cond (eqb w.len 0) 0 1) w.live w.written (stack_walk size pr se n q w.len w.i (literal_at pr q w.i))

-- what is ahead of a walk over two shadows that has come to q
unfoldable pub rest : (P S : List ℕ) (q : ℕ) → Walk → Option Tally
rest P S q w = ahead (length P) (at P) (at S) (length P - q) q w

-- what a turn keeps
pub record Kept (size q : ℕ) (w : Walk) : Type 0 where
  pub within : q ≤ size
  pub begun : w.i ≤ q
  pub offset : w.i < max w.len 1
  pub few : w.blocks ≤ q
  pub lives : w.live ≤ q
  pub marks : w.written ≤ q

-- the walk stands at q, inside shadows of one length
pub record Stands (P S : List ℕ) (q : ℕ) (w : Walk) : Type 0 where
  pub inside : q < length P
  pub same : length P ≡ length S
  pub small : length P ≤ 65536
  pub kept : Kept (length P) q w

-- a turn that goes on passes at least one byte, and leaves what the walk comes to as it was; none where the shadows are no image
abbrev pub Turned : (P S : List ℕ) (q : ℕ) → Walk → std.Option Moved → Type 0
Turned P S q w None = rest P S q w ≡ none
Turned P S q w (Some m) = (rest P S q w ≡ rest P S (q + m.n) m.walk) × (1 ≤ m.n) × Kept (length P) (q + m.n) m.walk

-- What one turn of a calls program does: a record, or the end of the input. Assumes nothing.
use Rattle.std.specs.Prelude.{◌≡◌, false, List, ◌≢◌, ℕ, drop}
use Rattle.std.proofs.Math.Option.{Option, none, some}
use Rattle.calls_format.specs.Program.{Program, undecodable, request_line}
use Rattle.calls_window.specs.declared.Window.{Window}
use Rattle.calls_window.specs.Window.{Held, Refilled, content}
use Rattle.calls_output.specs.Pending.{Waits, Added}
use Rattle.calls_run.specs.declared.Run.{Run}

-- where a run stands between turns: what goes from record to record, the program's state, and the buffers of input and output
pub record Point (P : Program) : Type 0 where
  pub run : Run
  pub state : P.State
  pub bytes : List ℕ
  pub lines : List ℕ

-- window and waiting lines lie in buffers of 64 KiB
abbrev pub Goes : Run → Type 0
Goes r = Held r.window 65536 × Waits r.pending 65536

-- the bytes that are read and not yet taken
abbrev pub left : {P : Program} → Point P → List ℕ
left p = content p.run.window p.bytes

-- from a to b a text was put behind the lines that wait
abbrev pub Tells : {P : Program} (a b : Point P) (text : List ℕ) → Type 0
Tells a b text = Added a.run.pending b.run.pending text 65536 a.lines b.lines

-- nothing is left: the end, and all stays
abbrev pub Ends : {P : Program} (a b : Point P) → Type 0
Ends a b = (b.run.on ≡ false) × (b.state ≡ a.state) × (b.run.pending ≡ a.run.pending) × (b.lines ≡ a.lines)

-- what the first record of the bytes l does: `9` and the end, or its line, the state after it, and the bytes after it
abbrev pub Does : {P : Program} (a b : Point P) (l : List ℕ) → Option P.Request → Type 0
Does a b l none = (b.run.on ≡ false) × (b.state ≡ a.state) × Tells a b undecodable
Does {P} a b l (some q) =
    (b.run.on ≡ b.run.pending.open) × (b.state ≡ (P.serve q a.state).0) × (left b ≡ drop (P.size q) l)
    × Tells a b (request_line P q a.state)

-- the window is refilled, and then the run ends, or the first record does what it does
pub record Turned {P : Program} (a b : Point P) : Type 0 where
  pub goes : Goes b.run
  pub window : Window
  pub refilled : Refilled a.run.window window 65536 a.bytes b.bytes
  pub more : b.run.window.more ≡ window.more
  pub ends : window.at ≡ window.end → Ends a b
  pub does : window.at ≢ window.end → Does a b (content window b.bytes) (P.decode (content window b.bytes))

-- The window of the input's buffer: the bytes that are read and not yet taken. Assumes nothing.
use Rattle.std.specs.Prelude.{◌≡◌, true, false, List, ℕ, ◌+◌, ◌-◌, ◌≤◌, length, take, drop}
use Rattle.calls_format.specs.Decoded.{longest}
use Rattle.calls_window.specs.declared.Window.{Window}

-- a window lies in a buffer of this size
abbrev pub Held : Window → (size : ℕ) → Type 0
Held w size = (w.at ≤ w.end) × (w.end ≤ size)

-- the bytes that are read and not yet taken
abbrev pub content : Window → List ℕ → List ℕ
content w l = take (w.end - w.at) (drop w.at l)

-- what was left still comes first; the longest record is there unless the input has ended; after its end nothing is read; the
-- buffer stays as long as it was
pub record Refilled (w r : Window) (size : ℕ) (entry exit : List ℕ) : Type 0 where
  pub held : Held r size
  pub first : take (w.end - w.at) (content r exit) ≡ content w entry
  pub long : r.more ≡ true → longest ≤ r.end - r.at
  pub ended : w.more ≡ false → (r.more ≡ false) × (content r exit ≡ content w entry)
  pub kept : length exit ≡ length entry

-- the window stands past so many bytes
pub record Passed (w r : Window) (length : ℕ) : Type 0 where
  pub from : r.at ≡ w.at + length
  pub to : r.end ≡ w.end
  pub more : r.more ≡ w.more

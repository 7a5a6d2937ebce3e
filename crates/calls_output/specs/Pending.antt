-- What waits in the output's buffer to be written. Assumes nothing.
use Rattle.std.specs.Prelude.{◌≡◌, false, cond, List, ◌++◌, ℕ, ◌+◌, ◌≤◌, length, take, leb}
use Rattle.calls_output.specs.declared.Pending.{Pending}

-- what waits lies in a buffer of this size
abbrev pub Waits : Pending → (size : ℕ) → Type 0
Waits p size = p.filled ≤ size

-- there is room for a line behind what waits
abbrev pub Roomy : Pending → (size : ℕ) → Type 0
Roomy p size = p.filled + 64 ≤ size

-- how many bytes stay before a line is added: none where 64 more have no room, since all are written out first
abbrev pub stays : (filled size : ℕ) → ℕ
stays filled size = cond (leb (filled + 64) size) filled 0

abbrev pub waiting : Pending → List ℕ → List ℕ
waiting p l = take (stays p.filled (length l)) l

-- all was written out: nothing waits, and a closed output stays closed
pub record Flushed (p r : Pending) : Type 0 where
  pub none : r.filled ≡ 0
  pub closed : p.open ≡ false → r.open ≡ false

-- there is room for a line, what waited waits or was written out, and only writing out can have closed the output
pub record Readied (p r : Pending) (size : ℕ) : Type 0 where
  pub room : Roomy r size
  pub left : r.filled ≡ stays p.filled size
  pub still : Roomy p size → r.open ≡ p.open
  pub closed : p.open ≡ false → r.open ≡ false

-- a text waits behind what waited, and only writing out can have closed the output
pub record Added (p r : Pending) (text : List ℕ) (size : ℕ) (entry exit : List ℕ) : Type 0 where
  pub lies : Waits r size
  pub holds : take r.filled exit ≡ waiting p entry ++ text
  pub still : Roomy p size → r.open ≡ p.open
  pub closed : p.open ≡ false → r.open ≡ false

-- A scan of gaps as code goes it: what it comes to, beside what it looked at already. Assumes nothing.
use Rattle.std.specs.Prelude.{List, ℕ, ◌+◌, ◌-◌, length, take}
use Rattle.std.proofs.Math.Option.{Option, none, some}
use Rattle.plain.specs.Gaps.{Gap, smaller, best}

-- the gap chosen so far, or the one chosen of those that are left
abbrev pub prefer : Option Gap → Option Gap → Option Gap
prefer none o = o
prefer (some g) o = smaller g o

-- how many gaps are looked at, and which is chosen: so far, `looked` and c; gs are left
unfoldable pub scanned : (need budget looked : ℕ) → Option Gap → List Gap → ℕ × Option Gap
scanned need k looked c gs = (looked + length (take (k - looked) gs), prefer c (best need (take (k - looked) gs)))

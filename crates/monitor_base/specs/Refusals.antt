-- The numbers of refusals. Assumes nothing.
use Rattle.std.specs.Prelude.{◌≡◌, ◌≢◌, ℕ, Result, Ok, Err, MatchResult}
use Rattle.monitor_base.specs.declared.Refusal.{Refusal}
use Rattle.monitor_base.specs.declared.Refusal.TheVariants.{BadMap, BadLength, Empty, Outside, Misaligned, Occupied, NoBlock, Damaged, TooLarge, NoPointer, NoOrigin, Literal, NoGap, NotHeap}

abbrev pub code_of : Refusal → ℕ
code_of BadMap = 1
code_of BadLength = 2
code_of Empty = 3
code_of Outside = 4
code_of Misaligned = 5
code_of Occupied = 6
code_of NoBlock = 7
code_of Damaged = 8
code_of TooLarge = 10
code_of NoPointer = 11
code_of NoOrigin = 12
code_of Literal = 13
code_of NoGap = 14
code_of NotHeap = 15

-- the number that is told: 0 for accepted
abbrev pub told_of : {A : Type 0} → Result A Refusal → ℕ
told_of (Ok x) = 0
told_of (Err r) = code_of r

-- a check comes to the number n, 0 where it finds nothing to refuse
abbrev pub Decides : {A : Type 0} → ℕ → Result A Refusal → Type 0
Decides n r = MatchResult r (λ x. n ≡ 0) (λ e. (code_of e ≡ n) × (code_of e ≢ 0))

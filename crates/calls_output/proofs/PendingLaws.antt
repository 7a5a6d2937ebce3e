-- A text that waits, under another name of it. Assumes nothing.
use mathlib.Core.Path.{◌≡◌, sym}
use mathlib.Core.List.{List, ◌++◌}
use Prim.Native.Nat.{ℕ}
use lib.ListN.{length, take}
use lib.Seq.{take_at}
use Rattle.calls_output.specs.declared.Pending.{Pending}
use Rattle.calls_output.specs.Pending.{Added}

pub text-as : {p r : Pending} {size : ℕ} {entry exit : List ℕ} (x y : List ℕ) → x ≡ y → Added p r x size entry exit → Added p r y size entry exit
text-as x y e d = rw e at d

pub pending-as : {p q : Pending} {text entry exit : List ℕ} {size : ℕ} (r : Pending) → r ≡ q → Added p q text size entry exit → Added p r text size entry exit
pending-as r e d = rw e d

-- a rendered line is the front of its buffer
pub rendered : (n : ℕ) (x t rest : List ℕ) → n ≡ length x → t ≡ x ++ rest → take n t ≡ x
rendered n x t rest e f = rw f (take_at x rest n (sym e))

-- What the checks of the calls of pointers tell. Assumes nothing.
use mathlib.Core.Path.{◌≡◌, sym}
use mathlib.Core.Bool.{true, cond, ◌&&◌}
use mathlib.Core.Logic.{◌≢◌}
use Prim.Native.Nat.{ℕ, ◌*◌}
use lib.Dec.{eqb}
use lib.ListN.{length}
use Rattle.std.specs.Prelude.{Result, Ok, Err, IsErrAnd}
use Rattle.map.specs.declared.Map.{Map}
use Rattle.map.specs.FormMap.{player}
use Rattle.map.specs.Map.{good_map}
use Rattle.plain.specs.Call.{first_of}
use Rattle.shadows.specs.Shadows.{Shadows, lengths_fit}
use Rattle.origins_list.specs.Call.{Call}
use Rattle.cells_layout.specs.Cells.{Cells, cells_fit}
use Rattle.monitor_base.specs.Refusals.{code_of}
use Rattle.monitor_base.specs.declared.Refusal.{Refusal}
use Rattle.origins_base.specs.Calls.{State, refusals}
use Rattle.origins_base.proofs.CallLaws.{early-good}
use Rattle.origins_laws.proofs.PointerLaws.{number-early}
use Rattle.origins_pointer.specs.declared.Aim.{Aim}
use Rattle.origins_pointer.specs.Aims.{AimsAt}

module _ (m : Map) (s : Shadows) (x : Cells) where
  abbrev state : State
  state = record { shadows = s; cells = x; counter = 0 }

  -- the number that the check of map and lengths comes to
  abbrev number : ℕ
  number =
      cond (good_map (player m)) (cond (eqb (length s.0) m.heap_size && eqb (length s.1.0) m.stack_size && eqb (length s.1.1) m.stack_size)
      (cond (eqb (length x.0) (2 * m.heap_size) && eqb (length x.1) (2 * m.stack_size)) 0 2) 2) 1

  pub fits : number ≡ 0 → (good_map (player m) ≡ true) × (lengths_fit (player m) s ≡ true) × (cells_fit m x ≡ true)
  unfolding lengths_fit cells_fit
  fits e = early-good m state (sym e)

  pub unfit : (c : Call) (k : ℕ) → k ≡ number → k ≢ 0 → k ≡ first_of (refusals m c state)
  unfolding lengths_fit cells_fit
  unfit c k = number-early m c state k

  -- what a `?` returns
  pub aim-refused : (c n v : ℕ) (r : Result Aim Refusal) (k : Refusal) → IsErrAnd r (λ e. e ≡ k) → code_of k ≡ n → code_of k ≢ 0 → AimsAt m s x c n v r
  aim-refused c n v (Ok a) k h e z = absurd h
  aim-refused c n v (Err y) k h e z = rw h (e, z)

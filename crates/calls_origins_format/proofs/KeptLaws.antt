-- The first bytes of a buffer as shadow or cells: what a call on them leaves, and what an accepted map leaves. Assumes nothing.
use mathlib.Core.Path.{◌≡◌, refl, sym, ap, ◌∙◌}
use mathlib.Core.Bool.{true}
use mathlib.Core.List.{List, ◌++◌}
use Prim.Native.Nat.{ℕ, ◌*◌, ◌≤◌, min}
use native.Mathlib.Omega.{arith}
use lib.ListN.{length, take, drop}
use lib.Seq.{length-take-le}
use borrow.Author.Tests.{eq-eqb}
use Rattle.map.specs.declared.Map.{Map}
use Rattle.map.specs.FormMap.{player}
use Rattle.plain.specs.Call.{Answer, clear, done}
use Rattle.origins_list.specs.Call.{Call, plain}
use Rattle.shadows.specs.Shadows.{zero_shadows}
use Rattle.cells_layout.specs.Cells.{cells_fit, no_cells}
use Rattle.origins_base.specs.Answers.{lent}
use Rattle.origins_base.specs.Calls as form
use Rattle.calls_format.specs.Running.{map_number}
use Rattle.calls_format.proofs.ServeLaws.{accepted-good}
use Rattle.calls_format.proofs.KeptLaws.{take_min, part-back, sizes, parts-fit}
use Rattle.calls_origins_format.specs.Kept.{parts}
use Rattle.calls_origins_format.specs.Running.{cleared}

-- a call on parts of the buffers is a call on the shadows and the cells
module _ (m : Map) (h p s x y : List ℕ) (i j k u v : ℕ)
    (ei : i ≡ min m.heap_size (length h)) (ej : j ≡ min m.stack_size (length p)) (ek : k ≡ min m.stack_size (length s))
    (eu : u ≡ min (2 * m.heap_size) (length x)) (ev : v ≡ min (2 * m.stack_size) (length y)) where
  pub on-parts : (c : Call) (r : Answer) (n n' : ℕ) (h' p' s' x' y' : List ℕ)
      → length h' ≡ length (take i h) → length p' ≡ length (take j p) → length s' ≡ length (take k s)
      → length x' ≡ length (take u x) → length y' ≡ length (take v y)
      → (lent h' p' s' x' y' n', r) ≡ form.call m c (lent (take i h) (take j p) (take k s) (take u x) (take v y) n)
      → (parts m (h' ++ drop i h) (p' ++ drop j p) (s' ++ drop k s) (x' ++ drop u x) (y' ++ drop v y) n', r) ≡ form.call m c (parts m h p s x y n)
  on-parts c r n n' h' p' s' x' y' lh lp ls lx ly e =
      rw (
        part-back h h' m.heap_size i ei lh,
        part-back p p' m.stack_size j ej lp,
        part-back s s' m.stack_size k ek ls,
        part-back x x' (2 * m.heap_size) u eu lx,
        part-back y y' (2 * m.stack_size) v ev ly,
      )
      (e
      ∙ rw (
        take_min h m.heap_size i ei,
        take_min p m.stack_size j ej,
        take_min s m.stack_size k ek,
        take_min x (2 * m.heap_size) u eu,
        take_min y (2 * m.stack_size) v ev,
      )
      refl)

-- zeros, and a counter
abbrev after : Map → (counter : ℕ) → form.State × Answer
after m n = (record { shadows = zero_shadows (player m); cells = no_cells m; counter = n }, done)

-- under an accepted map clear leaves zeros, and the counter
module _ (m : Map) (h p s x y : List ℕ) (z : map_number m ≡ 0) (lh : 32768 ≤ length h) (lp : 16384 ≤ length p) (ls : 16384 ≤ length s)
    (lx : 65536 ≤ length x) (ly : 32768 ≤ length y) where
  cells_fit_lem : (k : ℕ) → cells_fit m (parts m h p s x y k).cells ≡ true
  unfolding cells_fit
  cells_fit_lem k =
      rw (
        eq-eqb (length (take (2 * m.heap_size) x)) (2 * m.heap_size) (length-take-le (2 * m.heap_size) x (omega (arith, (sizes m z).0, lx))),
        eq-eqb (length (take (2 * m.stack_size) y)) (2 * m.stack_size) (length-take-le (2 * m.stack_size) y (omega (arith, (sizes m z).1, ly))),
      )

  pub parts-cleared : (k : ℕ) (t : form.State) → t.counter ≡ k → form.call m (plain clear) (parts m h p s x y k) ≡ (cleared m t, done)
  unfolding form.call
  parts-cleared k t e =
      rw (accepted-good m z, parts-fit m h p s z lh lp ls, cells_fit_lem k)
      (ap (after m) (sym e))

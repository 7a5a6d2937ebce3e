-- Laws of the window: its length, filling it again, and going past a record. Assumes nothing.
use mathlib.Core.Path.{◌≡◌, refl, sym, ap, ◌∙◌}
use mathlib.Core.Bool.{Bool, true}
use mathlib.Core.List.{List}
use Prim.Native.Nat.{ℕ, ◌+◌, ◌-◌, ◌≤◌}
use native.Mathlib.Omega.{arith}
use native.Mathlib.Nat.{sub-zero}
use lib.ListN.{length, take, drop, length-take, length-drop}
use lib.Seq.{paste, take-take, drop-drop}
use Rattle.calls_format.specs.Decoded.{longest}
use Rattle.calls_window.specs.declared.Window.{Window}
use Rattle.calls_window.specs.Window.{Held, content, Refilled}
use Rattle.calls_format.proofs.CopyLaws.{copied, drop-take}

pub content-length : (w : Window) (l : List ℕ) → Held w (length l) → length (content w l) ≡ w.end - w.at
content-length w l h = simp (length-take, length-drop) (omega arith)

-- the bytes in a window are no more than it is long
pub content-short : (w : Window) (l : List ℕ) → length (content w l) ≤ w.end - w.at
content-short w l = omega (arith, length-take (w.end - w.at) (drop w.at l))

-- d before, b after what is left was moved to the front, l after the reads
pub refilled : (w : Window) (end : ℕ) (more : Bool) (d b l : List ℕ) → Held w (length d) × (w.more ≡ true) → w.end - w.at ≤ end → end ≤ length d
    → b ≡ paste d 0 (drop w.at d) (w.end - w.at) → take (w.end - w.at) l ≡ take (w.end - w.at) b → (more ≡ true → longest ≤ end) → length l ≡ length d
    → Refilled w (record { at = 0; end = end; more = more }) (length d) d l
refilled w end more d b l h x y m e g k =
    record {
      held = (omega arith, y);
      first =
          rw (sub-zero end) (take-take (w.end - w.at) end l x
          ∙ e
          ∙ copied d b (drop w.at d) 0 (w.end - w.at) (w.end - w.at) (w.end - w.at) refl (omega arith) (omega arith) (omega (arith, h.0.0, h.0.1, length-drop w.at d)) m);
      long = λ t. rw (sub-zero end) (g t);
      ended = λ t. absurd (let u = h.1 in let z : ◌≡◌ {A = ℕ} 0 1 = cc in omega arith);
      kept = k;
    }

-- a window with enough in it, or after the input's end
pub unfilled : (w : Window) (size : ℕ) (d : List ℕ) → Held w size → (w.more ≡ true → longest ≤ w.end - w.at) → Refilled w w size d d
unfilled w size d h g =
    record {
      held = h;
      first = take-take (w.end - w.at) (w.end - w.at) (drop w.at d) (omega arith);
      long = g;
      ended = λ t. (t, refl);
      kept = refl;
    }

-- past a record of k bytes are the bytes after it
pub content-past : (w r : Window) (k n : ℕ) (l : List ℕ) → Held w w.end → k ≤ w.end - w.at → r.at ≡ w.at + k → r.end ≡ w.end → k ≡ n
    → content r l ≡ drop n (content w l)
content-past w r k n l h x a e q =
    let m : ℕ = w.end - (w.at + k) in
    let z : w.end - w.at ≡ k + m = omega arith in
    rw (← q, a, e, z) (sym (drop-take k m (drop w.at l) ∙ ap (take m) (drop-drop k w.at l)))

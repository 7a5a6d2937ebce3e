-- Free segments, one after the other. Assumes nothing.
use mathlib.Core.Path.{◌≡◌}
use mathlib.Core.Bool.{true}
use Prim.Native.Nat.{ℕ, zero, suc, ◌+◌, ◌*◌, ◌/◌, ◌%◌, ◌≤◌, ◌<◌}
use native.Mathlib.Omega.{arith}
use native.Mathlib.Nat.{div-eq_of_lt-le, add-mul-mod_self_right}
use lib.Dec.{ltb, eqb}
use borrow.Author.Tests.{ltb-true, ltb-false, eqb-true}
use Rattle.number.specs.Little.{word}
use Rattle.number.proofs.TestLaws.{Test, is_true, is_false, test, and-true}
use Rattle.heap_laws.specs.Climb.{free_run}
use Rattle.heap_layout.proofs.SegmentLaws.{aligned-eq}

-- one free segment more
pub free_more : (W G : ℕ) → 0 < G → (f : ℕ → ℕ) (lo q : ℕ) → q % G ≡ 0 → ((x : ℕ) → lo ≤ x → x < q → word f (x / G * G) W ≡ 0) → word f q W ≡ 0
    → (x : ℕ) → lo ≤ x → x < q + G → word f (x / G * G) W ≡ 0
free_more W G g f lo q a free e x i j = go (test (ltb x q))
  where
    go : Test (ltb x q) → word f (x / G * G) W ≡ 0
    go (is_true t) = free x i (ltb-true x q t)
    go (is_false t) =
        let h = ltb-false x q t in
        let b = aligned-eq g q a in
        let s : x / G ≡ q / G = div-eq_of_lt-le {k = q / G} G {m = x} (omega arith) (omega arith) in
        let z : x / G * G ≡ q = rw s b in
        rw z e

-- n free segments more
pub free-run : (W G : ℕ) → 0 < G → (f : ℕ → ℕ) (lo q n : ℕ) → q % G ≡ 0 → ((x : ℕ) → lo ≤ x → x < q → word f (x / G * G) W ≡ 0) → free_run W G f q n ≡ true
    → (x : ℕ) → lo ≤ x → x < q + n * G → word f (x / G * G) W ≡ 0
unfolding free_run
free-run W G g f lo q zero a free e x i j = free x i (omega arith)
free-run W G g f lo q (suc n) a free e x i j =
    let t = and-true (free_run W G f q n) (eqb (word f (q + n * G) W) 0) e in
    free_more W G g f lo (q + n * G) (rw (add-mul-mod_self_right q n G) a) (free-run W G g f lo q n a free t.0) (eqb-true (word f (q + n * G) W) 0 t.1) x i (omega arith)

-- What a block holds, as facts. Assumes nothing.
use mathlib.Core.Path.{◌≡◌}
use mathlib.Core.Bool.{true}
use Prim.Native.Nat.{ℕ, ◌+◌, ◌-◌, ◌≤◌, ◌<◌}
use native.Mathlib.Omega.{arith}
use lib.Dec.{leb, ltb}
use borrow.Author.Tests.{lt-ltb, le-leb, ltb-true, leb-true, eqb-true}
use Rattle.number.proofs.TestLaws.{and-true, same_test}
use Rattle.plain.specs.Block.{Block, len, contains, holds, has_base}

pub contains-true : (a : ℕ) (b : Block) → contains a b ≡ true → (b.base ≤ a) × (a < b.base + len b)
contains-true a b e =
    let t = and-true (leb b.base a) (ltb a (b.base + len b)) e in
    (leb-true b.base a t.0, ltb-true a (b.base + len b) t.1)

pub true-contains : (a : ℕ) (b : Block) → b.base ≤ a → a < b.base + len b → contains a b ≡ true
true-contains a b x y = rw (le-leb b.base a x, lt-ltb a (b.base + len b) y)

pub holds-true : (a n : ℕ) (b : Block) → holds a n b ≡ true → (b.base ≤ a) × (a + n ≤ b.base + len b)
unfolding holds
holds-true a n b e =
    let t = and-true (leb b.base a) (leb (a + n) (b.base + len b)) e in
    (leb-true b.base a t.0, leb-true (a + n) (b.base + len b) t.1)

pub true-holds : (a n : ℕ) (b : Block) → b.base ≤ a → a + n ≤ b.base + len b → holds a n b ≡ true
unfolding holds
true-holds a n b x y = rw (le-leb b.base a x, le-leb (a + n) (b.base + len b) y)

pub holds-one : (a n : ℕ) (b : Block) → 1 ≤ n → holds a n b ≡ true → contains a b ≡ true
holds-one a n b k e = let h = holds-true a n b e in true-contains a b h.0 (omega arith)

pub base-holds : (x : ℕ) (b : Block) → 1 ≤ len b → has_base x b ≡ true → contains x b ≡ true
base-holds x b k e = let q : b.base ≡ x = eqb-true b.base x e in true-contains x b (omega arith) (omega arith)

pub offset-test : (a n : ℕ) (b : Block) → b.base ≤ a → leb (a - b.base + n) (len b) ≡ holds a n b
offset-test a n b x =
    same_test (leb (a - b.base + n) (len b)) (holds a n b)
    (λ e. let h : a - b.base + n ≤ len b = leb-true (a - b.base + n) (len b) e in true-holds a n b x (omega arith))
    (λ e. let h = holds-true a n b e in le-leb (a - b.base + n) (len b) (omega arith))

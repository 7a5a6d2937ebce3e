-- `map::below` meets its contract: what is one below the start is above every start where that is 0. Assumes nothing.
use Rattle.std.proofs.Common.{◌≡◌, ℕ, ◌+◌, ◌%◌, ◌<◌, ◌&&◌, ltb, leb, arith, ltb-true, le-ltb, lt-ltb, le-leb, leb-false, leb-true}
use Rattle.number.proofs.TestLaws.{Test, is_true, is_false, test, same_test}
use Rattle.map.proofs.below.Goals as goal

one_below : (r start size other : ℕ) → r < 4294967296 → other < 4294967296 → (r + 1) % 4294967296 ≡ start
    → ltb (r + size) other ≡ (leb 1 start && leb (start + size) other)
one_below r start size other b o e = go (test (leb 1 start))
  where
    go : Test (leb 1 start) → ltb (r + size) other ≡ (leb 1 start && leb (start + size) other)
    go (is_true t) =
        let l = leb-true 1 start t in
        let q : r + 1 ≡ start = omega arith in
        rw t
        (same_test (ltb (r + size) other) (leb (start + size) other)
        (λ x. le-leb (start + size) other (let y = ltb-true (r + size) other x in omega arith))
        (λ x. lt-ltb (r + size) other (let y = leb-true (start + size) other x in omega arith)))
    go (is_false t) =
        let l = leb-false 1 start t in
        rw (t, le-ltb (r + size) other (omega arith))

pub returns : goal.returns
returns c = one_below _ c.args.start c.args.size c.args.other (omega arith) (omega arith) (omega arith)

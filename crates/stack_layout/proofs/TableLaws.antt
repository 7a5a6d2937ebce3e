-- Table 1: the 36 codes of the short blocks, computed over the whole table, both ways. Assumes nothing.
use mathlib.Core.Path.{◌≡◌, refl}
use mathlib.Core.Bool.{Bool, true, ◌&&◌}
use Prim.Native.Nat.{ℕ, zero, suc, ◌≤◌, ◌<◌}
use native.Mathlib.Omega.{arith}
use lib.Dec.{leb, ltb, eqb}
use borrow.Author.Tests.{ltb-true, leb-true, eqb-true, eqb-false}
use Rattle.number.proofs.TestLaws.{Test, is_true, is_false, test, and-true}
use Rattle.stack_layout.specs.Code.{short_code, length_from, short_length, short_offset}

-- the test passes at each number below n
abbrev all : (ℕ → Bool) → ℕ → Bool
all f zero = true
all f (suc n) = f n && all f n

all-at : (f : ℕ → Bool) (n : ℕ) → all f n ≡ true → (k : ℕ) → k < n → f k ≡ true
all-at f zero t k h = absurd (omega arith)
all-at f (suc n) t k h = let u = and-true (f n) (all f n) t in go (test (eqb k n)) u.0 (all-at f n u.1 k)
  where
    go : Test (eqb k n) → f n ≡ true → (k < n → f k ≡ true) → f k ≡ true
    go (is_true e) x ih = let p : k ≡ n = eqb-true k n e in rw p x
    go (is_false e) x ih = let p = eqb-false k n e in ih (omega arith)

-- length L and offset i are what their code tells
encodes : (L i : ℕ) → Bool
encodes L i = let c = short_code L i in eqb (short_length c) L && eqb (short_offset c) i && leb 1 c && leb c 36

-- code c is the code of what it tells
decodes : (c : ℕ) → Bool
decodes c = let L = short_length c in let i = short_offset c in eqb (short_code L i) c && ltb i L && leb 1 L && leb L 8

-- Table 1, from the lengths 1 to 8 and their offsets to the codes
all-encode : all (λ l. all (encodes (suc l)) (suc l)) 8 ≡ true
unfolding encodes short_length short_offset short_code length_from
all-encode = refl

-- Table 1, from the codes 1 to 36 to lengths and offsets
all-decode : all (λ k. decodes (suc k)) 36 ≡ true
unfolding decodes short_length short_offset short_code length_from
all-decode = refl

pub record Encoded (L i c : ℕ) : Type 0 where
  pub length : short_length c ≡ L
  pub offset : short_offset c ≡ i
  pub some : 1 ≤ c
  pub most : c ≤ 36

pub encoded : (L i : ℕ) → L ≤ 8 → i < L → Encoded L i (short_code L i)
unfolding encodes
encoded zero i h g = absurd (omega arith)
encoded (suc l) i h g =
    let L = suc l in
    let c = short_code L i in
    let t = and-true (eqb (short_length c) L && eqb (short_offset c) i && leb 1 c) (leb c 36)
    (all-at (encodes L) L (all-at (λ l. all (encodes (suc l)) (suc l)) 8 all-encode l (omega arith)) i g) in
    let u = and-true (eqb (short_length c) L && eqb (short_offset c) i) (leb 1 c) t.0 in
    let v = and-true (eqb (short_length c) L) (eqb (short_offset c) i) u.0 in
    record { length = eqb-true (short_length c) L v.0; offset = eqb-true (short_offset c) i v.1; some = leb-true 1 c u.1; most = leb-true c 36 t.1 }

pub record Decoded (c L i : ℕ) : Type 0 where
  pub code : short_code L i ≡ c
  pub offset : i < L
  pub some : 1 ≤ L
  pub most : L ≤ 8

pub decoded : (c : ℕ) → 1 ≤ c → c ≤ 36 → Decoded c (short_length c) (short_offset c)
unfolding decodes
decoded zero h g = absurd (omega arith)
decoded (suc k) h g =
    let c = suc k in
    let L = short_length c in
    let i = short_offset c in
    let t = and-true (eqb (short_code L i) c && ltb i L && leb 1 L) (leb L 8) (all-at (λ k. decodes (suc k)) 36 all-decode k (omega arith)) in
    let u = and-true (eqb (short_code L i) c && ltb i L) (leb 1 L) t.0 in
    let v = and-true (eqb (short_code L i) c) (ltb i L) u.0 in
    record { code = eqb-true (short_code L i) c v.0; offset = ltb-true i L v.1; some = leb-true 1 L u.1; most = leb-true L 8 t.1 }

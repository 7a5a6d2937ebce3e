-- What a run of bytes of one block has passed, and the run as two words show it. Assumes nothing.
use mathlib.Core.Path.{◌≡◌, ap, ◌∙◌}
use mathlib.Core.Bool.{Bool, true, false, cond, ◌&&◌}
use mathlib.Core.List.{List}
use Prim.Native.Nat.{ℕ, ◌+◌, ◌-◌, ◌*◌, ◌/◌, ◌%◌, ◌^◌, ◌≤◌, ◌<◌, min}
use native.Mathlib.Omega.{arith}
use native.Mathlib.Nat.{add-zero, zero-add}
use lib.ListN.{length}
use lib.Dec.{leb, ltb, eqb}
use borrow.Author.Tests.{eqb-true, lt-ltb, leb-false, ltb-true, ltb-false}
use Rattle.number.specs.Little.{byte_of, word}
use Rattle.number.specs.Parts.{at, run_of, odd_bytes}
use Rattle.number.proofs.TestLaws.{Test, is_true, is_false, test}
use Rattle.number.proofs.RunLaws.{run-le, run-at, run-same}
use Rattle.number.proofs.WordLaws.{AllBytes, byte_of-word, odds-same}
use Rattle.stack_audit_laws.specs.Turn.{stands}
use Rattle.stack_audit_laws.specs.Runs.{run_at, first_byte, climbs, stands_in, stands_at, own_run, end_run, has_piece, ahead_run}
use Rattle.stack_audit_laws.proofs.KnownLaws.{piece-run}

-- the n bytes from q on are those of a block of length L, a literal or not, from its byte i on, m of them written
pub record Passed (P S : List ℕ) (q L i : ℕ) (t : Bool) (n m : ℕ) : Type 0 where
  pub block : i + n ≤ L
  pub inside : q + n ≤ length P
  pub stand : (j : ℕ) → j < n → stands (at P (q + j)) (at S (q + j)) L (i + j) t ≡ true
  pub marks : m ≡ odd_bytes (at P) q n

pub run_is : (P : List ℕ) (q n m x : ℕ) → n ≡ x → m ≡ odd_bytes (at P) q n → record { n = n; written = m } ≡ run_at P q x
unfolding run_at
run_is P q n m x a b = rw (b, a)

-- less than eight bytes of a long block are left
pub no-piece : (L i : ℕ) → has_piece L i ≡ false → 8 < L → L - i < 8
unfolding has_piece
no-piece L i e h = leb-false 8 (L - i) (rw (lt-ltb 8 L h) at e)

pub left-few : (L i : ℕ) → has_piece L i ≡ false → L - i ≤ 8
left-few L i e = go (test (ltb 8 L))
  where
    go : Test (ltb 8 L) → L - i ≤ 8
    go (is_true t) = omega (arith, no-piece L i e (ltb-true 8 L t))
    go (is_false t) = omega (arith, ltb-false 8 L t)

module _ (P S : List ℕ) (q L i : ℕ) (t : Bool) where
  end-le : end_run P S q L i t ≤ own_run P S q L i t
  unfolding end_run
  end-le = go (test (eqb (own_run P S q L i t) (L - i)))
    where
      go : Test (eqb (own_run P S q L i t) (L - i)) → cond (eqb (own_run P S q L i t) (L - i)) (L - i) 0 ≤ own_run P S q L i t
      go (is_true e) = rw e (omega (arith, eqb-true (own_run P S q L i t) (L - i) e))
      go (is_false e) = rw e (omega arith)

  ahead-le : ahead_run P S q L i t ≤ own_run P S q L i t
  unfolding ahead_run
  ahead-le = go (eqb (i % 8) 0) (has_piece L i) (ltb 1 L && leb (q + 8) (length P))
    where
      go : (a b c : Bool) → cond a (cond b (own_run P S q L i t / 8 * 8) (cond c (end_run P S q L i t) 0)) 0 ≤ own_run P S q L i t
      go true true c = omega arith
      go true false true = end-le
      go true false false = omega arith
      go false b c = omega arith

  pub passed-ahead : (n m : ℕ) → q ≤ length P → i ≤ L → n ≡ ahead_run P S q L i t → m ≡ odd_bytes (at P) q n → Passed P S q L i t n m
  unfolding own_run stands_at
  passed-ahead n m h k e y =
      let s : ℕ = min (length P - q) (L - i) in
      let l : n ≤ run_of (stands_at P S q L i t) 0 s = rw e ahead-le in
      let b = run-le (stands_at P S q L i t) 0 s in
      record {
        block = omega arith;
        inside = omega arith;
        stand = λ j g. rw (zero-add j) at (run-at (stands_at P S q L i t) 0 s j (omega arith));
        marks = y;
      }

  -- ---- bytes as two words show them

  module _ (n x y : ℕ) (b_p : AllBytes (at P)) (b_s : AllBytes (at S)) (a : x ≡ word (at P) (q + n) 8) (b : y ≡ word (at S) (q + n) 8) where
    pub word_stands : (m : ℕ) → m ≤ 8 → run_of (stands_in x y L (i + n) t) 0 m ≡ run_of (stands_at P S q L i t) n m
    unfolding stands_in stands_at
    word_stands m h = run-same (stands_in x y L (i + n) t) (stands_at P S q L i t) 0 n m same
      where
        same : (j : ℕ) → j < m → stands_in x y L (i + n) t (0 + j) ≡ stands_at P S q L i t (n + j)
        same j k =
            let p : byte_of x j ≡ at P (q + n + j) = ap (λ (z : ℕ). byte_of z j) a ∙ byte_of-word (at P) b_p 8 (q + n) j (omega arith) in
            let s : byte_of y j ≡ at S (q + n + j) = ap (λ (z : ℕ). byte_of z j) b ∙ byte_of-word (at S) b_s 8 (q + n) j (omega arith) in
            let u : q + n + j ≡ q + (n + j) = omega arith in
            let v : i + n + j ≡ i + (n + j) = omega arith in
            rw (zero-add j, p, s, u, v)

    pub word-odds : (m : ℕ) → m ≤ 8 → odd_bytes (byte_of x) 0 m ≡ odd_bytes (at P) (q + n) m
    word-odds m h =
        odds-same (byte_of x) (at P) 0 (q + n) m (λ j k. rw (zero-add j) (ap (λ (z : ℕ). byte_of z j) a ∙ byte_of-word (at P) b_p 8 (q + n) j (omega arith)))

    -- eight bytes of a piece
    pub piece-seen : (b : Bool) (first : ℕ) → first ≡ first_byte 48 t → i + n < L → (i + n) % 8 ≡ 0 → 8 < L → L < 256 ^ 4 → 8 ≤ L - (i + n)
        → b ≡ eqb (run_of (climbs x y first (L + 4294967296 * (i + n))) 0 8) 8 → b ≡ eqb (run_of (stands_at P S q L i t) n 8) 8
    piece-seen b first o g r h l f e = e ∙ rw (o, piece-run x y L (i + n) t g r h l f, word_stands 8 (omega arith))

  -- ---- the last bytes of a block

  module _ (x y : ℕ) (b_p : AllBytes (at P)) (b_s : AllBytes (at S)) (a : x ≡ word (at P) q 8) (b : y ≡ word (at S) q 8) where
    pub end-odds : (m : ℕ) → m ≤ 8 → odd_bytes (byte_of x) 0 m ≡ odd_bytes (at P) q m
    end-odds m h = rw (add-zero q) at (word-odds 0 x y b_p b_s (rw (add-zero q) a) (rw (add-zero q) b) m h)

    pub end_seen : (n : ℕ) → q + 8 ≤ length P → L - i ≤ 8 → n ≡ cond (eqb (run_of (stands_in x y L i t) 0 (L - i)) (L - i)) (L - i) 0 → n ≡ end_run P S q L i t
    unfolding end_run own_run
    end_seen n h k e =
        let m : min (length P - q) (L - i) ≡ L - i = omega arith in
        let w : run_of (stands_in x y L i t) 0 (L - i) ≡ run_of (stands_at P S q L i t) 0 (L - i) =
        rw (add-zero i) at (word_stands 0 x y b_p b_s (rw (add-zero q) a) (rw (add-zero q) b) (L - i) k) in
        e ∙ rw (m, w)

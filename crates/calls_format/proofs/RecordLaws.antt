-- What the first record decodes to in each case, and the kind and length of a decoded request. Assumes nothing.
use mathlib.Core.Path.{◌≡◌, refl, sym, ◌∙◌}
use mathlib.Core.Bool.{true, false, ◌&&◌, ◌||◌, false≢true}
use mathlib.Core.List.{List, ◌++◌}
use mathlib.Core.Logic.{◌≢◌, ◌⊎◌, inl, inr}
use mathlib.Core.Option.{Option, none, some}
use Prim.Native.Nat.{ℕ, zero, suc, ◌+◌, ◌≤◌, ◌<◌}
use native.Mathlib.Omega.{arith}
use lib.ListN.{length, length-append, get_or-append}
use lib.Dec.{leb, eqb}
use borrow.Author.Tests.{le-leb, lt-leb, eq-eqb, ne_eqb, leb-true, eqb-true}
use Rattle.number.proofs.TestLaws.{Test, is_true, is_false, test, and-true, and_false_r, or-false}
use Rattle.number.specs.Little.{word}
use Rattle.number.specs.Parts.{at}
use Rattle.number.proofs.LittleLaws.{word_same}
use Rattle.types.specs.declared.Beginning.{Beginning}
use Rattle.types.specs.declared.Beginning.TheVariants.{Unwritten, Written, Literal}
use Rattle.plain.specs.Call as plain
use Rattle.calls_format.specs.Records.{Request, call, length_field, kind_field, field, fields_of, request_of, record_length, decode_as, decode}
use Rattle.calls_format.specs.Decoded.{begin_kind, Records, kind_of, length_for, length_of, longest, writes}

-- a kind that is known to be j has j's length
pub reach : {k n : ℕ} (j : ℕ) → k ≡ j → length_of k ≤ n → length_of j ≤ n
reach j e h = rw e at h

-- of the kinds whose calls write, those that are left beside free, written and remove
pub last-write : (k : ℕ) → writes k ≡ true → k ≢ 3 → k ≢ 4 → k ≢ 16 → Records k
last-write k h a b c = go (test (eqb k 2)) (test (eqb k 10)) (test (eqb k 14))
  where
    go : Test (eqb k 2) → Test (eqb k 10) → Test (eqb k 14) → Records k
    go (is_true t) u v = inl (eqb-true k 2 t)
    go (is_false t) (is_true u) v = inr (inl (eqb-true k 10 u))
    go (is_false t) (is_false u) (is_true v) = inr (inr (eqb-true k 14 v))
    go (is_false t) (is_false u) (is_false v) = absurd (false≢true (rw (t, ne_eqb k 3 a, ne_eqb k 4 b, u, v, ne_eqb k 16 c) at h))

pub records-long : {k n : ℕ} → Records k → length_of k ≤ n → 12 ≤ n
unfolding fields_of
records-long (inl e) h = rw e at h
records-long (inr (inl e)) h = rw e at h
records-long (inr (inr e)) h = rw e at h

-- the call that a kind which records a block has, by how the block begins
pub begin-request : (how : Beginning) (k : ℕ) (l : List ℕ) → begin_kind how ≡ k → call (plain.begin how (field l 0) (field l 1)) ≡ request_of k l
unfolding request_of
begin-request Unwritten k l e = rw (← e)
begin-request Written k l e = rw (← e)
begin-request Literal k l e = rw (← e)

-- and the one that a kind has which asks for a range
pub valid-request : (k : ℕ) (l : List ℕ) → (k ≡ 6) ⊎ (k ≡ 15) → call (plain.valid (eqb k 6) (field l 0) (field l 1) (field l 2)) ≡ request_of k l
unfolding request_of
valid-request k l (inl e) = rw e
valid-request k l (inr e) = rw e

pub valid-long : {k n : ℕ} → (k ≡ 6) ⊎ (k ≡ 15) → length_of k ≤ n → 16 ≤ n
unfolding fields_of
valid-long (inl e) h = rw e at h
valid-long (inr e) h = rw e at h

-- of the kinds whose calls only read, the one that is left at the end
pub last-read : (k : ℕ) (l : List ℕ) → k ≢ 1 → writes k ≡ false → k ≢ 5 → k ≢ 6 → k ≢ 7 → k ≢ 8 → k ≢ 15 → call plain.audit ≡ request_of k l
unfolding request_of
last-read k l z h a b c d e =
    let m = or-false (eqb k 2 || eqb k 3 || eqb k 4 || eqb k 10 || eqb k 14) (eqb k 16) h in
    let j = or-false (eqb k 2 || eqb k 3 || eqb k 4 || eqb k 10) (eqb k 14) m.0 in
    let f = or-false (eqb k 2 || eqb k 3 || eqb k 4) (eqb k 10) j.0 in
    let g = or-false (eqb k 2 || eqb k 3) (eqb k 4) f.0 in
    let i = or-false (eqb k 2) (eqb k 3) g.0 in
    rw (ne_eqb k 1 z, i.0, i.1, g.1, ne_eqb k 5 a, ne_eqb k 6 b, ne_eqb k 7 c, ne_eqb k 8 d, f.1, j.1, ne_eqb k 15 e, m.1)

-- ---- the cases of a record

pub cut-head : (l : List ℕ) → length l < 4 → decode l ≡ none
unfolding decode
cut-head l h = rw (lt-leb 4 (length l) h)

pub no_record : (l : List ℕ) → fields_of (kind_field l) ≡ none → decode l ≡ none
unfolding decode
no_record l e = go (test (leb 4 (length l)))
  where
    go : Test (leb 4 (length l)) → decode l ≡ none
    go (is_true t) = rw (t, e)
    go (is_false t) = rw t

-- four bytes are there, of the kind k, whose records have the length n
pub record Headed (l : List ℕ) (k n : ℕ) : Type 0 where
  pub long : 4 ≤ length l
  pub kind : k ≡ kind_field l
  pub size : n ≡ length_of k

module _ {l : List ℕ} {k n : ℕ} (h : Headed l k n) where
  whole : (x : Option Request) → ((o : Option ℕ) → length_for o ≡ n → decode_as l o ≡ x) → decode l ≡ x
  unfolding decode
  whole x f = rw (le-leb 4 (length l) h.long, ← h.kind) (f (fields_of k) (sym h.size))

  pub unknown : n ≡ 0 → decode l ≡ none
  unknown z = whole none go
    where
      go : (o : Option ℕ) → length_for o ≡ n → decode_as l o ≡ none
      go none e = refl
      go (some f) e = absurd (omega (arith, e))

  pub other_length : length_field l ≢ n → decode l ≡ none
  other_length d = whole none go
    where
      go : (o : Option ℕ) → length_for o ≡ n → decode_as l o ≡ none
      go none e = refl
      go (some f) e = rw (ne_eqb (length_field l) (record_length f) (λ q. d (q ∙ e)))

  pub cut-body : length l < n → decode l ≡ none
  cut-body c = whole none go
    where
      go : (o : Option ℕ) → length_for o ≡ n → decode_as l o ≡ none
      go none e = refl
      go (some f) e =
          rw (and_false_r (eqb (length_field l) (record_length f)) (leb (record_length f) (length l)) (lt-leb (record_length f) (length l) (omega (arith, e))))

  pub decodes : n ≢ 0 → length_field l ≡ n → n ≤ length l → decode l ≡ some (request_of k l)
  decodes z q c = whole (some (request_of k l)) go
    where
      go : (o : Option ℕ) → length_for o ≡ n → decode_as l o ≡ some (request_of k l)
      go none e = absurd (z (sym e))
      go (some f) e =
          rw (eq-eqb (length_field l) (record_length f) (q ∙ sym e), le-leb (record_length f) (length l) (omega (arith, e)), ← h.kind)

-- ---- a decoded request has its record's kind and length

-- the kinds are 1 to 10 and 14 to 16
pub no_kind : (k : ℕ) → k ≢ 1 → k ≢ 2 → k ≢ 3 → k ≢ 4 → k ≢ 5 → k ≢ 6 → k ≢ 7 → k ≢ 8 → k ≢ 9 → k ≢ 10 → k ≢ 14 → k ≢ 15 → k ≢ 16 → fields_of k ≡ none
unfolding fields_of
no_kind k a b c d e f g h i j m n o =
    rw (ne_eqb k 1 a, ne_eqb k 2 b, ne_eqb k 3 c, ne_eqb k 4 d, ne_eqb k 5 e, ne_eqb k 6 f, ne_eqb k 7 g, ne_eqb k 8 h, ne_eqb k 9 i, ne_eqb k 10 j, ne_eqb k 14 m, ne_eqb k 15 n, ne_eqb k 16 o)

-- what holds of each kind, and of a number that is none, holds of every number
module _ (P : ℕ → Type 0) (p1 : P 1) (p2 : P 2) (p3 : P 3) (p4 : P 4) (p5 : P 5) (p6 : P 6) (p7 : P 7) (p8 : P 8) (p9 : P 9) (p10 : P 10)
    (p14 : P 14) (p15 : P 15) (p16 : P 16)
    (other : (k : ℕ) → fields_of k ≡ none → P k) where
  by_kind : (k : ℕ) → P k
  unfolding fields_of
  by_kind zero = other 0 refl
  by_kind (suc (zero)) = p1
  by_kind (suc (suc (zero))) = p2
  by_kind (suc (suc (suc (zero)))) = p3
  by_kind (suc (suc (suc (suc (zero))))) = p4
  by_kind (suc (suc (suc (suc (suc (zero)))))) = p5
  by_kind (suc (suc (suc (suc (suc (suc (zero))))))) = p6
  by_kind (suc (suc (suc (suc (suc (suc (suc (zero)))))))) = p7
  by_kind (suc (suc (suc (suc (suc (suc (suc (suc (zero))))))))) = p8
  by_kind (suc (suc (suc (suc (suc (suc (suc (suc (suc (zero)))))))))) = p9
  by_kind (suc (suc (suc (suc (suc (suc (suc (suc (suc (suc (zero))))))))))) = p10
  by_kind (suc (suc (suc (suc (suc (suc (suc (suc (suc (suc (suc (zero)))))))))))) = other 11 refl
  by_kind (suc (suc (suc (suc (suc (suc (suc (suc (suc (suc (suc (suc (zero))))))))))))) = other 12 refl
  by_kind (suc (suc (suc (suc (suc (suc (suc (suc (suc (suc (suc (suc (suc (zero)))))))))))))) = other 13 refl
  by_kind (suc (suc (suc (suc (suc (suc (suc (suc (suc (suc (suc (suc (suc (suc (zero))))))))))))))) = p14
  by_kind (suc (suc (suc (suc (suc (suc (suc (suc (suc (suc (suc (suc (suc (suc (suc (zero)))))))))))))))) = p15
  by_kind (suc (suc (suc (suc (suc (suc (suc (suc (suc (suc (suc (suc (suc (suc (suc (suc (zero))))))))))))))))) = p16
  by_kind (suc (suc (suc (suc (suc (suc (suc (suc (suc (suc (suc (suc (suc (suc (suc (suc (suc (k)))))))))))))))))) =
      let k' : ℕ = suc (suc (suc (suc (suc (suc (suc (suc (suc (suc (suc (suc (suc (suc (suc (suc (suc (k))))))))))))))))) in
      other k' (no_kind k' (omega arith) (omega arith) (omega arith) (omega arith) (omega arith) (omega arith) (omega arith) (omega arith) (omega arith) (omega arith) (omega arith) (omega arith) (omega arith))

kind-back : (k n : ℕ) (l : List ℕ) → fields_of k ≡ some n → kind_of (request_of k l) ≡ k
unfolding fields_of request_of
kind-back k n l =
    by_kind (λ j. fields_of j ≡ some n → kind_of (request_of j l) ≡ j) (λ e. refl) (λ e. refl) (λ e. refl) (λ e. refl) (λ e. refl) (λ e. refl)
    (λ e. refl) (λ e. refl) (λ e. refl) (λ e. refl) (λ e. refl) (λ e. refl) (λ e. refl) (λ j u e. let z : ◌≡◌ {A = ℕ} 0 1 = cc in absurd (omega arith)) k

-- kind and length of a decoded request are those that the record begins with, and the bytes have the whole record
abbrev pub Heads : List ℕ → Request → Type 0
Heads l r = (kind_of r ≡ kind_field l) × (length_of (kind_of r) ≡ length_field l) × (4 ≤ length_field l) × (length_field l ≤ length l)

pub decoded-heads : (l : List ℕ) (r : Request) → decode l ≡ some r → Heads l r
unfolding decode
decoded-heads l r e = go (test (leb 4 (length l))) (fields_of (kind_field l)) refl
  where
    known : (n : ℕ) → fields_of (kind_field l) ≡ some n → Test (eqb (length_field l) (record_length n) && leb (record_length n) (length l))
        → decode_as l (some n) ≡ some r → Heads l r
    known n f (is_false t) d = absurd (let z : none ≡ some r = rw t at d in let w : ◌≡◌ {A = ℕ} 0 1 = cc in omega arith)
    known n f (is_true t) d =
        let w : some (request_of (kind_field l) l) ≡ some r = rw t at d in
        let z : request_of (kind_field l) l ≡ r = cc in
        let k : kind_of r ≡ kind_field l = rw z at (kind-back (kind_field l) n l f) in
        let h = and-true (eqb (length_field l) (record_length n)) (leb (record_length n) (length l)) t in
        let q : length_field l ≡ record_length n = eqb-true (length_field l) (record_length n) h.0 in
        let b : record_length n ≤ length l = leb-true (record_length n) (length l) h.1 in
        (k, rw (k, f) (sym q), omega arith, omega arith)

    go : Test (leb 4 (length l)) → (o : Option ℕ) → fields_of (kind_field l) ≡ o → Heads l r
    go (is_false t) o f = absurd (let z : none ≡ some r = rw t at e in let w : ◌≡◌ {A = ℕ} 0 1 = cc in omega arith)
    go (is_true t) none f = absurd (let z : none ≡ some r = rw (t, f) at e in let w : ◌≡◌ {A = ℕ} 0 1 = cc in omega arith)
    go (is_true t) (some n) f = known n f (test (eqb (length_field l) (record_length n) && leb (record_length n) (length l))) (rw (t, f) at e)

-- ---- bytes past the longest record change nothing

pub longest-holds : (k : ℕ) → length_of k ≤ longest
unfolding fields_of
longest-holds =
    by_kind (λ j. length_of j ≤ longest) (omega arith) (omega arith) (omega arith) (omega arith) (omega arith) (omega arith) (omega arith) (omega arith)
    (omega arith) (omega arith) (omega arith) (omega arith) (omega arith) (λ j u. rw u (omega arith))

module _ (l m : List ℕ) (h : longest ≤ length l) where
  pub word-front : (p w : ℕ) → p + w ≤ longest → word (at (l ++ m)) p w ≡ word (at l) p w
  word-front p w k = word_same (at (l ++ m)) (at l) p p w (λ i x. get_or-append l m 0 (p + i) (omega arith))

  request-front : (k : ℕ) → request_of k (l ++ m) ≡ request_of k l
  unfolding request_of
  request-front k = rw (word-front 4 4 (omega arith), word-front 8 4 (omega arith), word-front 12 4 (omega arith), word-front 16 4 (omega arith))

  as-front : (o : Option ℕ) → length_for o ≤ longest → decode_as (l ++ m) o ≡ decode_as l o
  as-front none b = refl
  as-front (some n) b =
      rw (
        word-front 0 2 (omega arith),
        word-front 2 2 (omega arith),
        request-front (kind_field l),
        le-leb (record_length n) (length (l ++ m)) (omega (arith, length-append l m)),
        le-leb (record_length n) (length l) (omega arith),
      )

  -- where the longest record is there, more bytes decode to the same
  pub decode-front : decode (l ++ m) ≡ decode l
  unfolding decode
  decode-front =
      rw (le-leb 4 (length (l ++ m)) (omega (arith, length-append l m)), le-leb 4 (length l) (omega arith), word-front 2 2 (omega arith))
      (as-front (fields_of (kind_field l)) (longest-holds (kind_field l)))

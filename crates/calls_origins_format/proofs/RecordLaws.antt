-- What the first record decodes to in each case, and the kind and length of a decoded request. Assumes nothing.
use mathlib.Core.Path.{◌≡◌, refl, sym, ◌∙◌}
use mathlib.Core.Bool.{true, false, ◌&&◌}
use mathlib.Core.List.{List, ◌++◌}
use mathlib.Core.Logic.{◌≢◌}
use mathlib.Core.Option.{Option, none, some}
use Prim.Native.Nat.{ℕ, ◌≤◌, ◌<◌}
use native.Mathlib.Omega.{arith}
use lib.ListN.{length, length-append}
use lib.Dec.{leb, eqb}
use borrow.Author.Tests.{le-leb, lt-leb, eq-eqb, ne_eqb, leb-true, eqb-true, eqb-false}
use Rattle.number.proofs.TestLaws.{Test, is_true, is_false, test, and-true, and_false_r}
use Rattle.types.specs.declared.Beginning.TheVariants.{Unwritten, Written, Literal}
use Rattle.plain.specs.Call.{clear, begin, free, remove, written, ask, valid, initialised, next, audit, place}
use Rattle.origins_list.specs.Call.{point, copy, live}
use Rattle.origins_base.specs.declared.Pointer.{Pointer}
use Rattle.origins_base.specs.declared.Pointer.TheVariants.{Point, Copy, Live}
use Rattle.origins_base.specs.Answers.{pointer_of}
use Rattle.calls_format.specs.Records as records
use Rattle.calls_format.specs.Records.{new_map, call, length_field, kind_field, field, fields_of}
use Rattle.calls_format.specs.Decoded as decoded
use Rattle.calls_format.specs.Decoded.{longest}
use Rattle.calls_format.specs.Program.{Whole}
use Rattle.calls_format.proofs.RecordLaws as base
use Rattle.calls_format.proofs.RecordLaws.{no_kind, no_record, decode-front, word-front}
use Rattle.calls_origins_format.specs.Records.{Request, is_own, own_length, own_call, decode_own, asked, decode_plain, decode, form_kind, kind_of, length_of}
use Rattle.calls_origins_format.specs.Program.{origins_program}

-- ---- the cases of a record

pub decode-plain : (l : List ℕ) → is_own (kind_field l) ≡ false → decode l ≡ decode_plain (records.decode l)
unfolding decode
decode-plain l e = rw e

pub decode-own : (l : List ℕ) → is_own (kind_field l) ≡ true → decode l ≡ decode_own l
unfolding decode
decode-own l e = rw e

-- the plain program has no kind of these
pub own-unknown : (k : ℕ) → 11 ≤ k → k ≤ 13 → fields_of k ≡ none
own-unknown k h j =
    no_kind k (omega arith) (omega arith) (omega arith) (omega arith) (omega arith) (omega arith) (omega arith) (omega arith) (omega arith) (omega arith)
    (omega arith) (omega arith) (omega arith)

-- fewer bytes than a record of these kinds has: what the plain program makes of them
pub decode-short : (l : List ℕ) → length l < own_length → decode l ≡ decode_plain (records.decode l)
decode-short l h = go (test (is_own (kind_field l)))
  where
    go : Test (is_own (kind_field l)) → decode l ≡ decode_plain (records.decode l)
    go (is_false t) = decode-plain l t
    go (is_true t) =
        let b = and-true (leb 11 (kind_field l)) (leb (kind_field l) 13) t in
        decode-own l t
        ∙ rw (
          and_false_r (eqb (length_field l) own_length) (leb own_length (length l)) (lt-leb own_length (length l) h),
          no_record l (own-unknown (kind_field l) (leb-true 11 (kind_field l) b.0) (leb-true (kind_field l) 13 b.1)),
        )

pub decode-other : (l : List ℕ) → is_own (kind_field l) ≡ true → length_field l ≢ own_length → decode l ≡ none
decode-other l t n = decode-own l t ∙ rw (ne_eqb (length_field l) own_length n)

pub decode-pointer : (l : List ℕ) → is_own (kind_field l) ≡ true → length_field l ≡ own_length → own_length ≤ length l
    → decode l ≡ some (call (own_call (kind_field l) (field l 0) (field l 1)))
decode-pointer l t e h = decode-own l t ∙ rw (eq-eqb (length_field l) own_length e, le-leb own_length (length l) h)

-- the call of each of these kinds
module _ {a b x y : ℕ} (p : a ≡ x) (q : b ≡ y) where
  pub own-point : (k : ℕ) → k ≡ 11 → point a b ≡ own_call k x y
  unfolding own_call
  own-point k e = rw (e, p, q)

  pub own-copy : (k : ℕ) → k ≡ 12 → copy a b ≡ own_call k x y
  unfolding own_call
  own-copy k e = rw (e, p, q)

  pub own-live : (k : ℕ) → k ≢ 11 → k ≢ 12 → live a b ≡ own_call k x y
  unfolding own_call
  own-live k e f = rw (ne_eqb k 11 e, ne_eqb k 12 f, p, q)

-- ---- a decoded request has its record's kind and length

own-kind : (k a b : ℕ) → 11 ≤ k → k ≤ 13 → form_kind (own_call k a b) ≡ k
unfolding own_call
own-kind k a b l h = go (test (eqb k 11)) (test (eqb k 12))
  where
    go : Test (eqb k 11) → Test (eqb k 12) → form_kind (own_call k a b) ≡ k
    go (is_true e) f = rw e (sym (eqb-true k 11 e))
    go (is_false e) (is_true f) = rw (e, f) (sym (eqb-true k 12 f))
    go (is_false e) (is_false f) =
        let x = eqb-false k 11 e in
        let y = eqb-false k 12 f in
        let z : 13 ≡ k = omega arith in
        rw (e, f) z

pub asked-kind : (q : records.Request) → kind_of (asked q) ≡ decoded.kind_of q
asked-kind (new_map m) = refl
asked-kind (call c) = refl

-- what the plain program is asked for has the length that it has there
pub plain-length : (q : records.Request) → length_of (kind_of (asked q)) ≡ decoded.length_of (decoded.kind_of q)
plain-length (new_map m) = refl
plain-length (call clear) = refl
plain-length (call (begin Unwritten b l)) = refl
plain-length (call (begin Written b l)) = refl
plain-length (call (begin Literal b l)) = refl
plain-length (call (free x)) = refl
plain-length (call (remove x)) = refl
plain-length (call (written a n)) = refl
plain-length (call (ask a)) = refl
plain-length (call (valid true a n from)) = refl
plain-length (call (valid false a n from)) = refl
plain-length (call (initialised a n)) = refl
plain-length (call (next a)) = refl
plain-length (call audit) = refl
plain-length (call (place l k)) = refl

pub pointer-length : (p : Pointer) → length_of (form_kind (pointer_of p)) ≡ own_length
pointer-length (Point c a) = refl
pointer-length (Copy t f) = refl
pointer-length (Live c a) = refl

-- kind and length of a decoded request are those that the record begins with, and the bytes have the whole record
abbrev Heads : List ℕ → Request → Type 0
Heads l r = (kind_of r ≡ kind_field l) × (length_of (kind_of r) ≡ length_field l) × (4 ≤ length_field l) × (length_field l ≤ length l)

pub decoded-heads : (l : List ℕ) (r : Request) → decode l ≡ some r → Heads l r
decoded-heads l r e = go (test (is_own (kind_field l)))
  where
    own : is_own (kind_field l) ≡ true → Test (eqb (length_field l) own_length && leb own_length (length l)) → decode_own l ≡ some r → Heads l r
    own f (is_false t) d = absurd (let z : none ≡ some r = rw t at d in let w : ◌≡◌ {A = ℕ} 0 1 = cc in omega arith)
    own f (is_true t) d =
        let w : some (call (own_call (kind_field l) (field l 0) (field l 1))) ≡ some r = rw t at d in
        let z : call (own_call (kind_field l) (field l 0) (field l 1)) ≡ r = cc in
        let b = and-true (leb 11 (kind_field l)) (leb (kind_field l) 13) f in
        let h = and-true (eqb (length_field l) own_length) (leb own_length (length l)) t in
        let q = eqb-true (length_field l) own_length h.0 in
        let y = leb-true own_length (length l) h.1 in
        let k : kind_of r ≡ kind_field l =
        rw (← z) (own-kind (kind_field l) (field l 0) (field l 1) (leb-true 11 (kind_field l) b.0) (leb-true (kind_field l) 13 b.1)) in
        (k, rw (k, f) (sym q), omega (arith, q), omega (arith, q, y))

    other : is_own (kind_field l) ≡ false → (o : Option records.Request) → records.decode l ≡ o → decode_plain o ≡ some r → Heads l r
    other f none d w = absurd (let z : ◌≡◌ {A = ℕ} 0 1 = cc in omega arith)
    other f (some q) d w =
        let z : asked q ≡ r = cc in
        let h = base.decoded-heads l q d in
        let k : kind_of r ≡ kind_field l = rw (← z) (asked-kind q ∙ h.0) in
        (k, rw (k, f, ← h.0) h.1, h.2, h.3)

    go : Test (is_own (kind_field l)) → Heads l r
    go (is_true t) = own t (test (eqb (length_field l) own_length && leb own_length (length l))) (sym (decode-own l t) ∙ e)
    go (is_false t) = other t (records.decode l) refl (sym (decode-plain l t) ∙ e)

-- ---- bytes past the longest record change nothing

decode-longer : (l m : List ℕ) → longest ≤ length l → decode (l ++ m) ≡ decode l
unfolding decode
decode-longer l m h =
    rw (
      decode-front l m h,
      word-front l m h 0 2 (omega arith),
      word-front l m h 2 2 (omega arith),
      word-front l m h 4 4 (omega arith),
      word-front l m h 8 4 (omega arith),
      le-leb own_length (length (l ++ m)) (omega (arith, length-append l m)),
      le-leb own_length (length l) (omega arith),
    )

pub origins-whole : Whole origins_program
origins-whole =
    record {
      long = λ l r e. let h = decoded-heads l r e in omega (arith, h.1, h.2);
      there = λ l r e. let h = decoded-heads l r e in omega (arith, h.1, h.3);
      front = decode-longer;
    }

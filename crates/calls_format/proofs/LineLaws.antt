-- Laws of decimal text, of a line's length, and of bytes written one after another. Assumes nothing.
use mathlib.Core.Path.{◌≡◌, refl, sym, ◌∙◌}
use mathlib.Core.List.{List, [], ◌∷◌, ◌++◌, append_assoc, append-nil}
use mathlib.Core.Logic.{◌≢◌, ◌⊎◌, inl, inr}
use Prim.Native.Nat.{ℕ, zero, suc, ◌+◌, ◌*◌, ◌/◌, ◌%◌, ◌^◌, ◌≤◌, ◌<◌}
use native.Mathlib.Omega.{arith}
use native.Mathlib.Nat.{add-zero, zero-add, add-suc, suc-add}
use lib.ListN.{length, take, drop, set, length-append, length-take}
use lib.Seq.{sets, sets-eq}
use lib.Dec.{ltb, eqb}
use borrow.Author.Tests.{lt-ltb, le-ltb, ltb-true, ltb-false, eqb-false, ne_eqb}
use Rattle.number.specs.Parts.{Each}
use Rattle.number.proofs.TestLaws.{Test, is_true, is_false, test}
use Rattle.plain.specs.Call.{Answer, answer, number}
use Rattle.calls_format.specs.Lines.{digits, decimal, spaced, answer_fields, line}
use Rattle.calls_format.specs.Writing.{Wrote, fields_told}

-- ---- bytes written one after another

sets-append : (xs ys l : List ℕ) (i : ℕ) → sets (sets l i xs) (i + length xs) ys ≡ sets l i (xs ++ ys)
sets-append [] ys l i = rw add-zero
sets-append (x ∷ xs) ys l i = rw (add-suc i (length xs), ← suc-add i (length xs)) (sets-append xs ys (set l i x) (suc i))

wrote_none : (p : ℕ) (l : List ℕ) → Wrote [] p p l l
wrote_none p l = record { ends = sym (add-zero p); stores = refl }

wrote_one : (x p : ℕ) (l : List ℕ) → Wrote (x ∷ []) p (p + 1) l (set l p x)
wrote_one x p l = record { ends = refl; stores = refl }

wrote-both : (xs ys : List ℕ) (p q r : ℕ) (l m n : List ℕ) → Wrote xs p q l m → Wrote ys q r m n → Wrote (xs ++ ys) p r l n
wrote-both xs ys p q r l m n a b =
    record {
      ends = omega (arith, a.ends, b.ends, length-append xs ys);
      stores = b.stores ∙ rw (a.stores, a.ends) (sets-append xs ys l p);
    }

-- from the first place on
pub wrote-first : (xs : List ℕ) (r : ℕ) (l m : List ℕ) → Wrote xs 0 r l m → length xs ≤ length l → (r ≡ length xs) × (m ≡ xs ++ drop r l)
wrote-first xs r l m w h =
    let e : r ≡ length xs = omega (arith, w.ends) in
    (e, w.stores ∙ sets-eq xs l 0 (omega arith) ∙ rw (e, zero-add))

-- ---- decimal digits

decimal-last : (v : ℕ) → v < 10 → decimal v ≡ (48 + v) ∷ []
unfolding digits
decimal-last v h = rw (lt-ltb v 10 h)

-- digits that are enough for a number are as good as any more
same_digits : (n k v : ℕ) → v < 10 ^ suc n → v < 10 ^ suc k → digits (suc n) v ≡ digits (suc k) v
unfolding digits
same_digits zero k v h g = rw (lt-ltb v 10 (omega arith))
same_digits (suc n) zero v h g = rw (lt-ltb v 10 (omega arith))
same_digits (suc n) (suc k) v h g = rw (same_digits n k (v / 10) (omega arith) (omega arith))

-- a number is below ten to its own power
below : (v : ℕ) → v < 10 ^ suc v
below zero = omega arith
below (suc v) = let h = below v in omega arith

decimal-more : (v : ℕ) → 10 ≤ v → decimal v ≡ decimal (v / 10) ++ ((48 + v % 10) ∷ [])
unfolding digits
decimal-more zero h = absurd (omega arith)
decimal-more (suc v) h = rw (le-ltb (suc v) 10 h, same_digits v (suc v / 10) (suc v / 10) (omega (arith, below v)) (below (suc v / 10)))

-- one digit; the digits of the tenth, and one more
pub length_last : (v : ℕ) → v < 10 → length (decimal v) ≡ 1
length_last v h = rw (decimal-last v h)

pub length_more : (v : ℕ) → 10 ≤ v → length (decimal v) ≡ length (decimal (v / 10)) + 1
length_more v h = rw (decimal-more v h) (length-append (decimal (v / 10)) ((48 + v % 10) ∷ []))

pub wrote-last : (v p : ℕ) (l : List ℕ) → v < 10 → Wrote (decimal v) p (p + 1) l (set l p (48 + v))
wrote-last v p l h = rw (decimal-last v h) (wrote_one (48 + v) p l)

pub wrote-more : (v p q : ℕ) (l m : List ℕ) → 10 ≤ v → Wrote (decimal (v / 10)) p q l m → Wrote (decimal v) p (q + 1) l (set m q (48 + v % 10))
wrote-more v p q l m h w =
    rw (decimal-more v h) (wrote-both (decimal (v / 10)) ((48 + v % 10) ∷ []) p q (q + 1) l m (set m q (48 + v % 10)) w (wrote_one (48 + v % 10) q m))

digits-length : (n v : ℕ) → length (digits n v) ≤ n
unfolding digits
digits-length zero v = omega arith
digits-length (suc n) v = go (test (ltb v 10)) (digits-length n (v / 10))
  where
    go : Test (ltb v 10) → length (digits n (v / 10)) ≤ n → length (digits (suc n) v) ≤ suc n
    go (is_true t) h = rw t (omega arith)
    go (is_false t) h = rw t (omega (arith, length-append (digits n (v / 10)) ((48 + v % 10) ∷ [])))

-- a number of at most ten digits, as every number of 32 bits is
abbrev pub Short : ℕ → Type 0
Short v = v < 10000000000

pub decimal-short : (v : ℕ) → Short v → decimal v ≡ digits 10 v
decimal-short v h = same_digits v 9 v (below v) h

decimal-length : (v : ℕ) → Short v → length (decimal v) ≤ 10
decimal-length v h = rw (decimal-short v h) (digits-length 10 v)

-- ---- numbers after spaces

pub spaced-one : (v : ℕ) → spaced (v ∷ []) ≡ 32 ∷ decimal v
unfolding spaced
spaced-one v = rw (append-nil (decimal v))

spaced-append : (xs ys : List ℕ) → spaced (xs ++ ys) ≡ spaced xs ++ spaced ys
unfolding spaced
spaced-append [] ys = refl
spaced-append (x ∷ xs) ys = rw (spaced-append xs ys, append_assoc (decimal x) (spaced xs) (spaced ys))

pub wrote-spaced : (v p r : ℕ) (l m : List ℕ) → Wrote (decimal v) (p + 1) r (set l p 32) m → Wrote (spaced (v ∷ [])) p r l m
wrote-spaced v p r l m w = rw (spaced-one v) (wrote-both (32 ∷ []) (decimal v) p (p + 1) r l (set l p 32) m (wrote_one 32 p l) w)

pub wrote-more-spaced : (vs ws : List ℕ) (p q r : ℕ) (l m n : List ℕ) → Wrote (spaced vs) p q l m → Wrote (spaced ws) q r m n
    → Wrote (spaced (vs ++ ws)) p r l n
wrote-more-spaced vs ws p q r l m n a b = rw (spaced-append vs ws) (wrote-both (spaced vs) (spaced ws) p q r l m n a b)

pub length-spaced : (vs ws : List ℕ) → length (spaced (vs ++ ws)) ≡ length (spaced vs) + length (spaced ws)
length-spaced vs ws = rw (spaced-append vs ws) (length-append (spaced vs) (spaced ws))

spaced-length : (xs : List ℕ) → Each Short xs → length (spaced xs) ≤ 11 * length xs
unfolding spaced
spaced-length [] e = omega arith
spaced-length (x ∷ xs) (h, e) = omega (arith, length-append (decimal x) (spaced xs), decimal-length x h, spaced-length xs e)

-- ---- the answer fields of each kind

-- room for the fields is room for their parts
pub room : (vs ws F : List ℕ) (p n : ℕ) → F ≡ vs ++ ws → p + length (spaced F) ≤ n → p + length (spaced vs) + length (spaced ws) ≤ n
room vs ws F p n e h = omega (arith, length-spaced vs ws, rw e at h)

pub wrote-told : (vs F : List ℕ) (p r : ℕ) (l m : List ℕ) → F ≡ vs → Wrote (spaced vs) p r l m → Wrote (spaced F) p r l m
wrote-told vs F p r l m e w = rw e w

pub wrote-no : (F : List ℕ) (p : ℕ) (l : List ℕ) → F ≡ [] → Wrote (spaced F) p p l l
unfolding spaced
wrote-no F p l e = rw e (wrote_none p l)

module _ (k n a b c d : ℕ) where
  pub told-refused : n ≢ 0 → fields_told k (answer n a b c d) ≡ []
  told-refused h = rw (ne_eqb n 0 h)

  pub told-four : n ≡ 0 → (k ≡ 5) ⊎ (k ≡ 9) → fields_told k (answer n a b c d) ≡ a ∷ b ∷ c ∷ d ∷ []
  unfolding answer_fields
  told-four z (inl e) = rw (z, e)
  told-four z (inr e) = rw (z, e)

  pub told-one : n ≡ 0 → 6 ≤ k → k < 8 → fields_told k (answer n a b c d) ≡ a ∷ []
  unfolding answer_fields
  told-one z h l = go (test (eqb k 6))
    where
      go : Test (eqb k 6) → fields_told k (answer n a b c d) ≡ a ∷ []
      go (is_true t) = rw (z, ne_eqb k 5 (omega arith), t)
      go (is_false t) = let e : k ≡ 7 = omega (arith, eqb-false k 6 t) in rw (z, e)

  pub told-13-15 : n ≡ 0 → (k ≡ 13) ⊎ (k ≡ 15) → fields_told k (answer n a b c d) ≡ a ∷ []
  unfolding answer_fields
  told-13-15 z (inl e) = rw (z, e)
  told-13-15 z (inr e) = rw (z, e)

  pub told-two : n ≡ 0 → k ≡ 8 → fields_told k (answer n a b c d) ≡ a ∷ b ∷ []
  unfolding answer_fields
  told-two z e = rw (z, e)

  pub told-no : n ≡ 0 → k ≢ 5 → k ≢ 6 → k ≢ 7 → k ≢ 8 → k ≢ 9 → k ≢ 13 → k ≢ 15 → fields_told k (answer n a b c d) ≡ []
  unfolding answer_fields
  told-no z e f g h i j m = rw (z, ne_eqb k 5 e, ne_eqb k 6 f, ne_eqb k 7 g, ne_eqb k 8 h, ne_eqb k 9 i, ne_eqb k 13 j, ne_eqb k 15 m)

-- ---- a line's length

-- a kind and an answer of short numbers
abbrev pub ShortLine : (kind : ℕ) → Answer → Type 0
ShortLine k (answer n a b c d) = Short k × Short n × Each Short (a ∷ b ∷ c ∷ d ∷ [])

each_take : (n : ℕ) (vs : List ℕ) → Each Short vs → Each Short (take n vs)
each_take zero vs e = tt
each_take (suc n) [] e = tt
each_take (suc n) (v ∷ vs) (h, e) = (h, each_take n vs e)

-- only kinds of two digits at most have answer fields
two_digits : (k : ℕ) → k < 100 → length (decimal k) ≤ 2
unfolding digits
two_digits k h = rw (same_digits k 1 k (below k) (omega arith)) (digits-length 2 k)

no_fields : (k : ℕ) → 100 ≤ k → answer_fields k ≡ 0
unfolding answer_fields
no_fields k h = rw (ne_eqb k 5 (omega arith), ne_eqb k 6 (omega arith), ne_eqb k 7 (omega arith), ne_eqb k 8 (omega arith), ne_eqb k 9 (omega arith), ne_eqb k 13 (omega arith), ne_eqb k 15 (omega arith))

told-short : (k : ℕ) (r : Answer) → ShortLine k r → length (decimal k) + length (spaced (fields_told k r)) ≤ 46
unfolding spaced
told-short k (answer n a b c d) (i, j, e) = go (test (eqb n 0)) (test (ltb k 100))
  where
    all : List ℕ
    all = a ∷ b ∷ c ∷ d ∷ []

    go : Test (eqb n 0) → Test (ltb k 100) → length (decimal k) + length (spaced (fields_told k (answer n a b c d))) ≤ 46
    go (is_false z) t = rw z (omega (arith, decimal-length k i))
    go (is_true z) (is_true t) =
        rw z
        (omega (arith, two_digits k (ltb-true k 100 t), spaced-length (take (answer_fields k) all) (each_take (answer_fields k) all e), length-take (answer_fields k) all))
    go (is_true z) (is_false t) = rw (z, no_fields k (ltb-false k 100 t)) (omega (arith, decimal-length k i))

-- a line's parts, one after another
line-parts : (k : ℕ) (r : Answer) → ((decimal k ++ spaced (number r ∷ [])) ++ spaced (fields_told k r)) ++ (10 ∷ []) ≡ line k r
unfolding line
line-parts k (answer n a b c d) = rw (spaced-append (n ∷ []) (fields_told k (answer n a b c d))) (simp append_assoc)

-- and their lengths
pub parts-short : (k : ℕ) (r : Answer) → ShortLine k r → length (decimal k) + length (spaced (number r ∷ [])) + length (spaced (fields_told k r)) ≤ 57
parts-short k (answer n a b c d) (i, j, e) =
    omega (arith, told-short k (answer n a b c d) (i, j, e), spaced-length (n ∷ []) (j, tt))

pub line-short : (k : ℕ) (r : Answer) → ShortLine k r → length (line k r) ≤ 58
line-short k r h = rw (← line-parts k r) (simp length-append (omega (arith, parts-short k r h)))

pub wrote-line : (k : ℕ) (r : Answer) (p q e : ℕ) (l l₁ l₂ l₃ : List ℕ) → Wrote (decimal k) 0 p l l₁ → Wrote (spaced (number r ∷ [])) p q l₁ l₂
    → Wrote (spaced (fields_told k r)) q e l₂ l₃ → Wrote (line k r) 0 (e + 1) l (set l₃ e 10)
wrote-line k r p q e l l₁ l₂ l₃ a b c =
    rw (← line-parts k r)
    (wrote-both _ _ 0 e (e + 1) l l₃ (set l₃ e 10) (wrote-both _ _ 0 q e l l₂ l₃ (wrote-both _ _ 0 p q l l₁ l₂ a b) c) (wrote_one 10 e l₃))

pub line_as : {k k' : ℕ} → k ≡ k' → (a : Answer) → line k a ≡ line k' a
line_as e a = rw e

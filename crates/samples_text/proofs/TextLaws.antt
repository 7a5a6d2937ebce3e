-- What stands at a place of a line, byte by byte. Assumes nothing.
use mathlib.Core.Path.{◌≡◌, refl, sym, ap}
use mathlib.Core.Bool.{Bool, true, false, cond, ◌||◌}
use mathlib.Core.List.{List, [], ◌∷◌}
use Rattle.std.specs.Prelude.{Option, Some, None, Result, Ok, Err}
use Rattle.std.specs.Result.{OkIff, result_ok}
use mathlib.Core.Logic.{◌≢◌, ◌⊎◌, inl, inr}
use Rattle.std.specs.List.{starts_with, AllWithin, HoldsAt}
use Rattle.std.specs.Option.{MatchOption, unwrap_or}
use Rattle.std.proofs.lemmas.Iterator.{index_from_first}
use Rattle.std.proofs.lemmas.Option.{same_Some, none-some}
use Prim.Native.Nat.{ℕ, zero, suc, ◌+◌, ◌*◌, ◌-◌, ◌≤◌, ◌<◌}
use native.Mathlib.Omega.{arith}
use native.Mathlib.Nat.{add-zero}
use native.Mathlib.Numerals.{add-one}
use lib.ListN.{length, drop}
use lib.Seq.{drop-cons}
use lib.Dec.{eqb}
use borrow.Author.Tests.{lt-ltb, le-ltb, le-leb, lt-leb, eq-eqb, ne_eqb}
use Rattle.number.proofs.TestLaws.{Test, is_true, is_false, test, eqb_same}
use Rattle.number.specs.Parts.{at}
use Rattle.samples_text.specs.Text.{leading, skip_from, ends_by, after_byte, begins, after_word, after_name, is_digit, digits, value_from, between, long_at, number_at}

-- past its end a line has nothing
pub drop_past : (p : ℕ) (l : List ℕ) → length l ≤ p → drop p l ≡ []
drop_past zero [] h = refl
drop_past (suc p) [] h = refl
drop_past zero (x ∷ xs) h = absurd (omega arith)
drop_past (suc p) (x ∷ xs) h = drop_past p xs (omega arith)

-- ---- gaps

abbrev pub Other : (other b : ℕ) → Type 0
Other other b = (b ≢ 32) × (b ≢ other)

abbrev pub Gap : (other b : ℕ) → Type 0
Gap other b = (b ≡ 32) ⊎ (b ≡ other)

leading-hit : (other b : ℕ) (bs : List ℕ) → Other other b → leading other (b ∷ bs) ≡ 0
unfolding leading
leading-hit other b bs h = rw (ne_eqb b 32 h.0, ne_eqb b other h.1)

leading-miss : (other b : ℕ) (bs : List ℕ) → Gap other b → leading other (b ∷ bs) ≡ leading other bs + 1
unfolding leading
leading-miss other b bs (inl e) = rw (eq-eqb b 32 e) (sym (add-one _))
leading-miss other b bs (inr e) = rw (eq-eqb b other e) (go (eqb b 32))
  where
    go : (s : Bool) → cond (s || true) (suc (leading other bs)) 0 ≡ leading other bs + 1
    go true = sym (add-one _)
    go false = sym (add-one _)

-- i is the first place that the code finds
pub skipped : (other : ℕ) (line text : List ℕ) (p : ℕ) (i : Option ℕ) (n : ℕ) → text ≡ drop p line
    → MatchOption i (AllWithin (Gap other) text 0 (length text))
    (λ i. (i < length text) × HoldsAt (Other other) text i × AllWithin (Gap other) text 0 i)
    → n ≡ unwrap_or i (length text) → p + n ≡ skip_from other line p
unfolding skip_from leading
skipped other line text p i n e m w =
    let z : leading other text ≡ unwrap_or i (length text) =
    index_from_first (leading other) (Other other) (Gap other) refl (leading-hit other) (leading-miss other) text i m in
    rw (← e, z, w)

-- ---- what stands at a place

module _ (byte : ℕ) (line : List ℕ) (p : ℕ) where
  pub ends-past : length line ≤ p → ends_by byte line p ≡ true
  unfolding ends_by
  ends-past h = rw (le-leb (length line) p h)

  pub ends-here : p < length line → ends_by byte line p ≡ eqb (at line p) byte
  unfolding ends_by
  ends-here h = rw (lt-leb (length line) p h)

  pub after-past : length line ≤ p → after_byte line p byte ≡ None
  unfolding after_byte
  after-past h = rw (le-ltb p (length line) h)

  pub after-other : p < length line → at line p ≢ byte → after_byte line p byte ≡ None
  unfolding after_byte
  after-other h d = rw (lt-ltb p (length line) h, ne_eqb (at line p) byte d)

  pub after-here : p < length line → at line p ≡ byte → after_byte line p byte ≡ Some (p + 1)
  unfolding after_byte
  after-here h e = rw (lt-ltb p (length line) h, eq-eqb (at line p) byte e)

-- ---- words

begins_is : (word text : List ℕ) → begins word text ≡ starts_with eqb text word
unfolding begins
begins_is [] text = refl
begins_is (w ∷ ws) [] = refl
begins_is (w ∷ ws) (b ∷ bs) = rw (eqb_same b w w b sym sym, begins_is ws bs)

module _ (line text : List ℕ) (p : ℕ) (word : List ℕ) (r : Bool) (e : text ≡ drop p line) (s : r ≡ starts_with eqb text word) where
  pub word-here : r ≡ true → Some (p + length word) ≡ after_word line p word
  unfolding after_word
  word-here t = rw (← e, begins_is word text, ← s, t)

  pub word-other : r ≡ false → None ≡ after_word line p word
  unfolding after_word
  word-other t = rw (← e, begins_is word text, ← s, t)

module _ (line : List ℕ) (p : ℕ) (name : List ℕ) (r : Option ℕ) (w : r ≡ after_word line p name) where
  pub name-none : r ≡ None → None ≡ after_name line p name
  unfolding after_name
  name-none t = rw (← w, t)

  pub name-ends : (e : ℕ) → r ≡ Some e → ends_by 32 line e ≡ true → Some e ≡ after_name line p name
  unfolding after_name
  name-ends e u t = rw (← w, u, t)

  pub name-goes-on : (e : ℕ) → r ≡ Some e → ends_by 32 line e ≡ false → None ≡ after_name line p name
  unfolding after_name
  name-goes-on e u t = rw (← w, u, t)

-- ---- numbers: v is the value of the first i digits

pub record Counted (text : List ℕ) (v i : ℕ) : Type 0 where
  pub small : v ≤ 18446744073709551615
  pub value : value_from 0 (digits text) ≡ value_from v (digits (drop i text))
  pub ends : length (digits text) ≡ i + length (digits (drop i text))

pub counted_start : (text : List ℕ) → Counted text 0 0
counted_start text = record { small = omega arith; value = refl; ends = omega arith }

value_grows : (ds : List ℕ) (v : ℕ) → v ≤ value_from v ds
unfolding value_from
value_grows [] v = omega arith
value_grows (d ∷ ds) v = omega (arith, value_grows ds (10 * v + (d - 48)))

abbrev pub DigitAt : (d : Option ℕ) → (byte : ℕ) → Type 0
DigitAt d b = d ≡ cond (is_digit b) (Some (b - 48)) None

digit-is : (d b : ℕ) → DigitAt (Some d) b → (is_digit b ≡ true) × (d ≡ b - 48)
digit-is d b e = go (test (is_digit b))
  where
    go : Test (is_digit b) → (is_digit b ≡ true) × (d ≡ b - 48)
    go (is_true t) = (t, same_Some _ _ (rw t at e))
    go (is_false t) = absurd (none-some d (sym (rw t at e)))

digit_not : (b : ℕ) → DigitAt None b → is_digit b ≡ false
digit_not b e = go (test (is_digit b))
  where
    go : Test (is_digit b) → is_digit b ≡ false
    go (is_true t) = absurd (none-some (b - 48) (rw t at e))
    go (is_false t) = t

pub digit-of : (d b : ℕ) → d ≡ b - 48 → 48 ≤ b → b < 58 → DigitAt (Some d) b
digit-of d b e h k = rw (e, le-leb 48 b h, le-leb b 57 (omega arith))

pub digit_low : (b : ℕ) → b < 48 → DigitAt None b
digit_low b h = rw (lt-leb 48 b h)

pub digit-high : (b : ℕ) → 48 ≤ b → 58 ≤ b → DigitAt None b
digit-high b h k = rw (le-leb 48 b h, lt-leb b 57 (omega arith))

module _ (v p q : ℕ) where
  pub between_none : p ≡ q → between v p q ≡ None
  unfolding between
  between_none e = rw (eq-eqb p q e)

  pub between-some : p ≢ q → between v p q ≡ Some (v, q)
  unfolding between
  between-some d = rw (ne_eqb p q d)

module _ {text : List ℕ} {v i : ℕ} (c : Counted text v i) where
  module _ (d : ℕ) (e : DigitAt (Some d) (at text i)) (h : i < length text) where
    digit-on : digits (drop i text) ≡ at text i ∷ digits (drop (i + 1) text)
    unfolding digits
    digit-on = rw (drop-cons text i 0 h, (digit-is d (at text i) e).0, add-one i)

    value_on : value_from 0 (digits text) ≡ value_from (10 * v + d) (digits (drop (i + 1) text))
    unfolding value_from
    value_on = rw (c.value, digit-on, (digit-is d (at text i) e).1)

    pub counted_next : (w : ℕ) → w ≡ 10 * v + d → w ≤ 18446744073709551615 → Counted text w (i + 1)
    counted_next w x m = rw x (record { small = omega arith; value = value_on; ends = omega (arith, c.ends, ap length digit-on) })

  module _ (line : List ℕ) (p : ℕ) (s : text ≡ drop p line) where
    stop : digits (drop i text) ≡ [] → between v p (p + i) ≡ long_at line p
    unfolding long_at value_from
    stop e = rw (← s, c.value, c.ends, e, add-zero i, le-ltb 18446744073709551615 v c.small)

    pub long-past : i ≡ length text → between v p (p + length text) ≡ long_at line p
    unfolding digits
    long-past h = rw (← h) (stop (rw (drop_past i text (omega arith))))

    pub long-other : DigitAt None (at text i) → i < length text → between v p (p + i) ≡ long_at line p
    unfolding digits
    long-other e h = stop (rw (drop-cons text i 0 h, digit_not (at text i) e))

    pub long-large : (d : ℕ) → DigitAt (Some d) (at text i) → i < length text → 18446744073709551615 < 10 * v + d → None ≡ long_at line p
    unfolding long_at
    long-large d e h m =
        let g : 10 * v + d ≤ value_from 0 (digits text) = rw (value_on d e h) (value_grows (digits (drop (i + 1) text)) (10 * v + d)) in
        rw (← s, lt-ltb 18446744073709551615 (value_from 0 (digits text)) (omega arith))

-- ---- numbers of 32 bits

-- a number that a narrower type takes where P says that it fits, r what `try_from` gives
pub fits-not : {E : Type 0} (r : Result ℕ E) (P : Type 0) (v : ℕ) → OkIff r P v → None ≡ result_ok r → P → ⊥
fits-not (Ok x) P v h e p = absurd (none-some x e)
fits-not (Err e) P v h z p = h p

pub fits_is : {E : Type 0} (r : Result ℕ E) (P : Type 0) (v x : ℕ) → OkIff r P v → Some x ≡ result_ok r → P × (x ≡ v)
fits_is (Ok y) P v x h e = let z : x ≡ y = same_Some x y e in rw z h
fits_is (Err e) P v x h z = absurd (none-some x (sym z))

module _ (line : List ℕ) (p : ℕ) (r : Option (ℕ × ℕ)) (w : r ≡ long_at line p) where
  pub number-none : r ≡ None → None ≡ number_at line p
  unfolding number_at
  number-none e = rw (← w, e)

  module _ (n : ℕ × ℕ) (e : r ≡ Some n) where
    pub number_short : (v : ℕ) → v ≡ n.0 → n.0 ≤ 4294967295 → Some (v, n.1) ≡ number_at line p
    unfolding number_at
    number_short v x h = rw (← w, e, le-ltb 4294967295 n.0 h, x)

    pub number-large : 4294967295 < n.0 → None ≡ number_at line p
    unfolding number_at
    number-large h = rw (← w, e, lt-ltb 4294967295 n.0 h)

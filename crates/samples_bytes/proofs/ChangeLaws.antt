-- Bytes compared one after another. Assumes nothing.
use mathlib.Core.Path.{◌≡◌, refl, sym, ◌∙◌}
use mathlib.Core.Bool.{Bool, true, false, cond, not, ◌||◌}
use mathlib.Core.List.{List, [], ◌∷◌}
use mathlib.Core.Logic.{◌≢◌, ◌⊎◌, inl, inr}
use Prim.Native.Nat.{ℕ, suc, ◌+◌, ◌≤◌, ◌<◌}
use native.Mathlib.Omega.{arith}
use native.Mathlib.Nat.{add-zero}
use native.Mathlib.Numerals.{add-one}
use lib.ListN.{length, drop}
use lib.Seq.{drop-cons}
use lib.Dec.{eqb, ltb}
use borrow.Author.Tests.{eq-eqb, ne_eqb}
use Rattle.std.specs.Prelude.{Option, Some, None}
use Rattle.std.specs.Option.{is_some}
use Rattle.std.specs.List.{zip, position_or_len, position_from}
use Rattle.std.proofs.lemmas.Iterator.Adapters.{position_from-zero}
use Rattle.std.proofs.lemmas.Option.{same_Some, none-some}
use Rattle.number.specs.Parts.{at}
use Rattle.samples_text.specs.Text.{by_place}
use Rattle.samples_text.proofs.TextLaws.{drop_past}
use Rattle.samples_bytes.specs.Changes.{differ, change_end, change_start}

-- some byte differs exactly if a change ends, and if one starts
pub differ-end : (xs ys : List ℕ) → differ xs ys ≡ is_some (change_end xs ys)
unfolding differ change_end
differ-end [] ys = refl
differ-end (x ∷ xs) [] = refl
differ-end (x ∷ xs) (y ∷ ys) = rw (differ-end xs ys) (go (eqb x y) (change_end xs ys))
  where
    go : (s : Bool) (r : Option ℕ) → (not s || is_some r) ≡ is_some (by_place r (cond s None (Some 1)) (λ e. Some (suc e)))
    go true None = refl
    go true (Some e) = refl
    go false None = refl
    go false (Some e) = refl

pub differ-start : (xs ys : List ℕ) → differ xs ys ≡ is_some (change_start xs ys)
unfolding differ change_start
differ-start [] ys = refl
differ-start (x ∷ xs) [] = refl
differ-start (x ∷ xs) (y ∷ ys) = rw (differ-start xs ys) (go (eqb x y) (change_start xs ys))
  where
    go : (s : Bool) (r : Option ℕ) → (not s || is_some r) ≡ is_some (cond s (by_place r None (λ e. Some (suc e))) (Some 0))
    go true None = refl
    go true (Some e) = refl
    go false None = refl
    go false (Some e) = refl

module _ (xs ys : List ℕ) (r : Option ℕ) (t : Bool) where
  pub told_none : r ≡ change_start xs ys → r ≡ None → t ≡ (differ xs ys || t)
  told_none w e = rw (differ-start xs ys, ← w, e)

  pub told_end : r ≡ change_end xs ys → r ≡ None → t ≡ (differ xs ys || t)
  told_end w e = rw (differ-end xs ys, ← w, e)

  pub told-some : (e : ℕ) → r ≡ change_start xs ys → r ≡ Some e → true ≡ (differ xs ys || t)
  told-some e w z = rw (differ-start xs ys, ← w, z)

-- ---- the last change that ends before place i ends at e

abbrev pub end_from : (xs ys : List ℕ) → (e : Option ℕ) → (i : ℕ) → Option ℕ
end_from xs ys e i = by_place (change_end (drop i xs) (drop i ys)) e (λ n. Some (i + n))

module _ (xs ys : List ℕ) where
  pub end-first : change_end xs ys ≡ end_from xs ys None 0
  end-first = go (change_end xs ys)
    where
      go : (r : Option ℕ) → r ≡ by_place r None (λ n. Some (0 + n))
      go None = refl
      go (Some n) = let z : n ≡ 0 + n = omega arith in rw (← z)

  module _ (e : Option ℕ) (i : ℕ) where
    pub end-last : length xs ≤ i → end_from xs ys e i ≡ e
    unfolding change_end
    end-last h = rw (drop_past i xs h)

    module _ (h : i < length xs) (k : length xs ≡ length ys) where
      both : (P : List ℕ → List ℕ → Type 0) → P (at xs i ∷ drop (i + 1) xs) (at ys i ∷ drop (i + 1) ys) → P (drop i xs) (drop i ys)
      both P p = rw (drop-cons xs i 0 h, drop-cons ys i 0 (omega arith), ← add-one i) p

      end_same : at xs i ≡ at ys i → end_from xs ys e i ≡ end_from xs ys e (i + 1)
      unfolding change_end
      end_same q =
          both (λ a b. by_place (change_end a b) e (λ n. Some (i + n)) ≡ end_from xs ys e (i + 1))
          (rw (eq-eqb (at xs i) (at ys i) q) (go (change_end (drop (i + 1) xs) (drop (i + 1) ys))))
        where
          go : (r : Option ℕ) → by_place (by_place r None (λ n. Some (suc n))) e (λ n. Some (i + n)) ≡ by_place r e (λ n. Some (i + 1 + n))
          go None = refl
          go (Some n) = let z : i + suc n ≡ i + 1 + n = omega arith in rw z

      end-here : at xs i ≢ at ys i → end_from xs ys e i ≡ end_from xs ys (Some (i + 1)) (i + 1)
      unfolding change_end
      end-here d =
          both (λ a b. by_place (change_end a b) e (λ n. Some (i + n)) ≡ end_from xs ys (Some (i + 1)) (i + 1))
          (rw (ne_eqb (at xs i) (at ys i) d) (go (change_end (drop (i + 1) xs) (drop (i + 1) ys))))
        where
          go : (r : Option ℕ) → by_place (by_place r (Some 1) (λ n. Some (suc n))) e (λ n. Some (i + n)) ≡ by_place r (Some (i + 1)) (λ n. Some (i + 1 + n))
          go None = refl
          go (Some n) = let z : i + suc n ≡ i + 1 + n = omega arith in rw z

      -- e' is the end after place i
      pub end-next : (e' : Option ℕ) → ((at xs i ≢ at ys i) × (e' ≡ Some (i + 1))) ⊎ ((at xs i ≡ at ys i) × (e' ≡ e))
          → end_from xs ys e i ≡ end_from xs ys e' (i + 1)
      end-next e' (inl w) = rw w.1 (end-here w.0)
      end-next e' (inr w) = rw w.1 (end_same w.0)

-- ---- a change starts before it ends, and ends within the bytes

pub end-within : (xs ys : List ℕ) (e : ℕ) → Some e ≡ change_end xs ys → (e ≤ length xs) × (e ≤ length ys)
unfolding change_end
end-within [] ys e w = absurd (none-some e (sym w))
end-within (x ∷ xs) [] e w = absurd (none-some e (sym w))
end-within (x ∷ xs) (y ∷ ys) e w = go (eqb x y) (change_end xs ys) (end-within xs ys) w
  where
    go : (s : Bool) (r : Option ℕ) → ((n : ℕ) → Some n ≡ r → (n ≤ length xs) × (n ≤ length ys))
        → Some e ≡ by_place r (cond s None (Some 1)) (λ n. Some (suc n)) → (e ≤ length (x ∷ xs)) × (e ≤ length (y ∷ ys))
    go true None f z = absurd (none-some e (sym z))
    go false None f z = let q : e ≡ 1 = same_Some e 1 z in (omega arith, omega arith)
    go s (Some n) f z = let q : e ≡ suc n = same_Some e (suc n) z in let g : (n ≤ length xs) × (n ≤ length ys) = f n refl in (omega arith, omega arith)

pub starts-before : (xs ys : List ℕ) (i e : ℕ) → Some i ≡ change_start xs ys → Some e ≡ change_end xs ys → i < e
unfolding change_start change_end
starts-before [] ys i e v w = absurd (none-some e (sym w))
starts-before (x ∷ xs) [] i e v w = absurd (none-some e (sym w))
starts-before (x ∷ xs) (y ∷ ys) i e v w = go (eqb x y) (change_start xs ys) (change_end xs ys) (starts-before xs ys) v w
  where
    go : (s : Bool) (a r : Option ℕ) → ((j n : ℕ) → Some j ≡ a → Some n ≡ r → j < n)
        → Some i ≡ cond s (by_place a None (λ j. Some (suc j))) (Some 0) → Some e ≡ by_place r (cond s None (Some 1)) (λ n. Some (suc n)) → i < e
    go true None r f v w = absurd (none-some i (sym v))
    go true (Some j) None f v w = absurd (none-some e (sym w))
    go true (Some j) (Some n) f v w =
        let a : i ≡ suc j = same_Some i (suc j) v in
        let b : e ≡ suc n = same_Some e (suc n) w in
        let g : j < n = f j n refl refl in omega arith
    go false a None f v w =
        let p : i ≡ 0 = same_Some i 0 v in
        let q : e ≡ 1 = same_Some e 1 w in omega arith
    go false a (Some n) f v w =
        let p : i ≡ 0 = same_Some i 0 v in
        let q : e ≡ suc n = same_Some e (suc n) w in omega arith

-- ---- the first place that differs, as the code finds it

abbrev pub differs : ℕ × ℕ → Bool
differs p = not (eqb p.0 p.1)

pub positions : (i : ℕ) (xs ys : List ℕ) → position_from differs i (zip xs ys) ≡ by_place (change_start xs ys) None (λ j. Some (i + j))
unfolding change_start
positions i [] ys = refl
positions i (x ∷ xs) [] = refl
positions i (x ∷ xs) (y ∷ ys) = go (eqb x y) (change_start xs ys) (positions (i + 1) xs ys)
  where
    go : (s : Bool) (r : Option ℕ) → position_from differs (i + 1) (zip xs ys) ≡ by_place r None (λ j. Some (i + 1 + j))
        → cond (not s) (Some i) (position_from differs (i + 1) (zip xs ys))
        ≡ by_place (cond s (by_place r None (λ j. Some (suc j))) (Some 0)) None (λ j. Some (i + j))
    go true None ih = ih
    go true (Some j) ih = let z : i + 1 + j ≡ i + suc j = omega arith in rw (← z) ih
    go false r ih = rw (add-zero i)

pub starts : (xs ys : List ℕ) (r : Option ℕ)
    → r ≡ cond (ltb (position_or_len differs (zip xs ys)) (length (zip xs ys))) (Some (position_or_len differs (zip xs ys))) None
    → r ≡ change_start xs ys
starts xs ys r e = e ∙ position_from-zero differs (zip xs ys) ∙ positions 0 xs ys ∙ go (change_start xs ys)
  where
    go : (r : Option ℕ) → by_place r None (λ j. Some (0 + j)) ≡ r
    go None = refl
    go (Some j) = let z : 0 + j ≡ j = omega arith in rw z

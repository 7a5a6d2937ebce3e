-- Ranges of written bits: two that are alike, none at all, and one after another. Assumes nothing.
use mathlib.Core.Path.{◌≡◌, refl, sym, ap, ◌∙◌}
use mathlib.Core.Bool.{true, ◌&&◌, and_assoc}
use Prim.Native.Nat.{ℕ, zero, suc, ◌+◌, ◌<◌}
use native.Mathlib.Omega.{arith}
use native.Mathlib.Nat.{add-zero, zero-add, add-suc, suc-add}
use Rattle.plain.specs.Ops.{Ops, mark_range, range_marked}

-- two ranges are alike where their bits are
module _ {S T : Type 0} (O : Ops S) (P : Ops T) (s : S) (t : T) where
  pub range_same : (n a b : ℕ) → ((i : ℕ) → i < n → O.marked s (a + i) ≡ P.marked t (b + i)) → range_marked O s a n ≡ range_marked P t b n
  unfolding range_marked
  range_same zero a b h = refl
  range_same (suc n) a b h =
      let x : a + 0 ≡ a = omega arith in
      let y : b + 0 ≡ b = omega arith in
      let here : O.marked s a ≡ P.marked t b = sym (ap (O.marked s) x) ∙ h 0 (omega arith) ∙ ap (P.marked t) y in
      rw (here, range_same n (suc a) (suc b) later)
    where
      later : (i : ℕ) → i < n → O.marked s (suc a + i) ≡ P.marked t (suc b + i)
      later i k =
          let x : a + suc i ≡ suc a + i = omega arith in
          let y : b + suc i ≡ suc b + i = omega arith in
          sym (ap (O.marked s) x) ∙ h (suc i) (omega arith) ∙ ap (P.marked t) y

module _ {S : Type 0} (O : Ops S) where
  -- no address at all
  pub mark-none : (s : S) (a n : ℕ) → n ≡ 0 → mark_range O s a n ≡ s
  unfolding mark_range
  mark-none s a n h = rw h

  pub marked-none : (s : S) (a n : ℕ) → n ≡ 0 → range_marked O s a n ≡ true
  unfolding range_marked
  marked-none s a n h = rw h

  -- a range, and the range right after it
  pub mark-next : (s : S) (a m n : ℕ) → mark_range O s a (m + n) ≡ mark_range O (mark_range O s a m) (a + m) n
  unfolding mark_range
  mark-next s a zero n = rw (zero-add n, add-zero a)
  mark-next s a (suc m) n = rw (suc-add m n, mark-next (O.mark s a) (suc a) m n, suc-add a m, ← add-suc a m)

  pub marked_next : (s : S) (a m n : ℕ) → range_marked O s a (m + n) ≡ (range_marked O s a m && range_marked O s (a + m) n)
  unfolding range_marked
  marked_next s a zero n = rw (zero-add n, add-zero a)
  marked_next s a (suc m) n =
      rw (suc-add m n, marked_next s (suc a) m n, suc-add a m, ← add-suc a m)
      (sym (and_assoc (O.marked s a) (range_marked O s (suc a) m) (range_marked O s (a + suc m) n)))

-- A turn of the audit's loop is a step of the layout's walk. Assumes nothing.
use mathlib.Core.Path.{◌≡◌, refl, sym, ap, ◌∙◌}
use mathlib.Core.Logic.{◌⊎◌, inl, inr}
use mathlib.Core.Bool.{Bool, true, false, cond, ◌&&◌, ◌||◌}
use mathlib.Core.List.{[], ◌∷◌}
use mathlib.Core.Option.{Option, none}
use Prim.Native.Nat.{ℕ, zero, suc, ◌+◌, ◌-◌, ◌*◌, ◌/◌, ◌%◌, ◌≤◌, ◌<◌, max}
use native.Mathlib.Omega.{arith}
use native.Mathlib.Numerals.{add-one}
use native.Mathlib.Nat.{add-zero, sub-zero, mod-lt}
use lib.Dec.{leb, eqb, lit<}
use borrow.Author.Tests.{ne_eqb, le-leb, lt-leb, eqb-true, eqb-false, leb-true, leb-false}
use Rattle.number.specs.Bits.{bit}
use Rattle.number.proofs.TestLaws.{Test, is_true, is_false, test, and-true, and_false_r, false_of}
use Rattle.number.proofs.BitLaws.{bit_test}
use Rattle.plain.specs.Reading.{Tally}
use Rattle.plain.specs.Areas.{stack_rules}
use Rattle.plain.specs.Found.{Found, bad, goes_on, begins, totals}
use Rattle.stack_layout.specs.Code.{short_code, code_of, low_bits, primary_of, secondary_of, length_from, short_length}
use Rattle.stack_layout.specs.Walk.{is_clear, is_marked, says_literal, is_byte, length_at, stack_walk}
use Rattle.stack_layout.proofs.CodeLaws.{low-lt}
use Rattle.stack_audit_laws.specs.declared.Walk.{Walk}
use Rattle.stack_audit_laws.specs.Turn.{told, current, literal_at, stands, past, after}
use Rattle.stack_audit_laws.specs.Rest.{beside, ahead}
use Rattle.stack_laws.proofs.CodeLaws.{short-small}
use Rattle.stack_audit_laws.proofs.TallyLaws.{beside-on, beside-begins, Unmarked, no, yes, begins-unmarked, totals-beside}

-- a block that may begin at q: the walk looks at the length H that is told, the code at T
open-cases : {F : Type 0} (size q H T : ℕ) (clear : Bool) (fit : ℕ → Bool) (idle stop : F) (on : ℕ → F)
    → (clear ≡ true → H ≡ 0) → (T ≡ H) ⊎ ((T ≡ 0) × ((leb 1 H && leb (q + H) size && fit H) ≡ false))
    → (let K = cond (leb (q + T) size) T 0 in
    cond clear idle (cond (leb 1 H && leb (q + H) size && fit H) (on H) stop) ≡ cond (cond (eqb K 0) clear (fit K)) (cond (eqb K 0) idle (on K)) stop)
open-cases size q H T clear fit idle stop on h (inl t) = rw t (go (test (leb (q + H) size)) (test (eqb H 0)) (test clear))
  where
    go : Test (leb (q + H) size) → Test (eqb H 0) → Test clear
        → (let K = cond (leb (q + H) size) H 0 in
        cond clear idle (cond (leb 1 H && leb (q + H) size && fit H) (on H) stop) ≡ cond (cond (eqb K 0) clear (fit K)) (cond (eqb K 0) idle (on K)) stop)
    go (is_true f) (is_true z) c = let x : H ≡ 0 = eqb-true H 0 z in rw (f, z, lt-leb 1 H (omega arith))
    go (is_true f) (is_false z) (is_true c) = absurd (eqb-false H 0 z (h c))
    go (is_true f) (is_false z) (is_false c) = let x : H ≡ 0 → ⊥ = eqb-false H 0 z in rw (f, z, c, le-leb 1 H (omega arith))
    go (is_false f) z c = rw (f, and_false_r (leb 1 H) false refl)
open-cases size q H T clear fit idle stop on h (inr t) = rw (t.0, t.1) (go (leb (q + 0) size))
  where
    go : (f : Bool) → (let K = cond {A = ℕ} f 0 0 in cond clear idle stop ≡ cond (cond (eqb K 0) clear (fit K)) (cond (eqb K 0) idle (on K)) stop)
    go true = refl
    go false = refl

-- a block of length K that goes on is counted past this byte or later, but once
counted : (b K : ℕ) → eqb K 0 ≡ false → (t : Bool) → b + cond t 1 0 + cond (eqb (cond t 0 K) 0) 0 1 ≡ b + 1
counted b K k true = omega arith
counted b K k false = rw k (omega arith)

module _ (size : ℕ) (pr se : ℕ → ℕ) where
  -- where no block goes on the offset and the mark are of no account, and no marks are found
  pub idle : (n q i : ℕ) (t : Bool) → stack_walk size pr se n q 0 i t ≡ stack_walk size pr se n q 0 0 false
  unfolding stack_walk
  idle zero q i t = refl
  idle (suc n) q i t = refl

  -- a block of length L goes on past its byte i at q
  abbrev onward : (n q L i : ℕ) (t : Bool) → Found
  onward n q L i t = goes_on (is_marked size pr se q ∷ []) (stack_walk size pr se n (suc q) (cond (leb L (suc i)) 0 L) (suc i) t)

  -- a block begins at q
  begins_at : (q : ℕ) → Bool
  begins_at q = let H = length_at size pr se q in leb 1 H && leb (q + H) size && is_byte size pr se q H 0 (says_literal size pr se q)

  unmarked : (n q : ℕ) → Unmarked (stack_walk size pr se n q 0 0 false)
  unfolding stack_walk begins_at
  unmarked zero q = yes
  unmarked (suc n) q =
      let u = says_literal size pr se q in
      go (is_clear size pr se q) (begins_at q) (unmarked n (suc q)) (begins-unmarked q u (onward n q (length_at size pr se q) 0 u))
    where
      go : (c t : Bool) {f g : Found} → Unmarked f → Unmarked g → Unmarked (cond c f (cond t g bad))
      go true t F G = F
      go false true F G = G
      go false false F G = no

  pub start : (n q : ℕ) → totals (stack_rules 0 size) (stack_walk size pr se n q 0 0 false) ≡ beside 0 0 0 (stack_walk size pr se n q 0 0 false)
  start n q = totals-beside size (unmarked n q)

  -- a clear byte tells no length
  clear_none : (q : ℕ) → is_clear size pr se q ≡ true → length_at size pr se q ≡ 0
  unfolding is_clear length_at short_length length_from short_code
  clear_none q e =
      let z : pr q ≡ 0 = eqb-true (pr q) 0 (and-true (eqb (pr q) 0) (eqb (se q) 0) e).0 in
      rw z

  -- the code of a long block has no room here
  no_room : (q : ℕ) → 36 < pr q / 4 → size < q + 9 → begins_at q ≡ false
  unfolding begins_at is_byte primary_of code_of short_code
  no_room q a b =
      false_of (begins_at q)
      (λ e. let H = length_at size pr se q in
      let u = says_literal size pr se q in
      let m = low_bits u (u || is_marked size pr se q) in
      let t = and-true (leb 1 H && leb (q + H) size) (is_byte size pr se q H 0 u) e in
      let f : q + H ≤ size = leb-true (q + H) size (and-true (leb 1 H) (leb (q + H) size) t.0).1 in
      let x : pr q ≡ primary_of H 0 m = eqb-true (pr q) (primary_of H 0 m) (and-true (eqb (pr q) (primary_of H 0 m)) (eqb (se q) (secondary_of H 0)) t.1).0 in
      let s : H ≤ 8 = omega arith in
      let c : code_of H 0 ≡ H * (H - 1) / 2 + 0 + 1 = rw (le-leb H 8 s) in
      omega (arith, short-small H s, low-lt u (u || is_marked size pr se q)))

  -- the code asks for the length as the walk does, but where there is no room for it
  told_same : (q : ℕ) → (told size pr se q ≡ length_at size pr se q) ⊎ ((told size pr se q ≡ 0) × (begins_at q ≡ false))
  unfolding told length_at
  told_same q = go (test (leb (pr q / 4) 36)) (test (leb (q + 9) size))
    where
      go : Test (leb (pr q / 4) 36) → Test (leb (q + 9) size)
          → (told size pr se q ≡ length_at size pr se q) ⊎ ((told size pr se q ≡ 0) × (begins_at q ≡ false))
      go (is_true a) b = inl (rw a)
      go (is_false a) (is_true b) = inl (rw (a, b))
      go (is_false a) (is_false b) = inr (rw (a, b), no_room q (leb-false (pr q / 4) 36 a) (leb-false (q + 9) size b))

  -- a step where no block goes on, as the code takes it
  open_step : (n q i : ℕ) (t : Bool) → (let K = current size pr se q 0 in
      let u = says_literal size pr se q in
      stack_walk size pr se (suc n) q 0 i t
      ≡ cond (stands (pr q) (se q) K 0 u) (cond (eqb K 0) (stack_walk size pr se n (suc q) 0 0 false) (begins q u (onward n q K 0 u))) bad)
  unfolding stack_walk begins_at current stands is_clear is_byte
  open_step n q i t =
      let u = says_literal size pr se q in
      open-cases size q (length_at size pr se q) (told size pr se q) (is_clear size pr se q) (λ k. is_byte size pr se q k 0 u)
      (stack_walk size pr se n (suc q) 0 0 false) bad (λ k. begins q u (onward n q k 0 u)) (clear_none q) (told_same q)

  -- and where one does
  on_step : (n q L i : ℕ) (t : Bool) → (L ≡ 0 → ⊥) → stack_walk size pr se (suc n) q L i t ≡ cond (stands (pr q) (se q) L i t) (onward n q L i t) bad
  unfolding stack_walk stands is_byte
  on_step n q L i t h = rw (ne_eqb L 0 h)

  -- past a block's last byte the code counts from 0 again
  reset : (n q K i : ℕ) → stack_walk size pr se n (suc q) (cond (leb K (i + 1)) 0 K) (cond (leb K (i + 1)) 0 (i + 1)) (literal_at pr (suc q) (cond (leb K (i + 1)) 0 (i + 1)))
      ≡ stack_walk size pr se n (suc q) (cond (leb K (suc i)) 0 K) (suc i) (literal_at pr q i)
  unfolding literal_at
  reset n q K i = rw (add-one i) (go (leb K (suc i)))
    where
      go : (c : Bool) → stack_walk size pr se n (suc q) (cond c 0 K) (cond c 0 (suc i)) (literal_at pr (suc q) (cond c 0 (suc i)))
          ≡ stack_walk size pr se n (suc q) (cond c 0 K) (suc i) (literal_at pr q i)
      go true = idle n (suc q) 0 (literal_at pr (suc q) 0) ∙ sym (idle n (suc q) (suc i) (literal_at pr q i))
      go false = let e : suc q - suc i ≡ q - i = omega arith in rw e

  -- what is ahead beyond byte i of a block of length K at q, however the walk goes on
  beyond : (n q : ℕ) → Walk → (K : ℕ) → Option Tally
  beyond n q w K =
      beside (w.blocks + 1) (w.live + 1) (w.written + pr q % 2)
      (stack_walk size pr se n (suc q) (cond (leb K (suc w.i)) 0 K) (suc w.i) (literal_at pr q w.i))

  beyond-after : (n q : ℕ) (w : Walk) (K : ℕ) → eqb K 0 ≡ false → ahead size pr se n (suc q) (after w K (pr q % 2)) ≡ beyond n q w K
  unfolding ahead after past beyond
  beyond-after n q w K k = rw (k, counted w.blocks K k (leb K (w.i + 1))) (ap (beside (w.blocks + 1) (w.live + 1) (w.written + pr q % 2)) (reset n q K w.i))

  low_bit : (q : ℕ) → bit (eqb (pr q % 2) 1) ≡ pr q % 2
  low_bit q = bit_test (pr q % 2) (mod-lt (pr q) (lit< tt))

  -- where no block goes on, the one that would begin at q is told by the byte there
  first-tells : (q : ℕ) → literal_at pr q 0 ≡ says_literal size pr se q
  unfolding literal_at
  first-tells q = rw (sub-zero q)

  -- a turn where no block goes on
  turn-open : (n q : ℕ) (w : Walk) (K : ℕ) (t : Bool) → w.len ≡ 0 → w.i ≡ 0 → K ≡ current size pr se q 0 → t ≡ literal_at pr q 0
      → Test (stands (pr q) (se q) K w.i t) → Test (eqb K 0)
      → ahead size pr se (suc n) q w ≡ cond (stands (pr q) (se q) K w.i t) (ahead size pr se n (suc q) (after w K (pr q % 2))) none
  unfolding ahead after past beyond beside
  turn-open n q w K t z y x u (is_false s) k =
      let s' : stands (pr q) (se q) K 0 t ≡ false = rw y at s in
      rw (z, y, open_step n q 0 (literal_at pr q 0), ← x, ← first-tells q, ← u, s')
  turn-open n q w K t z y x u (is_true s) (is_true k) =
      let s' : stands (pr q) (se q) K 0 t ≡ true = rw y at s in
      rw (k, z, y, open_step n q 0 (literal_at pr q 0), ← x, ← first-tells q, ← u, s', k, idle n (suc q) 0 (literal_at pr (suc q) 0))
  turn-open n q w K t z y x u (is_true s) (is_false k) =
      let s' : stands (pr q) (se q) K 0 t ≡ true = rw y at s in
      let l : ahead size pr se (suc n) q w ≡ beyond n q w K =
      rw (z, y, open_step n q 0 (literal_at pr q 0), ← x, ← first-tells q, ← u, s', k, beside-begins, low_bit q, add-zero) in
      rw s (l ∙ sym (beyond-after n q w K k))

  -- a turn where one does
  turn_on : (n q : ℕ) (w : Walk) (K : ℕ) (t : Bool) → eqb w.len 0 ≡ false → K ≡ w.len → t ≡ literal_at pr q w.i → Test (stands (pr q) (se q) K w.i t)
      → ahead size pr se (suc n) q w ≡ cond (stands (pr q) (se q) K w.i t) (ahead size pr se n (suc q) (after w K (pr q % 2))) none
  unfolding ahead after past beyond beside
  turn_on n q w K t a x u (is_false s) = rw (a, on_step n q w.len w.i (literal_at pr q w.i) (eqb-false w.len 0 a), ← x, ← u, s)
  turn_on n q w K t a x u (is_true s) =
      let l : ahead size pr se (suc n) q w ≡ beyond n q w K =
      rw (a, on_step n q w.len w.i (literal_at pr q w.i) (eqb-false w.len 0 a), ← x, ← u, s, beside-on, low_bit q) in
      rw s (l ∙ sym (beyond-after n q w K (rw (← x) at a)))

  -- a turn of the loop
  pub turn : (n q : ℕ) (w : Walk) (K : ℕ) (t : Bool) → w.i < max w.len 1 → K ≡ current size pr se q w.len → t ≡ literal_at pr q w.i
      → ahead size pr se (suc n) q w ≡ cond (stands (pr q) (se q) K w.i t) (ahead size pr se n (suc q) (after w K (pr q % 2))) none
  unfolding current
  turn n q w K t h e u = go (test (eqb w.len 0)) (test (stands (pr q) (se q) K w.i t)) (test (eqb K 0))
    where
      go : Test (eqb w.len 0) → Test (stands (pr q) (se q) K w.i t) → Test (eqb K 0)
          → ahead size pr se (suc n) q w ≡ cond (stands (pr q) (se q) K w.i t) (ahead size pr se n (suc q) (after w K (pr q % 2))) none
      go (is_true a) s k =
          let z : w.len ≡ 0 = eqb-true w.len 0 a in
          let y : w.i ≡ 0 = omega arith in
          turn-open n q w K t z y (rw z at e) (rw y at u) s k
      go (is_false a) s k = turn_on n q w K t a (rw a at e) u s

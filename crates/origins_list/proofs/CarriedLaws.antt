-- A list of the form with origins is good exactly if it carries what the statement says; the numbers of its calls; and kind 13 is judged as the
-- history judges it. Assumes nothing.
use mathlib.Core.Path.{◌≡◌, refl, sym, ◌∙◌}
use mathlib.Core.Logic.{◌≢◌}
use mathlib.Core.Bool.{Bool, true, false, cond}
use mathlib.Core.List.{List, [], ◌∷◌}
use Prim.Native.Nat.{ℕ, zero, suc, ◌%◌, ◌≤◌, ◌<◌}
use native.Mathlib.Omega.{arith}
use lib.Dec.{eqb}
use borrow.Author.Tests.{eq-eqb, eqb-true, eqb-false}
use Rattle.number.specs.Bits.{bit}
use Rattle.number.specs.Parts.{Each}
use Rattle.number.proofs.TestLaws.{Test, is_true, is_false, test, not-both}
use Rattle.plain.specs.Block.{holds, has_base}
use Rattle.plain.specs.Blocks.{find, any}
use Rattle.plain.specs.Rules.{Rules, Sound}
use Rattle.plain.specs.Call as base
use Rattle.plain.specs.Call.{clear, begin, free, remove, written, ask, valid, initialised, next, audit, place, answer, number, yes_no, Refusal, first_of, unless}
use Rattle.plain.proofs.RunLaws.{unless-number}
use Rattle.origins_list.specs.Call.{Call, plain, point, copy, live}
use Rattle.origins_list.specs.Cells.{Small}
use Rattle.origins_list.specs.OriginList.{OriginList, first_list_at, by_origins, points_into, origins_after, origin_answer, origin_step}
use Rattle.origins_list.specs.Carries.{Carries}
use Rattle.origins_list.specs.History.{History, judged}
use Rattle.origins_list.proofs.SpotLaws.{Spot, vacant, taken, spot, is_base, has_four, there, any-base, any-four}
use Rattle.origins_list.proofs.KeepLaws.{Keeps, keep-none}
use Rattle.origins_list.proofs.HistoryLaws.{tells_first}
use Rattle.origins_list.proofs.ToldLaws.{judged-so}
use Rattle.origins_list.proofs.StepLaws.{accepted-0, Good, TellsOf, held-there}

-- ---- numbers

pub number-first : (R : Rules) (c : Call) (x : OriginList) → number (origin_step R c x).1 ≡ first_of (by_origins R c x)
unfolding origin_step
number-first R c x = unless-number (first_of (by_origins R c x)) x (origins_after c x, origin_answer R c x) (accepted-0 R c x)

abbrev No8 : List Refusal → Type 0
No8 rs = Each (λ (r : Refusal). r.0 ≢ 8) rs

first-8 : (rs : List Refusal) → No8 rs → first_of rs ≢ 8
first-8 [] h = omega arith
first-8 (r ∷ rs) h = go r.1 (first-8 rs h.1)
  where
    go : (t : Bool) → first_of rs ≢ 8 → cond t r.0 (first_of rs) ≢ 8
    go true k = h.0
    go false k = k

listed-8 : (R : Rules) (c : Call) (x : OriginList) → No8 (by_origins R c x)
listed-8 R (plain clear) x = tt
listed-8 R (plain (begin h b l)) x = (omega arith, (omega arith, (omega arith, (omega arith, (omega arith, (omega arith, tt))))))
listed-8 R (plain (free zero)) x = tt
listed-8 R (plain (free (suc b))) x = (omega arith, (omega arith, (omega arith, tt)))
listed-8 R (plain (remove b)) x = (omega arith, (omega arith, tt))
listed-8 R (plain (written a n)) x = (omega arith, (omega arith, (omega arith, (omega arith, tt))))
listed-8 R (plain (ask a)) x = (omega arith, (omega arith, tt))
listed-8 R (plain (valid w a n from)) x = (omega arith, tt)
listed-8 R (plain (initialised a n)) x = (omega arith, tt)
listed-8 R (plain (next a)) x = (omega arith, tt)
listed-8 R (plain audit) x = tt
listed-8 R (plain (place l k)) x = (omega arith, (omega arith, tt))
listed-8 R (point c a) x = (omega arith, (omega arith, tt))
listed-8 R (copy t f) x = (omega arith, (omega arith, tt))
listed-8 R (live c a) x = (omega arith, (omega arith, tt))

-- 8 is never given
pub no-8 : (R : Rules) (c : Call) (x : OriginList) → number (origin_step R c x).1 ≢ 8
no-8 R c x = rw (number-first R c x) (first-8 (by_origins R c x) (listed-8 R c x))

module _ (R : Rules) (G : Sound R) where
  module _ (x : OriginList) (g : Good R G x) where
    abbrev s : ℕ → Spot
    s = spot x.blocks

    -- what the list carries, in the words of the statement
    pub carries : Carries R x
    carries =
        record {
          placed = g.placed;
          based = λ b e. at_base b (s b) refl (sym (any-base R G x.blocks g.placed b) ∙ e);
          unbased = λ b e. g.keeps.unbased b (sym (any-base R G x.blocks g.placed b) ∙ e);
          own = λ b c e q z. own b c (s b) (s c) refl refl (sym (any-base R G x.blocks g.placed b) ∙ e) (sym (any-base R G x.blocks g.placed c) ∙ q) z;
          pointed = λ c n. let p = g.keeps.pointed c n in (p.0, any-four R G x.blocks g.placed c ∙ p.1);
          known = g.keeps.known;
          last = g.keeps.last;
        }
      where
        at_base : (b : ℕ) (y : Spot) → s b ≡ y → is_base b y ≡ true → (b % 4 ≡ 0) × (1 ≤ x.origin b) × (x.origin b < x.counter)
        at_base b vacant e t = absurd (not-both false t refl)
        at_base b (taken c l) e t = let z : c ≡ b = eqb-true c b t in rw (← z) (g.keeps.based b c l e)

        own : (b c : ℕ) (y z : Spot) → s b ≡ y → s c ≡ z → is_base b y ≡ true → is_base c z ≡ true → x.origin b ≡ x.origin c → b ≡ c
        own b c vacant z e q t u o = absurd (not-both false t refl)
        own b c (taken d l) vacant e q t u o = absurd (not-both false u refl)
        own b c (taken d l) (taken d' l') e q t u o =
            g.keeps.own b c l l' (e ∙ rw (eqb-true d b t)) (q ∙ rw (eqb-true d' c u)) o

    -- origins and referents have four bytes
    pub small-origin : Small x.origin
    small-origin c = go (test (is_base c (s c)))
      where
        at_base : (y : Spot) → s c ≡ y → is_base c y ≡ true → x.origin c < 4294967296
        at_base vacant e t = absurd (not-both false t refl)
        at_base (taken b l) e t =
            let h = g.keeps.based c b l e in
            let z : b ≡ c = eqb-true b c t in
            rw (← z) (omega (arith, h.2, g.keeps.last))

        go : Test (is_base c (s c)) → x.origin c < 4294967296
        go (is_true t) = at_base (s c) refl t
        go (is_false t) = rw (g.keeps.unbased c t) (omega arith)

    pub small-referent : Small x.referent
    small-referent c = omega (arith, g.keeps.known c, g.keeps.last)

  -- ---- the other way: a list that carries what it should is good

  pub carried : (x : OriginList) → Carries R x → Good R G x
  carried x C = record { placed = C.placed; keeps = kept }
    where
      at_base : (b l : ℕ) → spot x.blocks b ≡ taken b l → any (has_base b) x.blocks ≡ true
      at_base b l e = any-base R G x.blocks C.placed b ∙ rw (e, eq-eqb b b refl)

      kept : Keeps (spot x.blocks) x.origin x.referent x.counter
      kept =
          record {
            based = λ a b l e. let t = there R G x.blocks C.placed a b l e in C.based b (at_base b l (t.all b (omega arith) (omega (arith, t.some))));
            unbased = λ b e. C.unbased b (any-base R G x.blocks C.placed b ∙ e);
            own = λ b c l n e q z. C.own b c (at_base b l e) (at_base c n q) z;
            pointed = λ c n. let p = C.pointed c n in (p.0, sym (any-four R G x.blocks C.placed c) ∙ p.1);
            known = C.known;
            last = C.last;
          }

  pub first_good : (k : ℕ) → 1 ≤ k → k ≤ 4294967296 → Good R G (first_list_at k)
  unfolding find
  first_good k o n = record { placed = tt; keeps = keep-none k o n }

  pub first-told : (k : ℕ) → TellsOf R G k [] (first_list_at k)
  unfolding find
  first-told k = tells_first k

  -- ---- kind 13

  pub step-judged : (x : OriginList) → Good R G x → (k : ℕ) → 1 ≤ k → (h : History) → TellsOf R G k h x → (c a : ℕ)
      → (origin_step R (live c a) x).1 ≡ answer (number (origin_step R (live c a) x).1) (bit (judged h c a)) 0 0 0
  unfolding origin_step
  step-judged x g k o h T c a = go (first_of (by_origins R (live c a) x)) refl
    where
      so : points_into x c a ≡ judged h c a
      so = rw (held-there R G x a) (judged-so k o h (spot x.blocks) x.origin x.referent x.counter T c a)

      -- where no pointer can stand none is set
      unset : x.referent c ≡ 0 → judged h c a ≡ false
      unset z = sym so ∙ rw z

      inside-four : (c : ℕ) → any (holds c 4) x.blocks ≡ true → R.inside c ≡ true
      inside-four c q = there-inside (spot x.blocks c) refl (sym (any-four R G x.blocks g.placed c) ∙ q)
        where
          there-inside : (y : Spot) → spot x.blocks c ≡ y → has_four c y ≡ true → R.inside c ≡ true
          there-inside vacant e t = absurd (not-both false t refl)
          there-inside (taken b l) e t = let w = there R G x.blocks g.placed c b l e in G.in_inside b l c w.fits w.from w.to

      refused : (n : ℕ) → first_of (by_origins R (live c a) x) ≡ suc n → x.referent c ≡ 0
      refused n e = go (test (eqb (x.referent c) 0))
        where
          go : Test (eqb (x.referent c) 0) → x.referent c ≡ 0
          go (is_true t) = eqb-true (x.referent c) 0 t
          go (is_false t) =
              let p = (carries x g).pointed c (eqb-false (x.referent c) 0 t) in
              let i = inside-four c p.1 in
              absurd (omega (arith, rw (i, eq-eqb (c % 4) 0 p.0, p.1) at e))

      go : (n : ℕ) → first_of (by_origins R (live c a) x) ≡ n
          → (unless n x (x, yes_no (points_into x c a))).1
          ≡ answer (number (unless n x (x, yes_no (points_into x c a))).1) (bit (judged h c a)) 0 0 0
      go zero e = rw so
      go (suc n) e = rw (unset (refused n e))

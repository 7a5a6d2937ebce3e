-- The rules of a heap of segments of any size and of a stack: sound, the same at every start, and within their range. Assumes nothing.
use mathlib.Core.Path.{◌≡◌, refl, sym, ap, ◌∙◌}
use mathlib.Core.Bool.{Bool, true, false, cond, not, ◌&&◌}
use mathlib.Core.List.{List, [], ◌∷◌}
use mathlib.Core.Option.{some}
use Prim.Native.Nat.{ℕ, ◌+◌, ◌*◌, ◌-◌, ◌/◌, ◌%◌, ◌≤◌, ◌<◌}
use native.Mathlib.Omega.{arith}
use native.Mathlib.Nat.{div-add-mod', mod-lt, mod-add-mod, zero-add, mul-le-mul_right, lt_of_mul-lt-mul_right}
use lib.Dec.{leb}
use borrow.Author.Tests.{le-leb, eq-eqb, leb-true, eqb-true}
use Rattle.map.specs.Map.{within}
use Rattle.map.proofs.MapLaws.{within-true, true-within}
use Rattle.number.proofs.TestLaws.{Test, is_true, is_false, test, and-true, not-both, false_of}
use Rattle.plain.specs.Block.{Block, len}
use Rattle.plain.specs.Blocks.{find, found, any}
use Rattle.plain.specs.Rules.{Rules, Proper, Placed, Sound}
use Rattle.plain.specs.Areas.{segments, takes, heap_rules, stack_rules}
use Rattle.plain.specs.Lift.{Shifted, down, downs}
use Rattle.plain.specs.Join.{join_rules, Separate}
use Rattle.plain.proofs.LiftLaws.{Unshifted, less-down}
use Rattle.plain.proofs.GapLaws.{gaps-same, gaps-up}

-- an area lies in its range, footprints too
pub record Ranged (R : Rules) (s z : ℕ) : Type 0 where
  pub r-inside : (a : ℕ) → R.inside a ≡ true → (s ≤ a) × (a < s + z)
  pub r-foot : (b l : ℕ) → R.fits b l ≡ true → R.aligned b ≡ true → (s ≤ R.low b l) × (R.high b l ≤ s + z)

-- areas whose ranges share no byte are separate
pub ranges-separate : (A B : Rules) (s z t y : ℕ) → Ranged A s z → Ranged B t y → (s < t + y → t < s + z → ⊥) → Separate A B
ranges-separate A B s z t y Ra RB n =
    record {
      no_share_lem = λ a i j. let h = Ra.r-inside a i in let k = RB.r-inside a j in n (omega arith) (omega arith);
      no_meet = λ b l b' l' p p' f al f' al' u v.
          let h = Ra.r-foot b l f al in let k = RB.r-foot b' l' f' al' in n (omega (arith, h, k, u, v)) (omega (arith, h, k, u, v));
    }

-- two areas that are separate from a third are so together
pub separate-join : (A B C : Rules) → Separate A C → Separate B C → Separate (join_rules A B) C
separate-join A B C p q =
    record {
      no_share_lem = λ a i j. share a (test (A.inside a)) i j;
      no_meet = λ b l b' l' n n' f al f' al' u v. meet b l b' l' (test (A.inside b)) n n' f al f' al' u v;
    }
  where
    share : (a : ℕ) → Test (A.inside a) → (join_rules A B).inside a ≡ true → C.inside a ≡ true → ⊥
    share a (is_true t) i j = p.no_share_lem a t j
    share a (is_false t) i j = q.no_share_lem a (rw t at i) j

    meet : (b l b' l' : ℕ) → Test (A.inside b) → 1 ≤ l → 1 ≤ l' → (join_rules A B).fits b l ≡ true → (join_rules A B).aligned b ≡ true → C.fits b' l' ≡ true → C.aligned b' ≡ true
        → (join_rules A B).low b l < C.high b' l' → C.low b' l' < (join_rules A B).high b l → ⊥
    meet b l b' l' (is_true t) n n' f al f' al' u v = p.no_meet b l b' l' n n' (rw t at f) (rw t at al) f' al' (rw t at u) (rw t at v)
    meet b l b' l' (is_false t) n n' f al f' al' u v = q.no_meet b l b' l' n n' (rw t at f) (rw t at al) f' al' (rw t at u) (rw t at v)

-- ---- what both kinds of area share

within-down : (s z a : ℕ) → within s z a ≡ true → (s ≤ a) × (within 0 z (a - s) ≡ true)
within-down s z a e = let h = within-true s z a e in (h.0, true-within 0 z (a - s) (omega arith) (omega arith))

-- the block fits an area that keeps its first g bytes free
pub record Span (s z g b l : ℕ) : Type 0 where
  pub from : s + g ≤ b
  pub to : b + l ≤ s + z
  pub begins : b < s + z

module _ (s z g b l : ℕ) where
  span-inside : Span s z g b l → (a : ℕ) → b ≤ a → a < b + l → within s z a ≡ true
  span-inside h a x y = true-within s z a (omega arith) (omega arith)

  span-down : Span s z g b l → (s ≤ b) × Span 0 z g (b - s) l
  span-down h = (omega arith, record { from = omega arith; to = omega arith; begins = omega arith })

  span-up : Span 0 z g b l → Span s z g (s + b) l
  span-up h = record { from = omega arith; to = omega arith; begins = omega arith }

-- ---- the stack

pub stack-span : (s z b l : ℕ) → (stack_rules s z).fits b l ≡ true → Span s z 0 b l
stack-span s z b l e =
    let t = and-true (leb (b + l) (s + z)) (within s z b) e in
    let h = within-true s z b t.1 in
    record { from = omega arith; to = leb-true (b + l) (s + z) t.0; begins = h.1 }

pub span-stack : (s z b l : ℕ) → Span s z 0 b l → (stack_rules s z).fits b l ≡ true
span-stack s z b l h = rw (le-leb (b + l) (s + z) h.to) (true-within s z b (omega arith) h.begins)

pub stack-sound : (s z : ℕ) → Sound (stack_rules s z)
stack-sound s z =
    record {
      low_base = λ b l f. omega arith;
      high_end = λ b l. omega arith;
      in_inside = λ b l a f x y. span-inside s z 0 b l (stack-span s z b l f) a x y;
      in_top = λ a i. (within-true s z a i).1;
    }

-- a stack's addresses are the positions of a stack that starts at 0
pub stack-shifted : (s z : ℕ) → Shifted s (stack_rules s z) (stack_rules 0 z)
stack-shifted s z =
    record {
      s_inside = λ a i. within-down s z a i;
      s_fits = λ b l f. let h = span-down s z 0 b l (stack-span s z b l f) in (h.0, span-stack 0 z (b - s) l h.1);
      s_aligned = λ b l f al. refl;
      s_low = λ b l f. let h = stack-span s z b l f in omega arith;
      s_high = λ b l f. let h = stack-span s z b l f in omega arith;
      s_heap = λ a. refl;
      s_gaps = λ bs Q. refl;
    }

pub stack-unshifted : (s z : ℕ) → Unshifted s (stack_rules s z) (stack_rules 0 z)
stack-unshifted s z =
    record {
      u-fits = λ p l f. span-stack s z (s + p) l (span-up s z 0 p l (stack-span 0 z p l f));
      u-aligned = λ p l f al. refl;
    }

pub stack-ranged : (s z : ℕ) → Ranged (stack_rules s z) s z
stack-ranged s z =
    record {
      r-inside = within-true s z;
      r-foot = λ b l f al. let h = stack-span s z b l f in (omega arith, h.to);
    }

-- ---- heaps of segments of G bytes

-- the segments of n bytes hold them, with less than a segment to spare
pub segments-up : (G : ℕ) → 0 < G → (n : ℕ) → n ≤ segments G n * G
unfolding segments
segments-up G g n = omega (arith, div-add-mod' (n + (G - 1)) G, mod-lt (n + (G - 1)) g)

pub segments-down : (G n : ℕ) → segments G n * G ≤ n + (G - 1)
unfolding segments
segments-down G n = omega (arith, div-add-mod' (n + (G - 1)) G)

-- a start that is a multiple of G changes no remainder
pub start-mod : (G s k : ℕ) → s % G ≡ 0 → (s + k) % G ≡ k % G
start-mod G s k e = sym (mod-add-mod s G k) ∙ rw (e, zero-add k)

pub heap-span : (G s z b l : ℕ) → (heap_rules G s z).fits b l ≡ true → Span s z G b l
heap-span G s z b l e =
    let t = and-true (leb (s + G) b && leb (b + l) (s + z)) (within s z b) e in
    let u = and-true (leb (s + G) b) (leb (b + l) (s + z)) t.0 in
    record { from = leb-true (s + G) b u.0; to = leb-true (b + l) (s + z) u.1; begins = (within-true s z b t.1).1 }

pub span-heap : (G s z b l : ℕ) → Span s z G b l → (heap_rules G s z).fits b l ≡ true
span-heap G s z b l h = rw (le-leb (s + G) b h.from, le-leb (b + l) (s + z) h.to) (true-within s z b (omega arith) h.begins)

-- a proper block of a heap is no literal
pub heap-plain : (G s z : ℕ) (b : Block) → Proper (heap_rules G s z) b → b.literal ≡ false
heap-plain G s z b h = false_of b.literal (λ t. not-both true refl (h t).0)

pub heap-sound : (G : ℕ) → 0 < G → (s z : ℕ) → Sound (heap_rules G s z)
heap-sound G g s z =
    record {
      low_base = λ b l f. omega arith;
      high_end = λ b l. omega (arith, segments-up G g l);
      in_inside = λ b l a f x y. span-inside s z G b l (heap-span G s z b l f) a x y;
      in_top = λ a i. (within-true s z a i).1;
    }

module _ (G s z : ℕ) where
  -- a segment that a block's place holds a byte of, by addresses and by positions
  takes-down : (i : ℕ) (b : Block) → (heap_rules G s z).fits b.base (len b) ≡ true → takes G (s + i * G) b ≡ takes G (0 + i * G) (down s b)
  unfolding takes
  takes-down i b f =
      let h = heap-span G s z b.base (len b) f in
      rw (
        less-down s (b.base - G) (s + i * G + G) (b.base - s - G) (0 + i * G + G) (omega arith) (omega arith),
        less-down s (s + i * G) (b.base + segments G (len b) * G) (0 + i * G) (b.base - s + segments G (len b) * G) (omega arith) (omega arith),
      )

  takes-any : (i : ℕ) (bs : List Block) (from : ℕ) → Placed (heap_rules G s z) from bs
      → any (takes G (s + i * G)) bs ≡ any (takes G (0 + i * G)) (downs s bs)
  unfolding find
  takes-any i [] from Q = refl
  takes-any i (c ∷ cs) from Q =
      rw (takes-down i c Q.fits) (go (takes G (0 + i * G) (down s c)) (takes-any i cs ((heap_rules G s z).high c.base (len c)) Q.later))
    where
      go : (t : Bool) → any (takes G (s + i * G)) cs ≡ any (takes G (0 + i * G)) (downs s cs)
          → found (cond t (some c) (find (takes G (s + i * G)) cs)) ≡ found (cond t (some (down s c)) (find (takes G (0 + i * G)) (downs s cs)))
      go true e = refl
      go false e = e

module _ (G s z : ℕ) (es : s % G ≡ 0) where
  -- a heap's addresses are the positions of a heap that starts at 0
  pub heap-shifted : Shifted s (heap_rules G s z) (heap_rules G 0 z)
  heap-shifted =
      record {
        s_inside = λ a i. within-down s z a i;
        s_fits = λ b l f. let h = span-down s z G b l (heap-span G s z b l f) in (h.0, span-heap G 0 z (b - s) l h.1);
        s_aligned = λ b l f al.
            let h = heap-span G s z b l f in
            let e : s + (b - s) ≡ b = omega arith in
            eq-eqb ((b - s) % G) 0 (sym (start-mod G s (b - s) es) ∙ ap (λ (x : ℕ). x % G) e ∙ eqb-true (b % G) 0 al);
        s_low = λ b l f. let h = heap-span G s z b l f in omega arith;
        s_high = λ b l f. let h = heap-span G s z b l f in omega arith;
        s_heap = λ a. refl;
        s_gaps = λ bs Q.
            gaps-same G s _ _ (z / G) 0 0 (λ i x y. ap not (takes-any G s z i bs 0 Q))
            ∙ sym (gaps-up G s (λ i. not (any (takes G (0 + i * G)) (downs s bs))) (z / G) 0 0);
      }

  pub heap-unshifted : Unshifted s (heap_rules G s z) (heap_rules G 0 z)
  heap-unshifted =
      record {
        u-fits = λ p l f. span-heap G s z (s + p) l (span-up s z G p l (heap-span G 0 z p l f));
        u-aligned = λ p l f al. eq-eqb ((s + p) % G) 0 (start-mod G s p es ∙ eqb-true (p % G) 0 al);
      }

module _ (G : ℕ) (g : 0 < G) (s z : ℕ) (es : s % G ≡ 0) (ez : z % G ≡ 0) where
  even : (x : ℕ) → x % G ≡ 0 → x / G * G ≡ x
  even x h = omega (arith, div-add-mod' x G)

  -- the segments of a block that fits end in the area
  foot : (b l : ℕ) → b % G ≡ 0 → b + l ≤ s + z → b + segments G l * G ≤ s + z
  foot b l eb h =
      let i : ℕ = b / G in
      let k : ℕ = segments G l in
      let e : ℕ = (s + z) / G in
      let ee : e * G ≡ s + z = even (s + z) (start-mod G s z es ∙ ez) in
      let u : i + k < e + 1 = lt_of_mul-lt-mul_right G {m = i + k} {n = e + 1} (omega (arith, even b eb, ee, segments-down G l)) in
      omega (arith, even b eb, ee, mul-le-mul_right {m = i + k} {n = e} G (omega arith))

  pub heap-ranged : Ranged (heap_rules G s z) s z
  heap-ranged =
      record {
        r-inside = within-true s z;
        r-foot = λ b l f al. let h = heap-span G s z b l f in (omega arith, foot b l (eqb-true (b % G) 0 al) h.to);
      }

-- How a literal begins, proved: see `LiteralAnswers` and `LiteralBytes` of specs/Literals.antt. Assumes nothing.
use mathlib.Core.Path.{◌≡◌, refl, sym, ap, ◌∙◌}
use mathlib.Core.Bool.{true, false, cond, true≢false}
use mathlib.Core.List.{[], ◌∷◌}
use mathlib.Core.Option.{some}
use Prim.Native.Nat.{ℕ, zero, suc, ◌+◌, ◌-◌, ◌≤◌, ◌<◌}
use native.Mathlib.Omega.{arith}
use lib.ListN.{length-replicate, get_or-replicate}
use Rattle.number.specs.Parts.{at, in_part}
use Rattle.number.proofs.TestLaws.{Test, is_true, is_false, test, false_of, in-facts}
use Rattle.map.specs.FormMap.{FormMap}
use Rattle.types.specs.declared.Beginning.{Beginning}
use Rattle.types.specs.declared.Beginning.TheVariants.{Written, Literal}
use Rattle.plain.specs.Block.{len, starts_written, begun}
use Rattle.plain.specs.Blocks.{here}
use Rattle.plain.specs.Rules.{Placed}
use Rattle.plain.specs.Areas.{map_rules}
use Rattle.plain.specs.Call.{begin, record_written, record_literal, number, done, first_of, unless}
use Rattle.plain.proofs.KeptLaws.{base-inside}
use Rattle.stack_layout.specs.Code.{low_bits, primary_of}
use Rattle.stack_layout.specs.Image.{primary_own, secondary_own}
use Rattle.shadows.specs.Shadows.{Shadows, image, Place, heap, primary, secondary, byte_at}
use Rattle.shadows.proofs.ShadowLaws.{map-sound}
use Rattle.shadows.proofs.OwnLaws.{primary-own, secondary-own}
use Rattle.monitor_base.specs.Calls.{refusals, call}
use Rattle.demands.specs.Addresses.{in_heap, in_stack}
use Rattle.demands.specs.Demand1.{number_of}
use Rattle.demands.specs.Alters.{in_place}
use Rattle.demands.specs.Literals.{LiteralAnswers, two_at, LiteralBytes}
use Rattle.demands.proofs.Begun as begun
use Rattle.demands.proofs.Alters.{record-stamps}

-- ---- kind 14

-- at a base outside the heap the refusals do not ask whether the block is a literal
literal-refusals : (m : FormMap) (b l : ℕ) (s : Shadows) → in_heap m b ≡ false → first_of (refusals m (record_literal b l) s) ≡ first_of (refusals m (record_written b l) s)
literal-refusals m b l s h = rw h

pub literal_answers : (m : FormMap) → LiteralAnswers m
unfolding call
literal_answers m b l s h = rw (literal-refusals m b l s h) (go (first_of (refusals m (record_written b l) s)) _ _)
  where
    go : (k : ℕ) (t u : Shadows) → (unless k s (t, done)).1 ≡ (unless k s (u, done)).1
    go zero t u = refl
    go (suc k) t u = refl

module _ (m : FormMap) (b l : ℕ) (s : Shadows) (e : number_of m (record_literal b l) s ≡ 0) where
  A : begun.Accepted m Literal b l s e
  A = begun.accepted m Literal b l s e

  h : in_heap m b ≡ false
  h = false_of (in_heap m b) (λ x. let z = (A.proper refl).0 in true≢false (rw x at z))

  e' : number_of m (record_written b l) s ≡ 0
  e' = ap number (sym (literal_answers m b l s h)) ∙ e

  i : in_stack m b ≡ true
  i = rw h at (base-inside (map_rules m) (map-sound m A.good) b l A.some A.fits)

  -- the block alone, as it begins
  alone : (w : Beginning) (k : number_of m (begin w b l) s ≡ 0) → Placed (map_rules m) 0 (begun w b l ∷ [])
  alone w k =
      let t = begun.stands m w b l s k in
      record { some = t.some; fits = t.fits; aligned = t.aligned; proper = t.proper; room = omega arith; later = tt }

  module _ (q : ℕ) (x : b - m.stack_start ≤ q) (y : q < b - m.stack_start + l) where
    up : (w : Beginning) → q < b - m.stack_start + len (begun w b l)
    up w = omega (arith, length-replicate l (starts_written w))

    marked-two : at (image m (begun Literal b l ∷ [])).1.0 q ≡ at (image m (begun Written b l ∷ [])).1.0 q + 2
    unfolding primary_own primary_of low_bits
    marked-two =
        rw (
          primary-own m A.good (begun Literal b l ∷ []) (alone Literal e) (begun Literal b l) here i q x (up Literal),
          primary-own m A.good (begun Written b l ∷ []) (alone Written e') (begun Written b l) here i q x (up Written),
          get_or-replicate l (q - (b - m.stack_start)) true false (omega arith),
        )
        (omega arith)

    same_second : at (image m (begun Literal b l ∷ [])).1.1 q ≡ at (image m (begun Written b l ∷ [])).1.1 q
    unfolding secondary_own
    same_second =
        secondary-own m A.good (begun Literal b l ∷ []) (alone Literal e) (begun Literal b l) here i q x (up Literal)
        ∙ sym (secondary-own m A.good (begun Written b l ∷ []) (alone Written e') (begun Written b l) here i q x (up Written))

  bytes : (q : Place)
      → cond (in_place m b l q) (byte_at (image m (begun Literal b l ∷ [])) q) (byte_at s q)
      ≡ cond (in_place m b l q) (byte_at (image m (begun Written b l ∷ [])) q) (byte_at s q) + two_at m b l q
  bytes (heap q) = rw h (omega arith)
  bytes (primary q) = rw h (go (test (in_part (b - m.stack_start) l q)))
    where
      go : Test (in_part (b - m.stack_start) l q)
          → cond (in_part (b - m.stack_start) l q) (byte_at (image m (begun Literal b l ∷ [])) (primary q)) (byte_at s (primary q))
          ≡ cond (in_part (b - m.stack_start) l q) (byte_at (image m (begun Written b l ∷ [])) (primary q)) (byte_at s (primary q))
          + cond (in_part (b - m.stack_start) l q) 2 0
      go (is_true t) = let p = in-facts (b - m.stack_start) (b - m.stack_start + l) q t in rw t (marked-two q p.0 p.1)
      go (is_false t) = rw t (omega arith)
  bytes (secondary q) = rw h (go (test (in_part (b - m.stack_start) l q)))
    where
      go : Test (in_part (b - m.stack_start) l q)
          → cond (in_part (b - m.stack_start) l q) (byte_at (image m (begun Literal b l ∷ [])) (secondary q)) (byte_at s (secondary q))
          ≡ cond (in_part (b - m.stack_start) l q) (byte_at (image m (begun Written b l ∷ [])) (secondary q)) (byte_at s (secondary q)) + 0
      go (is_true t) =
          let p = in-facts (b - m.stack_start) (b - m.stack_start + l) q t in rw t (omega (arith, same_second q p.0 p.1))
      go (is_false t) = rw t (omega arith)

pub literal_bytes : (m : FormMap) → LiteralBytes m
literal_bytes m b l s e q =
    rw (record-stamps m Literal b l s e q, record-stamps m Written b l s (e' m b l s e) q) (bytes m b l s e q)

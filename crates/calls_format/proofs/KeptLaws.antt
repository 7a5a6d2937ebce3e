-- The first bytes of a buffer as a shadow: what a call on them leaves, and what an accepted map leaves. Assumes nothing.
use mathlib.Core.Path.{◌≡◌, refl, sym, ap, ◌∙◌}
use mathlib.Core.Bool.{true}
use mathlib.Core.List.{List, ◌++◌, append-nil}
use Prim.Native.Nat.{ℕ, ◌≤◌, min}
use native.Mathlib.Omega.{arith}
use lib.ListN.{length, take, drop, drop_of_length-le}
use lib.Dec.{leb, ltb}
use lib.Seq.{take_all, take_at, length-take-le}
use borrow.Author.Tests.{leb-true, leb-false, ltb-false}
use Rattle.number.proofs.TestLaws.{Test, is_true, is_false, test, or-false}
use Rattle.map.specs.declared.Map.{Map}
use Rattle.map.specs.FormMap.{player}
use Rattle.plain.specs.Call.{Call, Answer, done, clear}
use Rattle.plain.specs.ShadowCalls.{shadow_step}
use Rattle.shadows.specs.Shadows.{zero_shadows, lengths_fit}
use Rattle.shadows.proofs.ShadowLaws.{true-fit}
use Rattle.monitor_base.specs.Calls as monitor
use Rattle.monitor_base.proofs.CallLaws.{call_step}
use Rattle.calls_format.specs.Kept.{parts}
use Rattle.calls_format.specs.Running.{map_number, above_sizes}
use Rattle.calls_format.proofs.ServeLaws.{accepted-good}

-- ---- a call

-- taking no more than there is
pub take_min : (xs : List ℕ) (size n : ℕ) → n ≡ min size (length xs) → take n xs ≡ take size xs
take_min xs size n e = go (test (leb size (length xs)))
  where
    go : Test (leb size (length xs)) → take n xs ≡ take size xs
    go (is_true t) = let same : n ≡ size = omega (arith, e, leb-true size (length xs) t) in ap (λ k. take k xs) same
    go (is_false t) =
        let h = leb-false size (length xs) t in
        take_all n xs (omega (arith, e, h)) ∙ sym (take_all size xs (omega (arith, h)))

-- a part that took the place of the first bytes
pub part-back : (xs last : List ℕ) (size n : ℕ) → n ≡ min size (length xs) → length last ≡ length (take n xs) → take size (last ++ drop n xs) ≡ last
part-back xs last size n e l = go (test (leb size (length xs)))
  where
    long : length last ≡ n
    long = l ∙ length-take-le n xs (omega (arith, e))

    go : Test (leb size (length xs)) → take size (last ++ drop n xs) ≡ last
    go (is_true t) = take_at last (drop n xs) size (omega (arith, e, long, leb-true size (length xs) t))
    go (is_false t) =
        let h = leb-false size (length xs) t in
        ap (λ r. take size (last ++ r)) (drop_of_length-le xs {i = n} (omega (arith, e, h))) ∙ ap (take size) (append-nil last)
        ∙ take_all size last (omega (arith, e, long, h))

-- a call on parts of the buffers is a call on the shadows
pub on-parts : (m : Map) (c : Call) (r : Answer) (h p s h' p' s' : List ℕ) (i j k : ℕ)
    → i ≡ min m.heap_size (length h) → j ≡ min m.stack_size (length p) → k ≡ min m.stack_size (length s)
    → length h' ≡ length (take i h) → length p' ≡ length (take j p) → length s' ≡ length (take k s)
    → ((h', (p', s')), r) ≡ monitor.call (player m) c (take i h, (take j p, take k s))
    → (parts m (h' ++ drop i h) (p' ++ drop j p) (s' ++ drop k s), r) ≡ monitor.call (player m) c (parts m h p s)
on-parts m c r h p s h' p' s' i j k ei ej ek lh lp ls e =
    rw (part-back h h' m.heap_size i ei lh, part-back p p' m.stack_size j ej lp, part-back s s' m.stack_size k ek ls)
    (e ∙ rw (take_min h m.heap_size i ei, take_min p m.stack_size j ej, take_min s m.stack_size k ek) refl)

-- ---- an accepted map

-- it is within the program's sizes
pub sizes : (m : Map) → map_number m ≡ 0 → (m.heap_size ≤ 32768) × (m.stack_size ≤ 16384)
sizes m e = go (test (above_sizes m))
  where
    go : Test (above_sizes m) → (m.heap_size ≤ 32768) × (m.stack_size ≤ 16384)
    go (is_false t) = let f = or-false (ltb 32768 m.heap_size) (ltb 16384 m.stack_size) t in (ltb-false 32768 m.heap_size f.0, ltb-false 16384 m.stack_size f.1)
    go (is_true t) = absurd (omega (arith, rw (accepted-good m e, t) at e))

module _ (m : Map) (h p s : List ℕ) (z : map_number m ≡ 0) (lh : 32768 ≤ length h) (lp : 16384 ≤ length p) (ls : 16384 ≤ length s) where
  -- the buffers have shadows of its lengths
  pub parts-fit : lengths_fit (player m) (parts m h p s) ≡ true
  parts-fit =
      true-fit (player m) (parts m h p s) (
        length-take-le m.heap_size h (omega (arith, (sizes m z).0, lh)),
        (
          length-take-le m.stack_size p (omega (arith, (sizes m z).1, lp)),
          length-take-le m.stack_size s (omega (arith, (sizes m z).1, ls)),
        ),
      )

  -- under it clear leaves zeros
  pub parts-cleared : monitor.call (player m) clear (parts m h p s) ≡ (zero_shadows (player m), done)
  unfolding shadow_step
  parts-cleared = call_step (player m) clear (parts m h p s) (accepted-good m z) parts-fit

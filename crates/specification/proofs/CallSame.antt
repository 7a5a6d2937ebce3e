-- Under a good map the calls are the ones that the library is proved against, for every argument and shadow. Assumes nothing.
use mathlib.Core.Path.{◌≡◌, refl}
use mathlib.Core.Bool.{Bool, true, false, cond, not}
use Prim.Native.Nat.{ℕ, zero, suc, ◌-◌}
use native.Mathlib.Omega.{arith}
use borrow.Author.Tests.{ne_eqb}
use Rattle.number.proofs.TestLaws.{Test, is_true, is_false, test, in-facts}
use Rattle.map.specs.declared.Map.{Map}
use Rattle.map.specs.declared.Form as kind
use Rattle.map.specs.FormMap.{under, segment_size}
use Rattle.plain.specs.Areas as areas
use Rattle.plain.specs.Areas.{map_rules}
use Rattle.plain.specs.Call as plain
use Rattle.plain.specs.Ops.{read_any, mark_range, range_marked}
use Rattle.plain.specs.ShadowCalls as shadow
use Rattle.heap_layout.specs.Ops.{heap_erase, heap_mark, heap_marked}
use Rattle.stack_layout.specs.Ops.{stack_erase, stack_mark, stack_marked}
use Rattle.map.specs.Map.{good_map}
use Rattle.shadows.specs.Shadows.{lengths_fit, shadow_ops}
use Rattle.monitor_base.specs.Calls as base
use Rattle.specification.specs.Map.{Shadows, stack_end, in_heap, in_stack, end_of_areas}
use Rattle.specification.specs.Form.{Form}
use Rattle.specification.specs.Readings.{reading}
use Rattle.specification.specs.Footprint.{place_length}
use Rattle.specification.specs.Calls.{ask, valid, climb, next, clear, free, remove, written, mark_one, mark_all, initialised, is_marked, all_marked}
use Rattle.specification.proofs.Forms.{form}
use Rattle.specification.proofs.MapSame.{good-same, lengths-same, not_heap, stack_same}
use Rattle.specification.proofs.FormSame.{read_same, bits-same, bit-same}
use Rattle.specification.proofs.StackSame as stack

-- where a call is refused it does not matter what it would have done
refused : (f : kind.Form) (m : Map) (s : Shadows) (k : ℕ) (x y : Shadows × plain.Answer)
    → plain.unless (cond (not (good_map (under f m))) 1 (cond (not (lengths_fit (under f m) s)) 2 (suc k))) s x
    ≡ plain.unless (cond (not (good_map (under f m))) 1 (cond (not (lengths_fit (under f m) s)) 2 (suc k))) s y
refused f m s k x y = go (not (good_map (under f m))) (not (lengths_fit (under f m) s))
  where
    go : (t u : Bool) → plain.unless (cond t 1 (cond u 2 (suc k))) s x ≡ plain.unless (cond t 1 (cond u 2 (suc k))) s y
    go true u = refl
    go false true = refl
    go false false = refl

-- ---- written bits

module _ (f : kind.Form) (m : Map) where
  abbrev F : Form
  F = form f

  mark-same : (s : Shadows) (a : ℕ) → mark_one F m s a ≡ (shadow_ops (under f m)).mark s a
  unfolding mark_one heap_mark stack_mark
  mark-same s a = go (test (in_heap m a))
    where
      go : Test (in_heap m a) → mark_one F m s a ≡ (shadow_ops (under f m)).mark s a
      go (is_true h) = rw (h, bits-same m f a h, bit-same m f a h)
      go (is_false h) = rw h

  marks-same : (s : Shadows) (a n : ℕ) → mark_all F m s a n ≡ mark_range (shadow_ops (under f m)) s a n
  unfolding mark_all mark_range
  marks-same s a zero = refl
  marks-same s a (suc n) = rw (mark-same s a) (marks-same ((shadow_ops (under f m)).mark s a) (suc a) n)

  marked-same : (s : Shadows) (a : ℕ) → is_marked F m s a ≡ (shadow_ops (under f m)).marked s a
  unfolding heap_marked stack_marked
  marked-same s a = go (test (in_heap m a))
    where
      go : Test (in_heap m a) → is_marked F m s a ≡ (shadow_ops (under f m)).marked s a
      go (is_true h) = rw (h, bits-same m f a h, bit-same m f a h)
      go (is_false h) = rw h

  all_same : (s : Shadows) (a n : ℕ) → all_marked F m s a n ≡ range_marked (shadow_ops (under f m)) s a n
  unfolding all_marked range_marked
  all_same s a zero = refl
  all_same s a (suc n) = rw (marked-same s a, all_same s (suc a) n)

-- ---- the calls

module _ (f : kind.Form) (m : Map) (s : Shadows) (good : good_map (under f m) ≡ true) where
  abbrev P : Form
  P = form f

  pub reading-same : (a : ℕ) → reading P m s a ≡ read_any (map_rules (under f m)) (shadow_ops (under f m)) s a
  unfolding reading read_any
  reading-same a = go (test (in_heap m a)) (test (in_stack m a))
    where
      go : Test (in_heap m a) → Test (in_stack m a) → reading P m s a ≡ read_any (map_rules (under f m)) (shadow_ops (under f m)) s a
      go (is_true h) k = rw h (read_same m f s.0 a good h)
      go (is_false h) (is_true k) = rw (h, k) (stack.stack_same m s.1.0 s.1.1 a (in-facts m.stack_start (stack_end m) a k).0)
      go (is_false h) (is_false k) = rw (h, k)

  pub ask-same : (a : ℕ) → ask P m a s ≡ base.call (under f m) (plain.ask a) s
  unfolding ask base.call
  ask-same a = rw (good-same f m, lengths-same f m s, reading-same a)

  pub valid_same : (w : Bool) (a n from : ℕ) → valid P m w a n from s ≡ base.call (under f m) (plain.valid w a n from) s
  unfolding valid base.call
  valid_same w a n from = rw (good-same f m, lengths-same f m s, reading-same a, reading-same from)

  climb-same : (a n : ℕ) → climb (reading P m s) a n ≡ shadow.climb (read_any (map_rules (under f m)) (shadow_ops (under f m)) s) a n
  unfolding climb shadow.climb
  climb-same a zero = refl
  climb-same a (suc n) = rw (reading-same a, climb-same (suc a) n)

  pub next-same : (a : ℕ) → next P m a s ≡ base.call (under f m) (plain.next a) s
  unfolding next base.call
  next-same a = rw (good-same f m, lengths-same f m s, climb-same a (end_of_areas m - a))

  pub clear-same : clear P m s ≡ base.call (under f m) plain.clear s
  unfolding clear base.call
  clear-same = rw (good-same f m, lengths-same f m s)

  place_same : (l : ℕ) → place_length P l ≡ areas.place_length (segment_size f) l
  unfolding areas.place_length areas.segments
  place_same l = refl

  pub free-same : (x : ℕ) → free P m x s ≡ base.call (under f m) (plain.free x) s
  unfolding free base.call heap_erase
  free-same zero = rw (good-same f m, lengths-same f m s)
  free-same (suc x) = go (test (in_heap m (suc x))) (test (in_stack m (suc x)))
    where
      go : Test (in_heap m (suc x)) → Test (in_stack m (suc x)) → free P m (suc x) s ≡ base.call (under f m) (plain.free (suc x)) s
      go (is_true h) k =
          let e : suc x - segment_size f - m.heap_start ≡ suc x - m.heap_start - segment_size f = omega arith in
          rw (
            good-same f m,
            lengths-same f m s,
            reading-same (suc x),
            ne_eqb (suc x) 0 (λ z. omega arith),
            ← stack_same f m (suc x) good,
            h,
            e,
            place_same (shadow.length_of (read_any (map_rules (under f m)) (shadow_ops (under f m)) s (suc x))),
          )
      go (is_false h) (is_true k) =
          rw (good-same f m, lengths-same f m s, ne_eqb (suc x) 0 (λ z. omega arith), h, k) (refused f m s 14 _ _)
      go (is_false h) (is_false k) =
          rw (good-same f m, lengths-same f m s, ne_eqb (suc x) 0 (λ z. omega arith), h, k) (refused f m s 3 _ _)

  pub remove-same : (x : ℕ) → remove P m x s ≡ base.call (under f m) (plain.remove x) s
  unfolding remove base.call stack_erase
  remove-same x = go (test (in_stack m x))
    where
      go : Test (in_stack m x) → remove P m x s ≡ base.call (under f m) (plain.remove x) s
      go (is_true k) = rw (good-same f m, lengths-same f m s, reading-same x, k, not_heap f m x good k)
      go (is_false k) =
          rw (good-same f m, lengths-same f m s, ← stack_same f m x good, k) (refused f m s 3 _ _)

  pub written_same : (a n : ℕ) → written P m a n s ≡ base.call (under f m) (plain.written a n) s
  unfolding written base.call
  written_same a n = rw (good-same f m, lengths-same f m s, reading-same a, marks-same f m s a n)

  pub initialised-same : (a n : ℕ) → initialised P m a n s ≡ base.call (under f m) (plain.initialised a n) s
  unfolding initialised base.call
  initialised-same a n = rw (good-same f m, lengths-same f m s, reading-same a, all_same f m s a n)

-- Kinds 11 to 13 of the form with origins, its counter and its bytes: see specification_origins, Votes.antt. Assumes nothing.
use mathlib.Core.Path.{◌≡◌, refl}
use mathlib.Core.Bool.{Bool, true, false, cond, ◌&&◌}
use mathlib.Core.List.{List}
use Prim.Native.Nat.{ℕ, zero, suc, ◌+◌, ◌-◌, ◌/◌, ◌<◌, ◌*◌}
use native.Mathlib.Omega.{arith}
use lib.Dec.{eqb}
use lib.ListN.{length}
use borrow.Author.Tests.{eqb-true, eqb-false}
use Rattle.number.specs.Little.{Bytes, byte_of}
use Rattle.number.specs.Parts.{at, tab}
use Rattle.number.specs.Bits.{bit}
use Rattle.number.proofs.LittleLaws.{byte_of-lt, bytes-tab}
use Rattle.number.proofs.TestLaws.{Test, is_true, is_false, test, cond_both, and_false_r}
use Rattle.map.specs.FormMap as library
use Rattle.types.specs.Map.{Map}
use Rattle.types.specs.Call as plains
use Rattle.types.specs.Call.{clear, begin, free, remove, written, ask, valid, initialised, next, audit, place, Answer, number, unless}
use Rattle.types.specs.Origins.{Call, plain, point, copy, live}
use Rattle.specification.specs.Map.{Shadows, in_heap}
use Rattle.specification.specs.Heap.{player}
use Rattle.specification.specs.Call as Plain-Form
use Rattle.specification.specs.Votes.{AllBytes}
use Rattle.specification.proofs.Same.{player-call}
use Rattle.specification_origins.specs.Cells.{Cells, heap_cells, stack_cells, cell_at, change, store, without_cells, start_of, touches}
use Rattle.specification_origins.specs.Origins.{Lent, does, records, ends, clears, leaves, Does, cells_after, call}
use Rattle.specification_origins.specs.Votes.{number_of, is_recording, FirstVote, PointerVote}
use Rattle.promises.proofs.BytesKept as plain-bytes
use Rattle.promises.proofs.BytesKept.{byte_at, over-bytes, zero-bytes}

-- ---- numbers

refused-by : {X : Type 0} (k : ℕ) (x y : X) (r : Answer) → number r ≡ 0 → number (unless k x (y, r)).1 ≡ k
refused-by zero x y r e = e
refused-by (suc k) x y r e = refl

-- a call that is accepted leaves what it does
taken : {X : Type 0} (k : ℕ) (x y : X) (r : Answer) → number (unless k x (y, r)).1 ≡ 0 → (unless k x (y, r)).0 ≡ y
taken zero x y r e = refl
taken (suc k) x y r e = absurd (omega arith)

-- ---- the counter

and_right : (t : Bool) → (t && true) ≡ t
and_right true = refl
and_right false = refl

one_more : (n : ℕ) → suc n ≡ n + 1
one_more n = omega arith

no_more : (n : ℕ) → n ≡ n + 0
no_more n = omega arith

module _ (m : Map) (first : FirstVote m) where
  abbrev counts : Call → Lent → Type 0
  counts c x = (call m c x).0.counter ≡ x.counter + bit (is_recording c)

  -- of an accepted call
  taken-counter : (c : Call) (x : Lent) → number_of m c x ≡ 0 → counts c x
  unfolding call
  taken-counter (plain clear) x e = rw (taken _ x _ _ e) (no_more x.counter)
  taken-counter (plain (begin h b l)) x e = rw (taken _ x _ _ e) (one_more x.counter)
  taken-counter (plain (free zero)) x e = rw (taken _ x _ _ e) (no_more x.counter)
  taken-counter (plain (free (suc b))) x e = rw (taken _ x _ _ e) (no_more x.counter)
  taken-counter (plain (remove b)) x e = rw (taken _ x _ _ e) (no_more x.counter)
  taken-counter (plain (written a n)) x e = rw (taken _ x _ _ e) (no_more x.counter)
  taken-counter (plain (ask a)) x e = rw (taken _ x _ _ e) (no_more x.counter)
  taken-counter (plain (valid w a n o)) x e = rw (taken _ x _ _ e) (no_more x.counter)
  taken-counter (plain (initialised a n)) x e = rw (taken _ x _ _ e) (no_more x.counter)
  taken-counter (plain (next a)) x e = rw (taken _ x _ _ e) (no_more x.counter)
  taken-counter (plain audit) x e = rw (taken _ x _ _ e) (no_more x.counter)
  taken-counter (plain (place l k)) x e = rw (taken _ x _ _ e) (no_more x.counter)
  taken-counter (point c a) x e = rw (taken _ x _ _ e) (no_more x.counter)
  taken-counter (copy t f) x e = rw (taken _ x _ _ e) (no_more x.counter)
  taken-counter (live c a) x e = rw (taken _ x _ _ e) (no_more x.counter)

  pub counter_after_lem : (c : Call) (x : Lent) → (call m c x).0.counter ≡ x.counter + bit (is_recording c && eqb (number_of m c x) 0)
  counter_after_lem c x = go (test (eqb (number_of m c x) 0))
    where
      go : Test (eqb (number_of m c x) 0) → (call m c x).0.counter ≡ x.counter + bit (is_recording c && eqb (number_of m c x) 0)
      go (is_true e) = rw (e, and_right (is_recording c)) (taken-counter c x (eqb-true (number_of m c x) 0 e))
      go (is_false e) = rw (e, and_false_r (is_recording c), first.refused_alters_nothing c x (eqb-false (number_of m c x) 0 e)) (no_more x.counter)

-- ---- bytes

abbrev CellBytes : Cells → Type 0
CellBytes y = Bytes (heap_cells y) × Bytes (stack_cells y)

changed : (m : Map) (y : Cells) (a : ℕ) (new : List ℕ → List ℕ) → ((h : List ℕ) → Bytes h → Bytes (new h)) → CellBytes y → CellBytes (change m y a new)
changed m y a new k (h, s) = cond_both CellBytes (in_heap m a) (new (heap_cells y), stack_cells y) (heap_cells y, new (stack_cells y)) (k (heap_cells y) h, s) (h, k (stack_cells y) s)

-- a number is stored from position q on
stored : (m : Map) (y : Cells) (a q v : ℕ) → CellBytes y → CellBytes (change m y a (store q v))
stored m y a q v b = changed m y a (store q v) (λ h k. over-bytes q 4 (λ i. byte_of v (i - q)) h (λ i. byte_of-lt v (i - q)) k) b

emptied : (m : Map) (y : Cells) (base L : ℕ) → CellBytes y → CellBytes (without_cells m y base L)
unfolding without_cells
emptied m y base L b =
    let without : List ℕ → ℕ → ℕ = λ h q. cond (touches base L (start_of m base + 4 * (q / 8))) 0 (at h q) in
    changed m y base (λ h. tab 0 (length h) (without h))
    (λ h k. bytes-tab (without h)
    (λ q. cond_both (λ (v : ℕ). v < 256) (touches base L (start_of m base + 4 * (q / 8))) 0 (at h q) (omega arith) (byte_at h k q)) (length h) 0) b

plain_cells : (m : Map) (d : Does) (x : Lent) → CellBytes x.cells → CellBytes (cells_after m d x)
plain_cells m (records base L) x b = stored m x.cells base (cell_at m base) x.counter b
plain_cells m (ends base) x b = emptied m x.cells base _ b
plain_cells m clears x b = (zero-bytes (2 * m.heap_size), zero-bytes (2 * m.stack_size))
plain_cells m leaves x b = b

abbrev LentBytes : Lent → Type 0
LentBytes x = AllBytes x.shadows × CellBytes x.cells

module _ (m : Map) where
  shadows-kept : (c : plains.Call) (s : Shadows) → AllBytes s → AllBytes (Plain-Form.call player m c s).0
  shadows-kept c s b = rw (player-call m c s) (plain-bytes.bytes_kept (library.player m) c s b)

  taken-bytes : (c : Call) (x : Lent) → number_of m c x ≡ 0 → LentBytes x → LentBytes (call m c x).0
  unfolding call
  taken-bytes (plain c) x e b = rw (taken _ x _ _ e) (shadows-kept c x.shadows b.0, plain_cells m (does c) x b.1)
  taken-bytes (point c a) x e b = rw (taken _ x _ _ e) (b.0, stored m x.cells c (cell_at m c + 4) _ b.1)
  taken-bytes (copy t f) x e b = rw (taken _ x _ _ e) (b.0, stored m x.cells t (cell_at m t + 4) _ b.1)
  taken-bytes (live c a) x e b = rw (taken _ x _ _ e) b

  kept : FirstVote m → (c : Call) (x : Lent) → LentBytes x → LentBytes (call m c x).0
  kept first c x b = go (test (eqb (number_of m c x) 0))
    where
      go : Test (eqb (number_of m c x) 0) → LentBytes (call m c x).0
      go (is_true e) = taken-bytes c x (eqb-true (number_of m c x) 0 e) b
      go (is_false e) = rw (first.refused_alters_nothing c x (eqb-false (number_of m c x) 0 e)) b

  -- a part of the state that an accepted call leaves
  left : FirstVote m → {A : Type 0} (part : Lent → A) (c : Call) (x : Lent) → (number_of m c x ≡ 0 → part (call m c x).0 ≡ part x) → part (call m c x).0 ≡ part x
  left first part c x h = go (test (eqb (number_of m c x) 0))
    where
      go : Test (eqb (number_of m c x) 0) → part (call m c x).0 ≡ part x
      go (is_true e) = h (eqb-true (number_of m c x) 0 e)
      go (is_false e) = rw (first.refused_alters_nothing c x (eqb-false (number_of m c x) 0 e))

  pub pointer-vote : FirstVote m → PointerVote m
  unfolding call
  pointer-vote first =
      record {
        point_number_lem = λ c a x. refused-by _ x _ _ refl;
        copy_number_lem = λ t f x. refused-by _ x _ _ refl;
        live_number = λ c a x. refused-by _ x _ _ refl;
        point_leaves = λ c a x. left first (λ (y : Lent). y.shadows) (point c a) x (λ e. rw (taken _ x _ _ e));
        copy_leaves = λ t f x. left first (λ (y : Lent). y.shadows) (copy t f) x (λ e. rw (taken _ x _ _ e));
        live_leaves = λ c a x. left first (λ (y : Lent). y) (live c a) x (λ e. rw (taken _ x _ _ e));
        cells_left = λ c x d. left first (λ (y : Lent). y.cells) (plain c) x (λ e. rw (taken _ x _ _ e, d));
        counter_after_lem = counter_after_lem m first;
        bytes_kept = λ c x s h k. let b = kept first c x (s, (h, k)) in (b.0, b.1.0, b.1.1);
      }

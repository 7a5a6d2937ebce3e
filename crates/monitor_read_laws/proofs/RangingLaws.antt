-- The calls about n bytes, by readings in the areas that the bytes lie in. Assumes nothing.
use mathlib.Core.Path.{◌≡◌, refl, sym, ap, ◌∙◌}
use mathlib.Core.Bool.{Bool, true, false, ◌||◌}
use mathlib.Core.Logic.{◌≢◌}
use Prim.Native.Nat.{ℕ, ◌+◌, ◌-◌, ◌≤◌, ◌<◌}
use native.Mathlib.Omega.{arith}
use lib.ListN.{length}
use borrow.Author.Tests.{eq-eqb, ne_eqb}
use Rattle.number.specs.Parts.{at}
use Rattle.number.proofs.TestLaws.{Test, is_true, is_false, test, false_of}
use Rattle.map.specs.FormMap.{FormMap, areas}
use Rattle.map.specs.declared.Area.TheVariants.{Heap, Stack, Outside}
use Rattle.map.specs.Map.{good_map, within, area_of}
use Rattle.map.proofs.MapLaws.{Good, good-true, within-true, true-within}
use Rattle.plain.specs.Areas.{map_rules}
use Rattle.plain.specs.Call.{Answer, valid, initialised, refusal, yes_no}
use Rattle.plain.specs.Lift.{reading_up}
use Rattle.plain.specs.Ops.{read_any, range_marked}
use Rattle.plain.specs.Reading.{Reading, nothing, block, damaged}
use Rattle.plain.specs.ShadowCalls.{is_damaged, in_one, same_block, shadow_step}
use Rattle.plain.proofs.MarkedLaws.{range_same}
use Rattle.heap_layout.specs.Ops.{heap_marked, heap_ops}
use Rattle.heap_layout.specs.Reading.{heap_reading}
use Rattle.heap_layout.proofs.ReadingLaws as heap
use Rattle.stack_layout.specs.Ops.{stack_marked, stack_ops}
use Rattle.stack_layout.specs.Reading.{stack_reading}
use Rattle.stack_layout.proofs.ReadingLaws as stack
use Rattle.shadows.specs.Shadows.{Shadows, lengths_fit, shadow_ops}
use Rattle.monitor_base.specs.Calls.{call}
use Rattle.monitor_base.proofs.CallLaws.{call_step}
use Rattle.monitor_base.proofs.LocatingLaws.{area-heap, area-stack, heap-lengths, stack-lengths, read-heap, read-stack, read_out, heap-literal, heap-room, stack-room}
use Rattle.monitor_read_laws.specs.Asked.{valid_answer, apart_answer, initialised_answer}
use Rattle.monitor_read_laws.proofs.JudgingLaws.{up-damaged, up_one, valid-up, valid-any, valid-apart}

same_none : (r : Reading) → same_block r nothing ≡ false
same_none nothing = refl
same_none (block b l o w t) = refl
same_none damaged = refl

module _ (m : FormMap) (s : Shadows) (ok : good_map m ≡ true) (fit : lengths_fit m s ≡ true) where
  abbrev hs : ℕ
  hs = m.heap_start

  abbrev ss : ℕ
  ss = m.stack_start

  -- the reading of an address; of a position of the heap, of the stack
  abbrev rd : ℕ → Reading
  rd = read_any (map_rules m) (shadow_ops m) s

  abbrev H : ℕ → Reading
  H = heap_reading m.width m.segment (length s.0) (at s.0)

  abbrev K : ℕ → Reading
  K = stack_reading (length s.1.0) (at s.1.0) (at s.1.1)

  good : Good m
  good = good-true m ok

  -- ---- valid

  -- a block of the heap begins in the heap, one of the stack in the stack
  bases : (p q b l o w c k i v : ℕ) (t u : Bool) → H p ≡ block b l o w t → K q ≡ block c k i v u → hs + b ≢ ss + c
  bases p q b l o w c k i v t u e f h =
      let d = heap.reading-told m.width m.segment (length s.0) (at s.0) p b l o w t e in
      let g = stack.reading-told (length s.1.0) (at s.1.0) (at s.1.1) q c k i v u f in
      let x = (heap-lengths m s ok fit).0 in
      let y = (stack-lengths m s ok fit).0 in
      good.no_share (omega arith) (omega arith)

  heap-stack : (p q : ℕ) → same_block (reading_up hs (H p)) (reading_up ss (K q)) ≡ false
  heap-stack p q = go (H p) refl (K q) refl
    where
      go : (r : Reading) → H p ≡ r → (j : Reading) → K q ≡ j → same_block (reading_up hs r) (reading_up ss j) ≡ false
      go nothing e j f = refl
      go damaged e j f = refl
      go (block b l o w t) e nothing f = refl
      go (block b l o w t) e damaged f = refl
      go (block b l o w t) e (block c k i v u) f = rw (ne_eqb (hs + b) (ss + c) (bases p q b l o w c k i v t u e f))

  stack-heap : (p q : ℕ) → same_block (reading_up ss (K p)) (reading_up hs (H q)) ≡ false
  stack-heap p q = go (K p) refl (H q) refl
    where
      go : (r : Reading) → K p ≡ r → (j : Reading) → H q ≡ j → same_block (reading_up ss r) (reading_up hs j) ≡ false
      go nothing e j f = refl
      go damaged e j f = refl
      go (block b l o w t) e nothing f = refl
      go (block b l o w t) e damaged f = refl
      go (block b l o w t) e (block c k i v u) f = rw (ne_eqb (ss + b) (hs + c) (λ h. bases q p c k i v b l o w u t f e (sym h)))

  -- r is the reading of the first byte, t that of the byte at b; w says whether the bytes are to be written
  module _ (w : Bool) (n : ℕ) (r t : Reading) (b q : ℕ) (x : Answer) where
    pub valid-heap-heap : (p : ℕ) → r ≡ H p → area_of (areas m) b ≡ Heap → q ≡ b - hs → t ≡ H q → x ≡ valid_answer false n r t
        → x ≡ valid_answer w n (reading_up hs (H p)) (rd b)
    valid-heap-heap p er e z et y =
        y ∙ rw (er, et, (read-heap m s ok fit b q e z).0) (sym (valid-up w n hs (H p) (H q) ∙ valid-any w n (H p) (H q) (heap-literal m.width m.segment (length s.0) (at s.0) p)))

    pub valid-stack-stack : (p : ℕ) → r ≡ K p → area_of (areas m) b ≡ Stack → q ≡ b - ss → t ≡ K q → x ≡ valid_answer w n r t
        → x ≡ valid_answer w n (reading_up ss (K p)) (rd b)
    valid-stack-stack p er e z et y = y ∙ rw (er, et, (read-stack m s ok fit b q e z).0) (sym (valid-up w n ss (K p) (K q)))

    pub valid-heap-stack : (p : ℕ) → r ≡ H p → area_of (areas m) b ≡ Stack → q ≡ b - ss → t ≡ K q → x ≡ apart_answer r t
        → x ≡ valid_answer w n (reading_up hs (H p)) (rd b)
    valid-heap-stack p er e z et y =
        rw (read-stack m s ok fit b q e z).0 (valid-apart w n (H p) (K q) _ _ (up-damaged hs (H p)) (up-damaged ss (K q)) (heap-stack p q) x (y ∙ rw (er, et)))

    pub valid-stack-heap : (p : ℕ) → r ≡ K p → area_of (areas m) b ≡ Heap → q ≡ b - hs → t ≡ H q → x ≡ apart_answer r t
        → x ≡ valid_answer w n (reading_up ss (K p)) (rd b)
    valid-stack-heap p er e z et y =
        rw (read-heap m s ok fit b q e z).0 (valid-apart w n (K p) (H q) _ _ (up-damaged ss (K p)) (up-damaged hs (H q)) (stack-heap p q) x (y ∙ rw (er, et)))

  -- the first byte lies in neither area
  module _ (w : Bool) (n : ℕ) (t : Reading) (b q : ℕ) (x : Answer) where
    pub valid-out-heap : area_of (areas m) b ≡ Heap → q ≡ b - hs → t ≡ H q → x ≡ apart_answer nothing t → x ≡ valid_answer w n nothing (rd b)
    valid-out-heap e z et y =
        rw (read-heap m s ok fit b q e z).0 (valid-apart w n nothing (H q) nothing _ refl (up-damaged hs (H q)) refl x (y ∙ rw et))

    pub valid-out-stack : area_of (areas m) b ≡ Stack → q ≡ b - ss → t ≡ K q → x ≡ apart_answer nothing t → x ≡ valid_answer w n nothing (rd b)
    valid-out-stack e z et y =
        rw (read-stack m s ok fit b q e z).0 (valid-apart w n nothing (K q) nothing _ refl (up-damaged ss (K q)) refl x (y ∙ rw et))

  -- the byte at b lies in neither area
  pub valid-out : (w : Bool) (n start : ℕ) (r R : Reading) (b : ℕ) (x : Answer) → r ≡ R → area_of (areas m) b ≡ Outside → x ≡ apart_answer r nothing
      → x ≡ valid_answer w n (reading_up start R) (rd b)
  valid-out w n start r R b x er e y =
      rw (read_out m s b e).0 (valid-apart w n R nothing _ nothing (up-damaged start R) refl (same_none (reading_up start R)) x (y ∙ rw er))

  pub valid-out-out : (w : Bool) (n b : ℕ) (x : Answer) → area_of (areas m) b ≡ Outside → x ≡ yes_no false → x ≡ valid_answer w n nothing (rd b)
  unfolding valid_answer
  valid-out-out w n b x e y = rw (read_out m s b e).0 y

  -- the bytes belong to their first
  module _ (w : Bool) (n : ℕ) (r : Reading) (b q : ℕ) (x : Answer) where
    pub alone-heap : r ≡ H q → area_of (areas m) b ≡ Heap → q ≡ b - hs → x ≡ valid_answer false n r r → x ≡ valid_answer w n (rd b) (rd b)
    alone-heap er e z y =
        valid-heap-heap w n r r b q x q er e z er y ∙ ap (λ v. valid_answer w n v (rd b)) (sym (read-heap m s ok fit b q e z).0)

    pub alone-stack : r ≡ K q → area_of (areas m) b ≡ Stack → q ≡ b - ss → x ≡ valid_answer w n r r → x ≡ valid_answer w n (rd b) (rd b)
    alone-stack er e z y =
        valid-stack-stack w n r r b q x q er e z er y ∙ ap (λ v. valid_answer w n v (rd b)) (sym (read-stack m s ok fit b q e z).0)

  pub alone-out : (w : Bool) (n b : ℕ) (x : Answer) → area_of (areas m) b ≡ Outside → x ≡ yes_no false → x ≡ valid_answer w n (rd b) (rd b)
  alone-out w n b x e y = valid-out-out w n b x e y ∙ ap (λ v. valid_answer w n v (rd b)) (sym (read_out m s b e).0)

  pub valid-none : (w : Bool) (a n from : ℕ) → n ≡ 0 → call m (valid w a n from) s ≡ (s, refusal 3)
  unfolding shadow_step
  valid-none w a n from z = call_step m (valid w a n from) s ok fit ∙ rw (eq-eqb n 0 z)

  pub valid-reads : (w : Bool) (a n from : ℕ) → n ≢ 0 → (r : Reading) → rd a ≡ r → call m (valid w a n from) s ≡ (s, valid_answer w n r (rd from))
  unfolding shadow_step valid_answer
  valid-reads w a n from z r er = call_step m (valid w a n from) s ok fit ∙ go (test (is_damaged r || is_damaged (rd from)))
    where
      go : Test (is_damaged r || is_damaged (rd from)) → shadow_step (map_rules m) (shadow_ops m) (valid w a n from) s ≡ (s, valid_answer w n r (rd from))
      go (is_true t) = rw (ne_eqb n 0 z, er, t)
      go (is_false t) = rw (ne_eqb n 0 z, er, t)

  -- ---- initialised

  pub valid-alone : (w : Bool) (a n from : ℕ) → n ≢ 0 → a ≡ from → call m (valid w a n from) s ≡ (s, valid_answer w n (rd a) (rd a))
  valid-alone w a n from z e = rw e (valid-reads w from n from z (rd from) refl)

  pub initialised-none : (a n : ℕ) → n ≡ 0 → call m (initialised a n) s ≡ (s, refusal 3)
  unfolding shadow_step
  initialised-none a n z = call_step m (initialised a n) s ok fit ∙ rw (eq-eqb n 0 z)

  -- by the reading r of the first byte, told by addresses, and by whether all are written, which is asked only where they lie in one block
  initialised-reads : (a n start : ℕ) → n ≢ 0 → (r : Reading) → rd a ≡ reading_up start r → (t : Bool) → (in_one n r ≡ true → range_marked (shadow_ops m) s a n ≡ t)
      → call m (initialised a n) s ≡ (s, initialised_answer n r t)
  unfolding shadow_step initialised_answer
  initialised-reads a n start z r er t f = call_step m (initialised a n) s ok fit ∙ go (test (is_damaged r)) (test (in_one n r))
    where
      go : Test (is_damaged r) → Test (in_one n r) → shadow_step (map_rules m) (shadow_ops m) (initialised a n) s ≡ (s, initialised_answer n r t)
      go (is_true d) i = rw (ne_eqb n 0 z, er, up-damaged start r, d)
      go (is_false d) (is_false i) = rw (ne_eqb n 0 z, er, up-damaged start r, d, up_one n start r, i)
      go (is_false d) (is_true i) = rw (ne_eqb n 0 z, er, up-damaged start r, d, up_one n start r, i, f i)

  pub initialised-heap : (a n p : ℕ) → n ≢ 0 → area_of (areas m) a ≡ Heap → p ≡ a - hs
      → call m (initialised a n) s ≡ (s, initialised_answer n (H p) (range_marked (heap_ops m.width m.segment (length s.0)) s.0 p n))
  initialised-heap a n p z e q =
      initialised-reads a n hs z (H p) (read-heap m s ok fit a p e q).0 _
      (λ i. sym (range_same (heap_ops m.width m.segment (length s.0)) (shadow_ops m) s.0 s n p a (bit (heap-room m.width m.segment (length s.0) (at s.0) p n i))))
    where
      bit : p + n ≤ length s.0 → (i : ℕ) → i < n → heap_marked m.width m.segment s.0 (p + i) ≡ (shadow_ops m).marked s (a + i)
      bit room i k =
          let x = (heap-lengths m s ok fit).0 in
          let w = within-true hs m.heap_size a (area-heap (areas m) a e) in
          let y : a + i - hs ≡ p + i = omega arith in
          rw (true-within hs m.heap_size (a + i) (omega arith) (omega arith), y)

  pub initialised-stack : (a n p : ℕ) → n ≢ 0 → area_of (areas m) a ≡ Stack → p ≡ a - ss
      → call m (initialised a n) s ≡ (s, initialised_answer n (K p) (range_marked (stack_ops (length s.1.0)) s.1 p n))
  initialised-stack a n p z e q =
      initialised-reads a n ss z (K p) (read-stack m s ok fit a p e q).0 _
      (λ i. sym (range_same (stack_ops (length s.1.0)) (shadow_ops m) s.1 s n p a (bit (stack-room (length s.1.0) (at s.1.0) (at s.1.1) p n i))))
    where
      bit : p + n ≤ length s.1.0 → (i : ℕ) → i < n → stack_marked s.1 (p + i) ≡ (shadow_ops m).marked s (a + i)
      bit room i k =
          let x = (stack-lengths m s ok fit).0 in
          let w = within-true ss m.stack_size a (area-stack (areas m) a e).1 in
          let y : a + i - ss ≡ p + i = omega arith in
          let out : within hs m.heap_size (a + i) ≡ false =
          false_of _ (λ t. let u = within-true hs m.heap_size (a + i) t in good.no_share (omega arith) (omega arith)) in
          rw (out, y)

  pub initialised-out : (a n : ℕ) → n ≢ 0 → area_of (areas m) a ≡ Outside → call m (initialised a n) s ≡ (s, yes_no false)
  unfolding shadow_step
  initialised-out a n z e = call_step m (initialised a n) s ok fit ∙ rw (ne_eqb n 0 z, (read_out m s a e).0)

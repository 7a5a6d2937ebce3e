-- What is left of the shadows, proved: see `RecordStamps` and `LengthsKept` of specs/Alters.antt. Assumes nothing.
use mathlib.Core.Path.{◌≡◌, refl, sym, ap, ◌∙◌}
use mathlib.Core.Bool.{true, false, cond}
use mathlib.Core.List.{List, [], ◌∷◌}
use Prim.Native.Nat.{ℕ, zero, suc, ◌+◌, ◌*◌, ◌-◌, ◌≤◌}
use native.Mathlib.Omega.{arith}
use lib.ListN.{length, length-set, length-replicate, get_or-eq_default}
use Rattle.number.specs.Parts.{at, tab}
use Rattle.number.proofs.TestLaws.{Test, is_true, is_false, test, cond-true}
use Rattle.number.proofs.PartLaws.{length_over, at-tab-out}
use Rattle.map.specs.FormMap.{FormMap}
use Rattle.map.specs.Map.{good_map}
use Rattle.map.proofs.MapLaws.{Good, good-true, number-holds}
use Rattle.types.specs.declared.Beginning.{Beginning}
use Rattle.plain.specs.Block.{Block, len, starts_written, begun}
use Rattle.plain.specs.Rules.{Placed}
use Rattle.plain.specs.Areas.{segments, place_length, heap_rules, stack_rules, map_rules}
use Rattle.plain.specs.Lift.{down}
use Rattle.plain.specs.Join.{only}
use Rattle.plain.specs.Ops.{mark_range, read_any}
use Rattle.plain.specs.Call.{Call, clear, begin, free, remove, written, ask, valid, initialised, next, audit, place, first_of, unless}
use Rattle.plain.specs.ShadowCalls.{length_of, shadows_after, shadow_answer}
use Rattle.plain.proofs.AreaLaws.{heap-shifted, stack-shifted}
use Rattle.plain.proofs.KeptLaws.{base-inside}
use Rattle.plain.proofs.StampedLaws.{Stands}
use Rattle.heap_layout.specs.Image.{heap_byte, heap_image}
use Rattle.heap_layout.specs.Ops.{heap_stamp, heap_erase, heap_mark}
use Rattle.heap_layout.proofs.SegmentLaws.{Sizes}
use Rattle.heap_layout.proofs.StampLaws as heap
use Rattle.stack_layout.specs.Image.{primary_own, secondary_own, by_block, primary_byte, secondary_byte, stack_image}
use Rattle.stack_layout.specs.Ops.{stack_stamp, stack_erase, stack_mark}
use Rattle.stack_layout.proofs.ImageLaws as stack
use Rattle.shadows.specs.Shadows.{Shadows, Place, heap, primary, secondary, byte_at, lengths_fit, shadow_ops, image}
use Rattle.shadows.proofs.ShadowLaws.{Fit, fit-true, map-sound}
use Rattle.monitor_base.specs.Calls.{refusals, call}
use Rattle.demands.specs.Addresses.{in_heap, in_stack}
use Rattle.demands.specs.Alters.{in_place, RecordStamps, LengthsKept}
use Rattle.demands.proofs.Numbers.{first_two}
use Rattle.demands.proofs.Begun as begun
use Rattle.demands.proofs.OverLaws.{at-written}

-- ---- record

module _ (m : FormMap) (w : Beginning) (b l : ℕ) (s : Shadows) (ok : good_map m ≡ true) (f : Fit m s) (t : Stands (map_rules m) (begun w b l)) where
  abbrev heap_blocks : List Block
  heap_blocks = down m.heap_start (begun w b l) ∷ []

  abbrev stack_blocks : List Block
  stack_blocks = down m.stack_start (begun w b l) ∷ []

  g : Good m
  g = good-true m ok

  sizes : Sizes m.width m.segment m.heap_size
  sizes = record { wide = m.wide; two = m.two; small = number-holds m m.heap_size g.heap_most; whole = g.heap_size_whole }

  pub heap-placed : in_heap m b ≡ true → Placed (heap_rules m.segment 0 m.heap_size) 0 heap_blocks
  heap-placed h =
      let H = heap-shifted m.segment m.heap_start m.heap_size g.heap_start_whole in
      let u : (heap_rules m.segment m.heap_start m.heap_size).fits b (len (begun w b l)) ≡ true =
      sym (cond-true (in_heap m b) _ ((stack_rules m.stack_start m.stack_size).fits b (len (begun w b l))) h) ∙ t.fits in
      record {
        some = t.some;
        fits = (H.s_fits b (len (begun w b l)) u).1;
        aligned = H.s_aligned b (len (begun w b l)) u (rw h at t.aligned);
        proper = λ x. (rw h at (t.proper x).0, (t.proper x).1);
        room = omega arith;
        later = tt;
      }

  heap-byte : in_heap m b ≡ true → (q : ℕ) → at (heap_image m.width m.segment m.heap_size heap_blocks) q ≡ heap_byte m.width m.segment heap_blocks q
  heap-byte h q = ap (λ (x : ℕ → ℕ). x q) (heap.at-image sizes heap_blocks (heap-placed h))

  heap-past : in_heap m b ≡ true → (q : ℕ) → length s.0 ≤ q → heap_byte m.width m.segment heap_blocks q ≡ 0
  heap-past h q k =
      sym (heap-byte h q)
      ∙ get_or-eq_default (heap_image m.width m.segment m.heap_size heap_blocks) 0 {n = q} (omega (arith, heap.length-image sizes heap_blocks, f.0))

  stack-inside : in_heap m b ≡ false → in_stack m b ≡ true
  stack-inside h = rw h at (base-inside (map_rules m) (map-sound m ok) b (len (begun w b l)) t.some t.fits)

  stack-placed : in_heap m b ≡ false → Placed (stack_rules 0 m.stack_size) 0 stack_blocks
  stack-placed h =
      let H = stack-shifted m.stack_start m.stack_size in
      let u : (stack_rules m.stack_start m.stack_size).fits b (len (begun w b l)) ≡ true = rw h at t.fits in
      record { some = t.some; fits = (H.s_fits b (len (begun w b l)) u).1; aligned = refl; proper = λ x. (refl, (t.proper x).1); room = omega arith; later = tt }

  stack-byte : in_heap m b ≡ false → (own : Block → ℕ → ℕ) (q : ℕ) → at (tab 0 m.stack_size (by_block own stack_blocks)) q ≡ by_block own stack_blocks q
  stack-byte h own q = ap (λ (x : ℕ → ℕ). x q) (stack.at-image m.stack_size stack_blocks (stack-placed h) own)

  stack-past : in_heap m b ≡ false → (own : Block → ℕ → ℕ) (q : ℕ) → m.stack_size ≤ q → by_block own stack_blocks q ≡ 0
  stack-past h own q k = sym (stack-byte h own q) ∙ at-tab-out m.stack_size q (by_block own stack_blocks) k

  stamped : (q : Place) → byte_at ((shadow_ops m).stamp s (begun w b l)) q ≡ cond (in_place m b l q) (byte_at (image m (begun w b l ∷ [])) q) (byte_at s q)
  unfolding heap_stamp place_length stack_stamp stack_image only
  stamped q = go q (test (in_heap m b))
    where
      ln : len (begun w b l) ≡ l
      ln = length-replicate l (starts_written w)

      go : (q : Place) → Test (in_heap m b)
          → byte_at ((shadow_ops m).stamp s (begun w b l)) q ≡ cond (in_place m b l q) (byte_at (image m (begun w b l ∷ [])) q) (byte_at s q)
      go (heap q) (is_true h) =
          rw (h, heap-byte h q, ln) (at-written (b - m.heap_start - m.segment) (m.segment + segments m.segment l * m.segment) (heap_byte m.width m.segment heap_blocks) s.0 (λ i k r. heap-past h i k) q)
      go (heap q) (is_false h) = rw h
      go (primary q) (is_true h) = rw h
      go (primary q) (is_false h) =
          rw (h, stack-inside h, stack-byte h primary_own q, ln)
          (at-written (b - m.stack_start) l (primary_byte stack_blocks) s.1.0 (λ i k r. stack-past h primary_own i (omega (arith, f.1.0))) q)
      go (secondary q) (is_true h) = rw h
      go (secondary q) (is_false h) =
          rw (h, stack-inside h, stack-byte h secondary_own q, ln)
          (at-written (b - m.stack_start) l (secondary_byte stack_blocks) s.1.1 (λ i k r. stack-past h secondary_own i (omega (arith, f.1.1))) q)

pub record-stamps : (m : FormMap) → RecordStamps m
record-stamps m w b l s e q =
    let A = begun.accepted m w b l s e in
    rw (begun.began m w b l s e) (stamped m w b l s A.good A.fit (begun.stands m w b l s e) q)

-- ---- every call

-- what holds of cleared shadows, and stays where a block is stamped or erased and a byte is marked, stays after every accepted call
pub record Keeps (m : FormMap) (P : Shadows → Type 0) : Type 0 where
  pub cleared : P (shadow_ops m).cleared
  pub stamped : (s : Shadows) (b : Block) → P s → P ((shadow_ops m).stamp s b)
  pub erased : (s : Shadows) (x l : ℕ) → P s → P ((shadow_ops m).erase s x l)
  pub marked : (s : Shadows) (a : ℕ) → P s → P ((shadow_ops m).mark s a)

module _ (m : FormMap) (P : Shadows → Type 0) (K : Keeps m P) where
  range-keeps : (n a : ℕ) (s : Shadows) → P s → P (mark_range (shadow_ops m) s a n)
  unfolding mark_range
  range-keeps zero a s p = p
  range-keeps (suc n) a s p = range-keeps n (suc a) ((shadow_ops m).mark s a) (K.marked s a p)

  pub after-keeps : (c : Call) (s : Shadows) → P s → P (shadows_after (map_rules m) (shadow_ops m) c s)
  after-keeps clear s p = K.cleared
  after-keeps (begin w b l) s p = K.stamped s (begun w b l) p
  after-keeps (free zero) s p = p
  after-keeps (free (suc x)) s p = K.erased s (suc x) (length_of (read_any (map_rules m) (shadow_ops m) s (suc x))) p
  after-keeps (remove x) s p = K.erased s x (length_of (read_any (map_rules m) (shadow_ops m) s x)) p
  after-keeps (written a n) s p = range-keeps n a s p
  after-keeps (ask a) s p = p
  after-keeps (valid w a n from) s p = p
  after-keeps (initialised a n) s p = p
  after-keeps (next a) s p = p
  after-keeps audit s p = p
  after-keeps (place l k) s p = p

-- ---- lengths

-- t has the lengths of s
abbrev AsLong : Shadows → Shadows → Type 0
AsLong s t = (length t.0 ≡ length s.0) × (length t.1.0 ≡ length s.1.0) × (length t.1.1 ≡ length s.1.1)

module _ (m : FormMap) where
  stamp-long : (s : Shadows) (b : Block) → AsLong s ((shadow_ops m).stamp s b)
  unfolding heap_stamp stack_stamp
  stamp-long s b = go (test (in_heap m b.base))
    where
      go : Test (in_heap m b.base) → AsLong s ((shadow_ops m).stamp s b)
      go (is_true h) = rw h (length_over _ _ _ s.0, refl, refl)
      go (is_false h) = rw h (refl, length_over _ _ _ s.1.0, length_over _ _ _ s.1.1)

  erase-long : (s : Shadows) (x l : ℕ) → AsLong s ((shadow_ops m).erase s x l)
  unfolding heap_erase stack_erase
  erase-long s x l = go (test (in_heap m x))
    where
      go : Test (in_heap m x) → AsLong s ((shadow_ops m).erase s x l)
      go (is_true h) = rw h (length_over _ _ _ s.0, refl, refl)
      go (is_false h) = rw h (refl, length_over _ _ _ s.1.0, length_over _ _ _ s.1.1)

  mark-long : (s : Shadows) (y : ℕ) → AsLong s ((shadow_ops m).mark s y)
  unfolding heap_mark stack_mark
  mark-long s y = go (test (in_heap m y))
    where
      go : Test (in_heap m y) → AsLong s ((shadow_ops m).mark s y)
      go (is_true h) = rw h (length-set s.0 _ _, refl, refl)
      go (is_false h) = rw h (refl, length-set s.1.0 _ _, refl)

pub lengths_kept : (m : FormMap) → LengthsKept m
unfolding call
lengths_kept m c s = go (first_of (refusals m c s)) refl
  where
    then : (t u : Shadows) → AsLong t u → AsLong s t → AsLong s u
    then t u q p = (q.0 ∙ p.0, q.1 ∙ p.1, q.2 ∙ p.2)

    keeps : Fit m s → Keeps m (AsLong s)
    keeps f =
        let (h, k) : ℕ × ℕ = (m.heap_size, m.stack_size) in
        record {
          cleared = (length-replicate h 0 ∙ sym f.0, length-replicate k 0 ∙ sym f.1.0, length-replicate k 0 ∙ sym f.1.1);
          stamped = λ t b. then t ((shadow_ops m).stamp t b) (stamp-long m t b);
          erased = λ t x l. then t ((shadow_ops m).erase t x l) (erase-long m t x l);
          marked = λ t a. then t ((shadow_ops m).mark t a) (mark-long m t a);
        }

    go : (k : ℕ) → first_of (refusals m c s) ≡ k
        → AsLong s (unless k s (shadows_after (map_rules m) (shadow_ops m) c s, shadow_answer (map_rules m) (shadow_ops m) c s)).0
    go zero z = after-keeps m (AsLong s) (keeps (fit-true m s (first_two (good_map m) (lengths_fit m s) _ z).1)) c s (refl, refl, refl)
    go (suc k) z = (refl, refl, refl)

-- A shadow that the walk accepts is the image of the blocks that it gives. Assumes nothing.
use mathlib.Core.Path.{◌≡◌, refl, sym, ap, ◌∙◌, subst}
use mathlib.Core.Bool.{Bool, false, cond, ◌&&◌}
use mathlib.Core.List.{List, [], ◌∷◌, ◌++◌, append-nil}
use Prim.Native.Nat.{ℕ, zero, suc, ◌+◌, ◌*◌, ◌-◌, ◌/◌, ◌%◌, ◌≤◌, ◌<◌, min}
use native.Mathlib.Omega.{arith}
use native.Mathlib.Nat.{zero-mul, div-add-mod', mod-lt, div-lt_iff_lt-mul}
use lib.ListN.{length, take, drop, length-append}
use lib.Seq.{take_at, drop_at, take_all, drop-drop}
use lib.Dec.{leb}
use borrow.Author.Tests.{ne_eqb, leb-true, leb-false}
use Rattle.number.specs.Little.{word}
use Rattle.number.proofs.TestLaws.{Test, is_true, is_false, test, and-true, not-both}
use Rattle.plain.specs.Block.{Block, len}
use Rattle.plain.specs.Rules.{Rules, Placed, Sound}
use Rattle.plain.specs.Areas.{segments, heap_rules}
use Rattle.plain.specs.Found.{Found, bad, got, goes_on, begins}
use Rattle.plain.proofs.AreaLaws.{heap-sound}
use Rattle.plain.proofs.KeptLaws.{weaken}
use Rattle.heap_layout.specs.Image.{free, header, segment, segment_of, heap_byte}
use Rattle.heap_layout.specs.Walk.{matches, marks_at, heap_walk}
use Rattle.heap_layout.proofs.SegmentLaws.{segments-gt, segments-last, Stands, stands-rules}
use Rattle.heap_layout.proofs.CellLaws.{Shows}
use Rattle.heap_layout.proofs.WalkLaws.{matches-shows, length-marks, Shown, shown-more, shown-same, first-header, first-segment, first-after, low_free, walk-idle, walk-open}

-- ---- the parts of what a walk gives

bad-got : (ms : List Bool) (bs : List Block) → bad ≡ got ms bs → ⊥
bad-got ms bs e = let z : ◌≡◌ {A = ℕ} 0 1 = cc in omega arith

begins-got : (base : ℕ) (x : Found) (ms : List Bool) (bs : List Block) → begins base false x ≡ got ms bs
    → (m : List Bool) × (cs : List Block) × (x ≡ got m cs) × (ms ≡ []) × (bs ≡ record { base = base; marks = m; literal = false } ∷ cs)
begins-got base bad ms bs e = absurd (bad-got ms bs e)
begins-got base (got m cs) ms bs e = (m, cs, refl, (cc), (cc))

goes-got : (m : List Bool) (x : Found) (ms : List Bool) (bs : List Block) → goes_on m x ≡ got ms bs
    → (m' : List Bool) × (x ≡ got m' bs) × (ms ≡ m ++ m')
goes-got m bad ms bs e = absurd (bad-got ms bs e)
goes-got m (got m' cs) ms bs e = let q : cs ≡ bs = cc in (m', ap (got m') q, (cc))

-- what is told of n segments from s on, where no block goes on
record Idled (W G size : ℕ) (f : ℕ → ℕ) (n s : ℕ) (ms : List Bool) (bs : List Block) : Type 0 where
  no-marks : ms ≡ []
  placed : Placed (heap_rules G 0 size) (s * G) bs
  shown : Shown W G f (segment_of G bs) s n

-- and where, at offset d, a block of length L goes on whose header is segment k
record Opened (W G size : ℕ) (f : ℕ → ℕ) (n s k d L : ℕ) (ms : List Bool) (bs : List Block) : Type 0 where
  long : length ms ≡ L - d
  placed : Placed (heap_rules G 0 size) ((suc k + segments G L) * G) bs
  shown : (b : Block) → b.base ≡ suc k * G → len b ≡ L → drop d b.marks ≡ ms → Shown W G f (segment_of G (b ∷ bs)) s n

module _ (W : ℕ) {G : ℕ} (g : 0 < G) (size : ℕ) (f : ℕ → ℕ) where
  abbrev R : Rules
  R = heap_rules G 0 size

  S : Sound R
  S = heap-sound G g 0 size

  abbrev Idle : ℕ → Type 0
  Idle n = (s d : ℕ) (ms : List Bool) (bs : List Block) → heap_walk W G size f n s 0 d ≡ got ms bs → Idled W G size f n s ms bs

  abbrev Open : ℕ → Type 0
  Open n = (s k j d L : ℕ) (ms : List Bool) (bs : List Block) → s ≡ suc k + j → d ≡ j * G → d < L → suc k * G + L ≤ size
      → heap_walk W G size f n s L d ≡ got ms bs → Opened W G size f n s k d L ms bs

  -- ---- one segment more, where no block goes on

  free_step : (n s : ℕ) (ms : List Bool) (bs : List Block) → Shows W G f s free → Idled W G size f n (suc s) ms bs → Idled W G size f (suc n) s ms bs
  free_step n s ms bs m r =
      record {
        no-marks = r.no-marks;
        placed = weaken R bs (suc s * G) (s * G) (omega arith) r.placed;
        shown = shown-more W G f (segment_of G bs) s n
            (subst (Shows W G f s) (sym (low_free g size bs s r.placed)) m) r.shown;
      }

  header-step : (n s H : ℕ) (m : List Bool) (cs : List Block) → 1 ≤ H → suc s * G + H ≤ size → Shows W G f s (header H)
      → Opened W G size f n (suc s) s 0 H m cs → Idled W G size f (suc n) s [] (record { base = suc s * G; marks = m; literal = false } ∷ cs)
  header-step n s H m cs h1 h2 sh r =
      let b : Block = record { base = suc s * G; marks = m; literal = false } in
      let l : length m ≡ H = omega arith in
      let t : Stands G size b.base (len b) = record { head = s; start = refl; some = omega arith; fits = omega arith } in
      let q = stands-rules g size b.base (len b) t in
      record {
        no-marks = refl;
        placed =
            record {
              some = t.some;
              fits = q.0;
              aligned = q.1;
              proper = λ x. absurd (not-both false x refl);
              room = omega arith;
              later = weaken R cs ((suc s + segments G H) * G) (suc s * G + segments G (length m) * G)
                  (omega (arith, ap (λ (x : ℕ). segments G x * G) l)) r.placed;
            };
        shown = shown-more W G f (segment_of G (b ∷ cs)) s n (subst (Shows W G f s) (sym (first-header g size b cs t ∙ ap header l)) sh) (r.shown b refl l refl);
      }

  idle-step : (n : ℕ) → Idle n → Open n → Idle (suc n)
  idle-step n ih oh s d ms bs e =
      go (test (matches W G size f s free)) (test (leb 1 H && leb (suc s * G + H) size && matches W G size f s (header H))) (sym (walk-idle W G size f n s d) ∙ e)
    where
      H : ℕ
      H = word f (s * G + W) W

      go : Test (matches W G size f s free) → Test (leb 1 H && leb (suc s * G + H) size && matches W G size f s (header H))
          → cond (matches W G size f s free) (heap_walk W G size f n (suc s) 0 0)
          (cond (leb 1 H && leb (suc s * G + H) size && matches W G size f s (header H)) (begins (suc s * G) false (heap_walk W G size f n (suc s) H 0)) bad) ≡ got ms bs
          → Idled W G size f (suc n) s ms bs
      go (is_true m) c q = free_step n s ms bs (matches-shows W G size f s free m) (ih (suc s) 0 ms bs (rw m at q))
      go (is_false m) (is_true c) q =
          let u = and-true (leb 1 H && leb (suc s * G + H) size) (matches W G size f s (header H)) c in
          let v = and-true (leb 1 H) (leb (suc s * G + H) size) u.0 in
          let h1 : 1 ≤ H = leb-true 1 H v.0 in
          let h2 : suc s * G + H ≤ size = leb-true (suc s * G + H) size v.1 in
          let (m', cs, x, y, w) = begins-got (suc s * G) (heap_walk W G size f n (suc s) H 0) ms bs (rw (m, c) at q) in
          rw (y, w) (header-step n s H m' cs h1 h2 (matches-shows W G size f s (header H) u.1) (oh (suc s) s 0 0 H m' cs (omega arith) (sym (zero-mul G)) h1 h2 x))
      go (is_false m) (is_false c) q = absurd (bad-got ms bs (rw (m, c) at q))

  -- ---- one segment more, where a block goes on

  module _ (n s k j d L : ℕ) (m m' : List Bool) (bs : List Block) (es : s ≡ suc k + j) (ed : d ≡ j * G) (h : d < L) (h2 : suc k * G + L ≤ size)
      (l : length m ≡ min G (L - d)) (sh : Shows W G f s (segment d m)) where
    abbrev at_head : (b : Block) → b.base ≡ suc k * G → len b ≡ L → Stands G size b.base (len b)
    at_head b eb el = record { head = k; start = eb; some = omega arith; fits = omega arith }

    -- segment s of the block, whatever came before
    this : take G (m ++ m') ≡ m → (b : Block) → b.base ≡ suc k * G → len b ≡ L → drop d b.marks ≡ m ++ m' → Shows W G f s (segment_of G (b ∷ bs) s)
    this e b eb el em =
        subst (Shows W G f s)
        (sym (first-segment g size b bs (at_head b eb el) s j es (segments-gt g (len b) j (omega arith)) ∙ rw (← ed, em, e))) sh

    last_step : L ≤ d + G → Idled W G size f n (suc s) m' bs → Opened W G size f (suc n) s k d L (m ++ m') bs
    last_step le r =
        let e : segments G L ≡ suc j = segments-last g L j (omega arith) (omega arith) in
        record {
          long = omega (arith, length-append m m', ap (λ (x : List Bool). length x) r.no-marks);
          placed = weaken R bs (suc s * G) ((suc k + segments G L) * G) (omega (arith, ap (λ (x : ℕ). x * G) e, ap (λ (x : ℕ). x * G) es)) r.placed;
          shown = λ b eb el em.
              shown-more W G f (segment_of G (b ∷ bs)) s n (this (rw (r.no-marks, append-nil m) (take_all G m (omega arith))) b eb el em)
              (shown-same W G f (segment_of G bs) (suc s) n (segment_of G (b ∷ bs)) (λ t x. sym (first-after g size b bs (at_head b eb el) t (omega (arith, ap (segments G) el)))) r.shown);
        }

    more-step : d + G < L → Opened W G size f n (suc s) k (d + G) L m' bs → Opened W G size f (suc n) s k d L (m ++ m') bs
    more-step lt r =
        record {
          long = omega (arith, length-append m m');
          placed = r.placed;
          shown = λ b eb el em.
              shown-more W G f (segment_of G (b ∷ bs)) s n (this (take_at m m' G (omega arith)) b eb el em)
              (r.shown b eb el (sym (drop-drop G d b.marks) ∙ ap (drop G) em ∙ drop_at m m' G (omega arith)));
        }

  open_step : (n : ℕ) → Idle n → Open n → Open (suc n)
  open_step n ih oh s k j d L ms bs es ed h h2 e = go (test (matches W G size f s (segment d m))) (sym (walk-open W G size f n s L d (omega arith)) ∙ e)
    where
      m : List Bool
      m = marks_at W G size f s (min G (L - d))

      l : length m ≡ min G (L - d)
      l = length-marks W G size f s (min G (L - d))

      on : Shows W G f s (segment d m) → (m' : List Bool) → Test (leb L (d + G)) → heap_walk W G size f n (suc s) (cond (leb L (d + G)) 0 L) (d + G) ≡ got m' bs
          → Opened W G size f (suc n) s k d L (m ++ m') bs
      on sh m' (is_true t) q =
          last_step n s k j d L m m' bs es ed h h2 l sh (leb-true L (d + G) t) (ih (suc s) (d + G) m' bs (rw t at q))
      on sh m' (is_false t) q =
          let lt : d + G < L = leb-false L (d + G) t in
          more-step n s k j d L m m' bs es ed h h2 l sh lt (oh (suc s) k (suc j) (d + G) L m' bs (omega arith) (omega arith) lt h2 (rw t at q))

      go : Test (matches W G size f s (segment d m))
          → cond (matches W G size f s (segment d m)) (goes_on m (heap_walk W G size f n (suc s) (cond (leb L (d + G)) 0 L) (d + G))) bad ≡ got ms bs
          → Opened W G size f (suc n) s k d L ms bs
      go (is_true t) q =
          let (m', x, y) = goes-got m (heap_walk W G size f n (suc s) (cond (leb L (d + G)) 0 L) (d + G)) ms bs (rw t at q) in
          rw y (on (matches-shows W G size f s (segment d m) t) m' (test (leb L (d + G))) x)
      go (is_false t) q = absurd (bad-got ms bs (rw t at q))

  -- ---- the whole walk

  idle-end : Idle 0
  unfolding heap_walk
  idle-end s d ms bs e =
      let em : [] ≡ ms = cc in
      let eb : [] ≡ bs = cc in
      rw (← em, ← eb) (record { no-marks = refl; placed = tt; shown = λ t x y. absurd (omega arith) })

  open-end : Open 0
  unfolding heap_walk
  open-end s k j d L ms bs es ed h h2 e = absurd (bad-got ms bs (rw (ne_eqb L 0 (λ q. omega arith)) at e))

  sound : (n : ℕ) → Idle n × Open n
  sound zero = (idle-end, open-end)
  sound (suc n) = let (ih, oh) = sound n in (idle-step n ih oh, open_step n ih oh)

  -- what the walk accepts is an image
  pub walk-sound : (n : ℕ) (ms : List Bool) (bs : List Block) → heap_walk W G size f n 0 0 0 ≡ got ms bs
      → Placed (heap_rules G 0 size) 0 bs × ((q : ℕ) → q < n * G → f q ≡ heap_byte W G bs q)
  unfolding heap_byte
  walk-sound n ms bs e =
      let r = (sound n).0 0 0 ms bs e in (
        rw zero-mul at r.placed,
        λ q h. rw (div-add-mod' q G) at (r.shown (q / G) (omega arith) (omega (arith, (div-lt_iff_lt-mul {k = G} {x = q} {y = n} g).1 h)) (q % G) (mod-lt q g)),
      )

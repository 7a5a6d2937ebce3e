-- Demand 2, proved: see specs/Demand2.antt for what each says. Assumes nothing.
use mathlib.Core.Path.{◌≡◌, refl, sym, ap, ◌∙◌, fun_ext}
use mathlib.Core.Bool.{Bool, true, false, cond, not, ◌&&◌, ◌||◌, true≢false}
use mathlib.Core.List.{List, [], ◌∷◌}
use mathlib.Core.Option.{Option, none, some}
use Prim.Native.Nat.{ℕ, zero, suc, ◌+◌, ◌-◌}
use native.Mathlib.Omega.{arith}
use borrow.Author.Tests.{le-leb, eq-eqb, not-true, not-false}
use Rattle.number.specs.Bits.{bit}
use Rattle.number.proofs.TestLaws.{Test, is_true, is_false, test}
use Rattle.map.specs.FormMap.{FormMap}
use Rattle.map.specs.Map.{good_map}
use Rattle.plain.specs.Areas.{map_rules}
use Rattle.plain.specs.Block.{Block, len, contains, is_written}
use Rattle.plain.specs.Blocks.{find, total, count}
use Rattle.plain.specs.Rules.{Placed}
use Rattle.plain.specs.Reading.{Reading, nothing, block, damaged, Tally, says, lookup}
use Rattle.plain.specs.Ops.{read_any}
use Rattle.plain.specs.ReadBack.{collect}
use Rattle.plain.specs.Call.{ask, valid_write, audit, Answer, answer, yes_no, number, refusal, first_of, unless}
use Rattle.plain.specs.PlainList.{plain_step}
use Rattle.plain.specs.ShadowCalls.{is_damaged, is_block, in_one, is_literal, same_block, is_none, ask_answer, audit_answer, shadow_step}
use Rattle.plain.proofs.BlockLaws.{contains-true}
use Rattle.plain.proofs.FindLaws.{find-facts, none-outside}
use Rattle.plain.proofs.KeptLaws.{base-inside}
use Rattle.plain.proofs.ReadBackLaws.{image-reads, collect-lookup}
use Rattle.plain.proofs.ImageLaws as laws
use Rattle.shadows.specs.Shadows.{Shadows, lengths_fit, shadow_ops, image}
use Rattle.shadows.proofs.ShadowLaws.{Fit, fit-true, image_fits, map-sound, shadow-images, shadow-scanned}
use Rattle.shadows.proofs.LookLaws.{looks-at-few, reads_same, looks-at-same}
use Rattle.shadows.proofs.ByteLaws.{image-bytes}
use Rattle.monitor_base.specs.Calls.{refusals, call}
use Rattle.monitor_base.proofs.CallLaws.{call_step}
use Rattle.demands.specs.Addresses.{in_heap, in_stack, outside, end_of_areas, reading_at}
use Rattle.demands.specs.Demand2.{asked, block_told, told_at, totals_of, AskReads, FewBytes, ImageShape, OneImage, AuditAccepts, AuditOnly, AuditRefuses, ReadBack}
use Rattle.demands.proofs.Demand3.{on_every_image}
use Rattle.demands.proofs.Numbers.{none-holds, apart_words, outside-words, reading-words}

-- ---- readings

pub ask-reads : (m : FormMap) → AskReads m
unfolding shadow_step
ask-reads m s ok fit a = call_step m (ask a) s ok fit ∙ rw (outside-words m a, reading-words m s a) (go (outside m a) (reading_at m s a))
  where
    go : (t : Bool) (r : Reading)
        → unless (cond t 4 (cond (is_damaged r) 8 (cond (not (is_block r)) 7 0))) s (s, ask_answer r) ≡ (s, cond t (refusal 4) (asked r))
    go true r = refl
    go false nothing = refl
    go false (block b l o w t) = refl
    go false damaged = refl

pub few_bytes : (m : FormMap) → FewBytes m
unfolding call
few_bytes m s a =
    (looks-at-few m s a, λ t e. (read t (reads_same m s a t e), looks-at-same m s a t e, λ f. answers t (reads_same m s a t e) f))
  where
    -- the number and what is answered decide, whatever the shadows
    same : (k : ℕ) (t u : Shadows) (r : Answer) → (unless k t (t, r)).1 ≡ (unless k u (u, r)).1
    same zero t u r = refl
    same (suc k) t u r = refl

    read : (t : Shadows) → read_any (map_rules m) (shadow_ops m) t a ≡ read_any (map_rules m) (shadow_ops m) s a → reading_at m t a ≡ reading_at m s a
    read t e = sym (reading-words m t a) ∙ e ∙ reading-words m s a

    answers : (t : Shadows) → read_any (map_rules m) (shadow_ops m) t a ≡ read_any (map_rules m) (shadow_ops m) s a → lengths_fit m t ≡ lengths_fit m s
        → (call m (ask a) t).1 ≡ (call m (ask a) s).1
    answers t e f = rw (e, f) (same (first_of (refusals m (ask a) s)) t s (ask_answer (read_any (map_rules m) (shadow_ops m) s a)))

-- ---- images

pub image_shape : (m : FormMap) → ImageShape m
image_shape m bs = let b = image-bytes m bs in (image_fits m bs, b.0, b.1, b.2)

pub one_image : (m : FormMap) → OneImage m
one_image m ok bs cs P Q e = laws.one_image (map_rules m) (map-sound m ok) (shadow_ops m) (image m) (shadow-images m ok) bs cs P Q e

-- ---- audit

-- a block that is not the heap's is the stack's
module _ (m : FormMap) (ok : good_map m ≡ true) where
  other : (h k : Bool) → (h || k) ≡ true → (h ≡ true → k ≡ true → ⊥) → not (cond h true false) ≡ k
  other true true e n = absurd (n refl refl)
  other true false e n = refl
  other false k e n = sym e

  heap-count : (bs : List Block) → count (map_rules m).heap bs ≡ count (in_heap m) bs
  heap-count bs = ap (λ (p : ℕ → Bool). count p bs) (fun_ext (λ a. same (in_heap m a)))
    where
      same : (t : Bool) → cond t true false ≡ t
      same true = refl
      same false = refl

  stack-count : (bs : List Block) (from : ℕ) → Placed (map_rules m) from bs → count (λ a. not ((map_rules m).heap a)) bs ≡ count (in_stack m) bs
  unfolding total
  stack-count [] from P = refl
  stack-count (b ∷ bs) from P =
      let i = base-inside (map_rules m) (map-sound m ok) b.base (len b) P.some P.fits in
      rw (other (in_heap m b.base) (in_stack m b.base) i (apart_words m ok b.base), stack-count bs ((map_rules m).high b.base (len b)) P.later)

pub audit_accepts : (m : FormMap) → AuditAccepts m
unfolding plain_step
audit_accepts m ok bs P = on_every_image m ok bs P audit ∙ rw (heap-count m ok bs, stack-count m ok bs 0 P)

-- what an accepted audit found
accepted-tally : (m : FormMap) (s : Shadows) → number (call m audit s).1 ≡ 0
    → (good_map m ≡ true) × (lengths_fit m s ≡ true) × ((t : Tally) × ((shadow_ops m).audit s ≡ some t))
accepted-tally m s e =
    let (one, (two, (eight, rest))) = none-holds m audit s refl e in
    (not-false (good_map m) one, not-false (lengths_fit m s) two, there ((shadow_ops m).audit s) refl eight)
  where
    there : (o : Option Tally) → (shadow_ops m).audit s ≡ o → is_none o ≡ false → (t : Tally) × ((shadow_ops m).audit s ≡ some t)
    there none q n = absurd (true≢false n)
    there (some t) q n = (t, q)

of_image : (m : FormMap) → good_map m ≡ true → (s : Shadows) (bs : List Block) → Placed (map_rules m) 0 bs → s ≡ image m bs
    → call m audit s ≡ (s, totals_of m bs)
of_image m ok s bs P e = rw e (audit_accepts m ok bs P)

pub audit_only : (m : FormMap) → AuditOnly m
audit_only m s e =
    let h = accepted-tally m s e in
    let r = laws.audit-image (map_rules m) (map-sound m h.0) (shadow_ops m) (image m) (shadow-images m h.0) (Fit m) (shadow-scanned m h.0) s
    h.2.0 (fit-true m s h.1) h.2.1 in
    (h.0, (r.0, r.1, r.2, of_image m h.0 s r.0 r.1 r.2))

pub audit_refuses : (m : FormMap) → AuditRefuses m
unfolding shadow_step
audit_refuses m s ok fit h = call_step m audit s ok fit ∙ go ((shadow_ops m).audit s) refl
  where
    go : (o : Option Tally) → (shadow_ops m).audit s ≡ o
        → unless (cond (is_none ((shadow_ops m).audit s)) 8 0) s (s, audit_answer ((shadow_ops m).audit s)) ≡ (s, refusal 8)
    go none q = rw q
    go (some t) q = let r = (shadow-scanned m ok).scanned s t (fit-true m s fit) q in absurd (h r.0 r.1 r.2)

-- ---- the list read back

-- the reading of each address of an image is the list's own
pub image-listed : (m : FormMap) → good_map m ≡ true → (bs : List Block) → Placed (map_rules m) 0 bs → (a : ℕ) → reading_at m (image m bs) a ≡ lookup bs a
image-listed m ok bs P a =
    sym (reading-words m (image m bs) a) ∙ image-reads (map_rules m) (map-sound m ok) (shadow_ops m) (image m) (shadow-images m ok) bs P a

abbrev one_told : Shadows → Reading → Answer
one_told s r =
    (unless (cond (is_damaged r || is_damaged r) 8 0) s (s, yes_no (in_one 1 r && same_block r r && not (is_literal r)))).1

-- what valid answers for one byte, by its reading
valid-one : (m : FormMap) (s : Shadows) → good_map m ≡ true → lengths_fit m s ≡ true → (a : ℕ)
    → (call m (valid_write a 1 a) s).1 ≡ one_told s (reading_at m s a)
unfolding shadow_step
valid-one m s ok fit a = rw (call_step m (valid_write a 1 a) s ok fit, reading-words m s a)

-- and so is what ask and valid tell of it
pub image-told : (m : FormMap) → good_map m ≡ true → (bs : List Block) → Placed (map_rules m) 0 bs → (a : ℕ) → told_at m (image m bs) a ≡ lookup bs a
image-told m ok bs P a =
    rw (ask-reads m (image m bs) ok (image_fits m bs) a, valid-one m (image m bs) ok (image_fits m bs) a, image-listed m ok bs P a)
    (go (find (contains a) bs) refl (test (outside m a)) none_out)
  where
    tells : (b l o w : ℕ) (t : Bool) → block_told (answer 0 b l o w) (answer 0 (bit (not t)) 0 0 0) ≡ block b l o w t
    tells b l o w true = refl
    tells b l o w false = refl

    go : (o : Option Block) → find (contains a) bs ≡ o → Test (outside m a) → (outside m a ≡ true → o ≡ none)
        → block_told (cond (outside m a) (answer 4 0 0 0 0) (asked (says a o))) (one_told (image m bs) (says a o)) ≡ says a o
    go o e (is_true t) n = rw (t, n t)
    go none e (is_false t) n = rw t
    go (some b) e (is_false t) n =
        let h = contains-true a b (find-facts (map_rules m) (map-sound m ok) bs 0 (contains a) b P e).so in
        rw (
          t,
          le-leb (a - b.base + 1) (len b) (omega arith),
          eq-eqb b.base b.base refl,
          eq-eqb (len b) (len b) refl,
        )
        (tells b.base (len b) (a - b.base) (bit (is_written b a)) b.literal)

    none_out : outside m a ≡ true → find (contains a) bs ≡ none
    none_out t = none-outside (map_rules m) (map-sound m ok) bs 0 a P (not-true ((map_rules m).inside a) (outside-words m a ∙ t))

pub read_back : (m : FormMap) → ReadBack m
read_back m ok bs P =
    ap (λ (rd : ℕ → Reading). collect rd 0 (end_of_areas m)) (fun_ext (image-told m ok bs P)) ∙ collect-lookup (map_rules m) (map-sound m ok) bs P

-- What the requests promise, of the player and of the desk: see specification/specs/Requests.antt. Assumes nothing.
use mathlib.Core.Path.{◌≡◌, refl, sym, ap, ◌∙◌}
use mathlib.Core.Logic.{◌⊎◌, inl, inr, ⊎_elim}
use mathlib.Core.Bool.{true, false, not, true≢false}
use mathlib.Core.List.{List, [], ◌∷◌}
use Prim.Native.Nat.{ℕ, ◌+◌, ◌*◌, ◌<◌}
use native.Mathlib.Omega.{arith}
use lib.ListN.{take}
use Rattle.number.specs.Parts.{Each}
use Rattle.number.proofs.TestLaws.{false_of}
use Rattle.map.specs.declared.Map.{Map}
use Rattle.map.specs.declared.Form as kind
use Rattle.map.specs.FormMap.{FormMap, under}
use Rattle.map.specs.Map.{good_map}
use Rattle.types.specs.declared.Beginning.TheVariants.{Written, Literal}
use Rattle.types.specs.Block.{Block}
use Rattle.types.specs.Gap.{Gap}
use Rattle.types.specs.Call.{Call, free, remove, written, place, record_block, record_written, record_literal, valid_read, valid_write, Answer, number}
use Rattle.plain.specs.Areas as areas
use Rattle.plain.specs.Areas.{map_rules}
use Rattle.plain.specs.Blocks.{Has, here, there}
use Rattle.plain.specs.Gaps as gap
use Rattle.plain.specs.Layer.{layer}
use Rattle.plain.specs.Rules.{Placed}
use Rattle.plain.proofs.BestLaws.{best-some, take-ascending}
use Rattle.stack_layout.specs.Image.{secondary_own}
use Rattle.stack_layout.specs.Ops.{stack_stamp}
use Rattle.shadows.specs.Shadows as library
use Rattle.monitor_base.specs.Calls as base
use Rattle.monitor_base.proofs.LocatingLaws.{null-inside}
use Rattle.demands.specs.Literals as library-literals
use Rattle.demands.specs.Places as library-places
use Rattle.demands.specs.Removals as library-removals
use Rattle.demands.proofs.Begun as begun
use Rattle.demands.proofs.Null as null
use Rattle.demands.proofs.Literals.{read_exactly, write_exactly, literal_stays}
use Rattle.demands.proofs.LiteralBegun.{literal_answers, literal_bytes}
use Rattle.demands.proofs.Places.{accepted, gaps_exactly, larger_budget, placed_recorded, on_its_own_image}
use Rattle.demands.proofs.Removals.{free_of_stack, remove_elsewhere, each_its_area, free_exactly, remove_exactly}
use Rattle.specification.specs.Map.{Shadows, in_heap}
use Rattle.specification.specs.Form.{Form}
use Rattle.specification.specs.Footprint.{place_length}
use Rattle.specification.specs.Place.{gaps}
use Rattle.specification.specs.Image.{image}
use Rattle.specification.specs.Call.{call}
use Rattle.specification.specs.Votes.{number_of, Stands}
use Rattle.specification.specs.Requests.{Among, WrittenFromStart, FreeOfNull, HeldBy, Literals, IsGap, Ascending, Places, BaseOf, Removals}
use Rattle.specification.proofs.Forms.{form}
use Rattle.specification.proofs.PlaceSame.{gaps-same}
use Rattle.specification.proofs.ListSame as listed
use Rattle.specification.proofs.Same.{call_same, list_same, image_same, good-same, lengths-same, stand-placed}

-- ---- what is among blocks, and among gaps

has-among : {b : Block} {bs : List Block} → Has b bs → Among b bs
has-among here = inl refl
has-among (there h) = inr (has-among h)

among-has : (b : Block) (bs : List Block) → Among b bs → Has b bs
among-has b [] x' = elim x' [ ]
among-has b (c ∷ cs) (inl e) = rw e here
among-has b (c ∷ cs) (inr a) = there (among-has b cs a)

held-has : (b : Block) (bs : List Block) (a n from : ℕ) → HeldBy b bs a n from → library-literals.HeldBy b bs a n from
held-has b bs a n from h = (among-has b bs h.0, h.1, h.2, h.3, h.4)

has-held : (b : Block) (bs : List Block) (a n from : ℕ) → library-literals.HeldBy b bs a n from → HeldBy b bs a n from
has-held b bs a n from h = (has-among h.0, h.1, h.2, h.3, h.4)

base-has : (a : ℕ) (bs : List Block) → BaseOf a bs → library-removals.BaseOf a bs
base-has a bs (b, h, e) = (b, among-has b bs h, e)

has_base : (a : ℕ) (bs : List Block) → library-removals.BaseOf a bs → BaseOf a bs
has_base a bs (b, h, e) = (b, has-among h, e)

among_same : (g : Gap) (gs : List Gap) → Among g gs ≡ gap.Among g gs
among_same g [] = refl
among_same g (h ∷ hs) = ap (λ (X : Type 0). (g ≡ h) ⊎ X) (among_same g hs)

ascending-same : (gs : List Gap) → Ascending gs ≡ gap.Ascending gs
ascending-same [] = refl
ascending-same (g ∷ gs) = ap (λ (X : Type 0). Each (λ (h : Gap). g.start + g.bytes < h.start) gs × X) (ascending-same gs)

module _ (f : kind.Form) (m : Map) where
  abbrev F : Form
  F = form f

  abbrev M : FormMap
  M = under f m

  good : F.good m ≡ true → good_map M ≡ true
  good g = sym (good-same f m) ∙ g

  number_same : (c : Call) (s : Shadows) → number (base.call M c s).1 ≡ number_of F m c s
  number_same c s = ap (λ (r : Shadows × Answer). number r.1) (sym (call_same f m c s))

  module _ (g : F.good m ≡ true) (bs : List Block) (S : Stands F m bs) where
    placed : Placed (map_rules M) 0 bs
    placed = stand-placed f m bs 0 S

    image-answers : (c : Call) → (call F m c (image F m bs)).1 ≡ (base.call M c (library.image M bs)).1
    image-answers c = rw (call_same f m c (image F m bs), image_same f m bs (good g) placed)

    image-number : (c : Call) → number_of F m c (image F m bs) ≡ number (base.call M c (library.image M bs)).1
    image-number c = ap number (image-answers c)

  -- ---- S-1

  pub written-from-start : WrittenFromStart F m
  written-from-start =
      record {
        answers_of_record = λ b L s. rw (call_same f m (record_written b L) s, call_same f m (record_block b L) s) (begun.answers_of_record M b L s);
        as_written = λ b L s e.
            call_same f m (written b L) _
            ∙ rw (call_same f m (record_block b L) s, call_same f m (record_written b L) s) (begun.record_then_written M b L s (number_same (record_block b L) s ∙ e));
      }

  -- ---- S-2

  pub free_of_null : FreeOfNull F m
  free_of_null =
      record {
        free_of_null = λ s. rw (call_same f m (free 0) s, good-same f m, lengths-same f m s) ((null.free_of_null M).0 s);
        null_outside = λ g. ap not (null-inside M (good g));
      }

  -- ---- S-5

  module _ (b L : ℕ) (s : Shadows) (e : number (base.call M (record_literal b L) s).1 ≡ 0) where
    outside-heap : in_heap m b ≡ false
    outside-heap = false_of (in_heap m b) (λ h. true≢false (rw h at ((begun.accepted M Literal b L s e).proper refl).0))

    -- a literal's bytes differ from another block's in the primary alone
    same-besides : ((base.call M (record_literal b L) s).0.0 ≡ (base.call M (record_written b L) s).0.0)
        × ((base.call M (record_literal b L) s).0.1.1 ≡ (base.call M (record_written b L) s).0.1.1)
    unfolding stack_stamp layer secondary_own
    same-besides =
        rw (begun.began M Literal b L s e, begun.began M Written b L s (ap number (sym (literal_answers M b L s outside-heap)) ∙ e), outside-heap) (refl, refl)

  pub literals : Literals F m
  literals =
      record {
        read_yes = λ g bs S a n from k b h.
            image-answers g bs S (valid_read a n from) ∙ rw ((read_exactly M (good g) bs (placed g bs S) a n from k).0 b (held-has b bs a n from h));
        read_no = λ g bs S a n from k h.
            image-answers g bs S (valid_read a n from) ∙ rw ((read_exactly M (good g) bs (placed g bs S) a n from k).1 (λ b x. h b (has-held b bs a n from x)));
        write_yes = λ g bs S a n from k b h l.
            image-answers g bs S (valid_write a n from) ∙ rw ((write_exactly M (good g) bs (placed g bs S) a n from k).0 b (held-has b bs a n from h) l);
        write_no = λ g bs S a n from k h.
            image-answers g bs S (valid_write a n from) ∙ rw ((write_exactly M (good g) bs (placed g bs S) a n from k).1 (λ b x. h b (has-held b bs a n from x)));
        literal_answers = λ b L s h. rw (call_same f m (record_literal b L) s, call_same f m (record_written b L) s) (literal_answers M b L s h);
        literal_bytes = λ b L s e.
            let z = number_same (record_literal b L) s ∙ e in
            let (x, y) = same-besides b L s z in
            rw (call_same f m (record_literal b L) s, call_same f m (record_written b L) s) (x, y, λ q. literal_bytes M b L s z (library.primary q));
        literal_stays = λ g bs S b h l c e. rw (list_same f m (good g) c bs) (has-among (literal_stays M (good g) bs (placed g bs S) b (among-has b bs h) l c e).0);
      }

  -- ---- S-6

  module _ (s : Shadows) (i n : ℕ) where
    gap-library : IsGap F m s i n → library-places.IsGap M s i n
    gap-library G =
        let e : i * F.segment + n * F.segment ≡ (i + n) * F.segment = omega arith in
        record { some = G.some; inside = omega (arith, G.inside); zero = G.zero; before = G.before; after = λ l h. G.after (omega arith) (rw e at h) }

    library-gap : library-places.IsGap M s i n → IsGap F m s i n
    library-gap G =
        let e : (i + n) * F.segment ≡ i * F.segment + n * F.segment = omega arith in
        record { some = G.some; inside = omega (arith, G.inside); zero = G.zero; before = G.before; after = λ l h. G.after (omega arith) (rw e at h) }

  pub places : Places F m
  unfolding areas.place_length areas.segments
  places =
      record {
        gaps_all = λ s i n G. rw (gaps-same f m s, among_same) ((gaps_exactly M s).0 i n (gap-library s i n G));
        gaps_only = λ s g a.
            let (i, n, G, e) = (gaps_exactly M s).1 g (rw (gaps-same f m s, among_same g ((library.shadow_ops M).gaps s)) at a) in
            (i, n, library-gap s i n G, e);
        gaps_ordered = λ s. rw (gaps-same f m s, ascending-same) (gaps_exactly M s).2;
        place_chooses = λ s L k e.
            let gs : List Gap = (library.shadow_ops M).gaps s in
            let (g, A) = accepted M s L k (number_same (place L k) s ∙ e) in
            let C = best-some (place_length F L) (take k gs) g A.picked in
            rw (gaps-same f m s, call_same f m (place L k) s) (
              g,
              rw (among_same g (take k gs)) C.among,
              C.fits,
              λ h a n.
                  let b : gap.Among h (take k gs) = rw (among_same h (take k gs)) at a in
                  (C.least h b n, C.lowest (take-ascending k gs (gaps_exactly M s).2) h b n),
              A.says,
            );
        larger_budget = λ s L k l h e. rw (call_same f m (place L k) s, call_same f m (place L l) s) (larger_budget M s L k l h (number_same (place L k) s ∙ e));
        placed_recorded = λ s L k b n u e. sym (number_same (record_block b L) s) ∙ (placed_recorded M s L k b n u (rw (call_same f m (place L k) s) at e)).0;
        own_image = λ g bs S.
            let P = placed g bs S in
            rw (listed.gaps-same f m bs, image_same f m bs (good g) P, gaps-same f m (library.image M bs)) (on_its_own_image M (good g) bs P);
      }

  -- ---- S-7

  pub removals : Removals F m
  removals =
      record {
        free_of_stack = λ g s l a i. call_same f m (free a) s ∙ (free_of_stack M (good g) a i).0 s (sym (lengths-same f m s) ∙ l);
        remove_elsewhere = λ g s l a i. call_same f m (remove a) s ∙ (remove_elsewhere M (good g) a i).0 s (sym (lengths-same f m s) ∙ l);
        free_in_heap = λ a s.
            let e = (each_its_area M a s).0 in
            rw (call_same f m (free a) s) (ap (λ (t : List ℕ × List ℕ). t.0) e, ap (λ (t : List ℕ × List ℕ). t.1) e);
        remove_in_stack = λ a s. rw (call_same f m (remove a) s) (each_its_area M a s).1;
        free_if = λ g bs S a h.
            image-number g bs S (free a) ∙ (free_exactly M (good g) bs (placed g bs S) a).0 (⊎_elim inl (λ x. inr (x.0, base-has a bs x.1)) h);
        free_only = λ g bs S a e.
            ⊎_elim inl (λ x. inr (x.0, has_base a bs x.1)) ((free_exactly M (good g) bs (placed g bs S) a).1 (sym (image-number g bs S (free a)) ∙ e));
        remove_if = λ g bs S a h. image-number g bs S (remove a) ∙ (remove_exactly M (good g) bs (placed g bs S) a).0 (h.0, base-has a bs h.1);
        remove_only = λ g bs S a e.
            let x = (remove_exactly M (good g) bs (placed g bs S) a).1 (sym (image-number g bs S (remove a)) ∙ e) in
            (x.0, has_base a bs x.1);
      }

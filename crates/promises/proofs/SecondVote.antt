-- Demand 2 over the specification, proved for both forms: see `SecondVote` of crates/specification/specs/Votes.antt. Assumes nothing.
use mathlib.Core.Path.{◌≡◌, sym, ◌∙◌}
use mathlib.Core.Bool.{true}
use mathlib.Core.List.{List}
use Prim.Native.Nat.{ℕ, ◌+◌}
use borrow.Author.Tests.{not-false}
use Rattle.number.proofs.TestLaws.{false_of}
use Rattle.map.specs.declared.Form as kind
use Rattle.map.specs.declared.Form.TheVariants.{Player, Desk}
use Rattle.map.specs.FormMap.{under, number_size}
use Rattle.map.specs.Map.{good_map}
use Rattle.types.specs.Block.{Block}
use Rattle.types.specs.Call.{audit, refusal}
use Rattle.plain.specs.Areas.{map_rules}
use Rattle.plain.specs.Rules.{Placed}
use Rattle.plain.proofs.ReadBackLaws.{image-reads}
use Rattle.shadows.specs.Shadows as shadows
use Rattle.shadows.specs.Shadows.{shadow_ops}
use Rattle.shadows.proofs.ShadowLaws.{map-sound, shadow-images}
use Rattle.demands.proofs.Demand2 as demands
use Rattle.specification.specs.Map.{Map, Shadows, right_lengths}
use Rattle.specification.specs.Form.{Form}
use Rattle.specification.specs.Readings.{reading}
use Rattle.specification.specs.Blocks.{contains, find}
use Rattle.specification.specs.PlainList.{totals}
use Rattle.specification.specs.Image.{image}
use Rattle.specification.specs.Audit as audits
use Rattle.specification.specs.Audit.{list_of, is_image}
use Rattle.specification.specs.Call.{call}
use Rattle.specification.specs.Heap.{player}
use Rattle.specification.specs.Desk.{desk}
use Rattle.specification.specs.Looks.{player_looks, desk_looks}
use Rattle.specification.specs.Votes.{number_of, AllBytes, Stands, says, SecondVote}
use Rattle.specification.proofs.Forms.{form}
use Rattle.specification.proofs.BlocksSame.{find-same}
use Rattle.specification.proofs.AuditSame.{of_image, is-image}
use Rattle.specification.proofs.Same.{good-same, lengths-same, reading-same, image_same, stand-placed, placed-stand}
use Rattle.specification.proofs.ByTable.{accepted_only}
use Rattle.promises.proofs.LooksAlike.{looks_by, few_bytes, reads_alike}

module _ (f : kind.Form) (m : Map) where
  abbrev F : Form
  F = form f

  -- ---- the image of a list that may stand

  module _ (g : F.good m ≡ true) (bs : List Block) (st : Stands F m bs) where
    good : good_map (under f m) ≡ true
    good = sym (good-same f m) ∙ g

    placed : Placed (map_rules (under f m)) 0 bs
    placed = stand-placed f m bs 0 st

    same : image F m bs ≡ shadows.image (under f m) bs
    same = image_same f m bs good placed

    fits : (right_lengths m (image F m bs) ≡ true) × AllBytes (image F m bs)
    fits = let (l, h, p, k) = demands.image_shape (under f m) bs in rw (same, lengths-same f m (shadows.image (under f m) bs)) (l, (h, p, k))

    reads : (a : ℕ) → reading F m (image F m bs) a ≡ says a (find (contains a) bs)
    reads a =
        rw (same, reading-same f m (shadows.image (under f m) bs) good a, find-same (contains a) bs)
        (image-reads (map_rules (under f m)) (map-sound (under f m) good) (shadow_ops (under f m)) (shadows.image (under f m)) (shadow-images (under f m) good) bs placed a)

    back : (list_of F m (image F m bs) ≡ bs) × (is_image F m (image F m bs) bs ≡ true)
    back = let (_, l, i) = of_image f m (image F m bs) good (sym (lengths-same f m (image F m bs)) ∙ fits.0) bs placed same in (l, i)

    accepted : call F m audit (image F m bs) ≡ (image F m bs, totals m bs)
    unfolding call audits.audit
    accepted = rw (g, fits.0, back.0, back.1)

  -- ---- shadows that are an image

  module _ (s : Shadows) (g : F.good m ≡ true) (l : right_lengths m s ≡ true) where
    image-of : is_image F m s (list_of F m s) ≡ true → Stands F m (list_of F m s) × (s ≡ image F m (list_of F m s))
    image-of i =
        let k = sym (good-same f m) ∙ g in
        let (p, e) = is-image f m s k (sym (lengths-same f m s) ∙ l) (list_of F m s) i in
        (placed-stand f m (list_of F m s) 0 p, e ∙ sym (image_same f m (list_of F m s) k p))

    refused : ((bs : List Block) → Stands F m bs → s ≡ image F m bs → ⊥) → call F m audit s ≡ (s, refusal 8)
    unfolding call audits.audit
    refused n = rw (g, l, false_of (is_image F m s (list_of F m s)) (λ i. let (st, e) = image-of i in n (list_of F m s) st e))

  only : (s : Shadows) → number_of F m audit s ≡ 0 → (F.good m ≡ true) × ((bs : List Block) × Stands F m bs × (s ≡ image F m bs))
  only s z =
      let h = accepted_only F m audit s z in
      let g = not-false (F.good m) h.0 in
      let (st, e) = image-of s g (not-false (right_lengths m s) h.1.0) (not-false (is_image F m s (list_of F m s)) h.1.1.1.1.1.1.1.0) in
      (g, (list_of F m s, st, e))

  second : SecondVote (number_size f + number_size f + 1) (looks_by f) F m
  second =
      record {
        few_bytes = few_bytes f m;
        reads_alike = λ s t a. reads_alike f m s a t;
        image_fits = fits;
        one_image = λ g bs cs p q e.
            demands.one_image (under f m) (good g bs p) bs cs (placed g bs p) (placed g cs q) (sym (same g bs p) ∙ e ∙ same g cs q);
        reads_list = reads;
        audit_accepts = accepted;
        audit_only = only;
        audit_refuses = λ g s l. refused s g l;
        read_back = λ g bs st. (back g bs st).0;
      }

pub player_second : (m : Map) → SecondVote 9 player_looks player m
player_second m = second Player m

pub desk_second : (m : Map) → SecondVote 17 desk_looks desk m
desk_second m = second Desk m

-- Audit, by the list that readings tell, is the audit by walks of the library's definition; lists that may stand are placed lists. Assumes nothing.
use mathlib.Core.Path.{◌≡◌, refl, sym, ap, ◌∙◌, fun_ext}
use mathlib.Core.Bool.{Bool, true, false, cond, not, ◌&&◌, ◌||◌, true≢false}
use mathlib.Core.List.{List, [], ◌∷◌}
use mathlib.Core.Option.{Option, none, some}
use Prim.Native.Nat.{ℕ, zero, suc, ◌%◌}
use native.Mathlib.Omega.{arith}
use lib.ListN.{length, replicate}
use lib.Dec.{leb, eqb}
use borrow.Author.Tests.{le-leb, leb-true, eq-eqb, eqb-true, not-true}
use Rattle.number.proofs.TestLaws.{Test, is_true, is_false, test, and-true, false_of}
use Rattle.map.specs.declared.Map.{Map}
use Rattle.map.specs.declared.Form as kind
use Rattle.map.specs.FormMap.{under, segment_size}
use Rattle.map.specs.Map.{good_map}
use Rattle.plain.specs.Areas as areas
use Rattle.plain.specs.Areas.{map_rules}
use Rattle.plain.specs.Block.{Block, len}
use Rattle.plain.specs.Call as plain
use Rattle.plain.specs.Ops.{read_any}
use Rattle.plain.specs.ReadBack.{collect, read_back}
use Rattle.plain.specs.Reading.{Reading, Tally, tally_of}
use Rattle.plain.specs.Rules.{Rules, Placed}
use Rattle.plain.proofs.ReadBackLaws.{read-image}
use Rattle.shadows.specs.Shadows as shadows
use Rattle.shadows.specs.Shadows.{lengths_fit, shadow_ops}
use Rattle.shadows.proofs.ShadowLaws.{fit-true, map-sound, shadow-images, shadow-scanned}
use Rattle.monitor_base.specs.Calls as base
use Rattle.specification.specs.Map.{Shadows, in_heap, end_of_areas}
use Rattle.specification.specs.Form.{Form}
use Rattle.specification.specs.Footprint.{fits}
use Rattle.specification.specs.Image.{all_true, may_stand, image}
use Rattle.specification.specs.Audit.{list_from, list_of, same_bytes, same_shadows, is_image, audit}
use Rattle.specification.proofs.Forms.{form}
use Rattle.specification.proofs.MapSame.{good-same, lengths-same}
use Rattle.specification.proofs.CallSame.{reading-same}
use Rattle.specification.proofs.ListSame.{fits-same, totals-same}
use Rattle.specification.proofs.ImageSame.{image_same}

-- ---- the list that is read back

list-from : (rd : ℕ → Reading) (a n : ℕ) → list_from rd a n ≡ collect rd a n
unfolding list_from collect
list-from rd a zero = refl
list-from rd a (suc n) = rw (list-from rd (suc a) n)

read_back_lem : (f : kind.Form) (m : Map) (s : Shadows) → good_map (under f m) ≡ true → list_of (form f) m s ≡ read_back (map_rules (under f m)) (shadow_ops (under f m)) s
read_back_lem f m s g =
    ap (λ (rd : ℕ → Reading). list_from rd 0 (end_of_areas m)) (fun_ext (reading-same f m s g))
    ∙ list-from (read_any (map_rules (under f m)) (shadow_ops (under f m)) s) 0 (end_of_areas m)

-- ---- equal bytes

same_self : (l : List ℕ) → same_bytes l l ≡ true
unfolding same_bytes
same_self [] = refl
same_self (x ∷ l) = rw (eq-eqb x x refl, same_self l)

same-equal : (k l : List ℕ) → same_bytes k l ≡ true → k ≡ l
unfolding same_bytes
same-equal [] [] e = refl
same-equal [] (y ∷ l) e = absurd (true≢false (sym e))
same-equal (x ∷ k) [] e = absurd (true≢false (sym e))
same-equal (x ∷ k) (y ∷ l) e = let t = and-true (eqb x y) (same_bytes k l) e in rw (eqb-true x y t.0, same-equal k l t.1)

all-written : (l : List Bool) → all_true l ≡ true → l ≡ replicate (length l) true
unfolding all_true
all-written [] e = refl
all-written (x ∷ l) e = let t = and-true x (all_true l) e in rw t.0 (ap (λ (k : List Bool). true ∷ k) (all-written l t.1))

written_all : (n : ℕ) → all_true (replicate n true) ≡ true
unfolding all_true
written_all zero = refl
written_all (suc n) = written_all n

-- ---- blocks that may stand

-- t and u are never both true; u is true where t is; each as a test and as a fact
never : (t u : Bool) → not (t && u) ≡ true → t ≡ true → u ≡ false
never t u e f = not-true u (rw f at e)

is_never : (t u : Bool) → (t ≡ true → u ≡ false) → not (t && u) ≡ true
is_never true u f = rw (f refl)
is_never false u f = refl

implied : (t u : Bool) → (not t || u) ≡ true → t ≡ true → u ≡ true
implied t u e f = rw f at e

is-implied : (t u : Bool) → (t ≡ true → u ≡ true) → (not t || u) ≡ true
is-implied true u f = f refl
is-implied false u f = refl

aligned-tests : (i x : Bool) → (not i || x) ≡ cond i x true
aligned-tests true x = refl
aligned-tests false x = refl

module _ (f : kind.Form) (m : Map) where
  abbrev F : Form
  F = form f

  abbrev R : Rules
  R = map_rules (under f m)

  pub stand-placed : (bs : List Block) (from : ℕ) → may_stand F m from bs ≡ true → Placed R from bs
  unfolding may_stand areas.segments
  stand-placed [] from e = tt
  stand-placed (b ∷ bs) from e =
      let (e₁, k) = and-true _ (may_stand F m _ bs) e in
      let (e₂, room) = and-true _ (leb from _) e₁ in
      let (e₃, lit) = and-true _ (not b.literal || all_true b.marks) e₂ in
      let (e₄, ali) = and-true _ (not (in_heap m b.base) || eqb (b.base % segment_size f) 0) e₃ in
      let (one, fit) = and-true (leb 1 (len b)) (fits F m b.literal b.base (len b)) e₄ in
      let (fit', low) = and-true (R.fits b.base (len b)) (not (b.literal && R.heap b.base)) (sym (fits-same f m b.literal b.base (len b)) ∙ fit) in
      record {
        some = leb-true 1 (len b) one;
        fits = fit';
        aligned = sym (aligned-tests (in_heap m b.base) (eqb (b.base % segment_size f) 0)) ∙ ali;
        proper = λ t. (never b.literal (R.heap b.base) low t, all-written b.marks (implied b.literal (all_true b.marks) lit t));
        room = leb-true from _ room;
        later = stand-placed bs _ k;
      }

  pub placed-stand : (bs : List Block) (from : ℕ) → Placed R from bs → may_stand F m from bs ≡ true
  unfolding may_stand areas.segments
  placed-stand [] from p = refl
  placed-stand (b ∷ bs) from p =
      rw (
        le-leb 1 (len b) p.some,
        fits-same f m b.literal b.base (len b),
        p.fits,
        is_never b.literal (R.heap b.base) (λ t. (p.proper t).0),
        aligned-tests (in_heap m b.base) (eqb (b.base % segment_size f) 0) ∙ p.aligned,
        is-implied b.literal (all_true b.marks) (λ t. ap all_true (p.proper t).1 ∙ written_all (len b)),
        le-leb from _ p.room,
        placed-stand bs _ p.later,
      )

parts : (s t : Shadows) → s.0 ≡ t.0 → s.1.0 ≡ t.1.0 → s.1.1 ≡ t.1.1 → s ≡ t
parts s t e k g = λ j. (e j, (k j, g j))

-- ---- the call

module _ (f : kind.Form) (m : Map) (s : Shadows) (g : good_map (under f m) ≡ true) (fit : lengths_fit (under f m) s ≡ true) where
  abbrev P : Form
  P = form f

  -- a list whose image the shadows are
  pub of_image : (bs : List Block) → Placed (map_rules (under f m)) 0 bs → s ≡ shadows.image (under f m) bs
      → ((shadow_ops (under f m)).audit s ≡ some (tally_of (map_rules (under f m)) bs)) × (list_of P m s ≡ bs) × (is_image P m s bs ≡ true)
  of_image bs p e =
      let I = shadow-images (under f m) g in
      let x : image P m bs ≡ s = image_same f m bs g p ∙ sym e in (
        rw e (I.image_audit bs p),
        read_back_lem f m s g ∙ rw e (read-image (map_rules (under f m)) (map-sound (under f m) g) (shadow_ops (under f m)) (shadows.image (under f m)) I bs p),
        rw (placed-stand f m bs 0 p, x, same_self s.0, same_self s.1.0, same_self s.1.1),
      )

  pub is-image : (bs : List Block) → is_image P m s bs ≡ true → Placed (map_rules (under f m)) 0 bs × (s ≡ shadows.image (under f m) bs)
  is-image bs e =
      let (may, sam) = and-true (may_stand P m 0 bs) (same_shadows (image P m bs) s) e in
      let p = stand-placed f m bs 0 may in
      let i = image P m bs in
      let (hk, c) = and-true (same_bytes i.0 s.0 && same_bytes i.1.0 s.1.0) (same_bytes i.1.1 s.1.1) sam in
      let (h, k) = and-true (same_bytes i.0 s.0) (same_bytes i.1.0 s.1.0) hk in
      let x : i ≡ s = parts i s (same-equal i.0 s.0 h) (same-equal i.1.0 s.1.0 k) (same-equal i.1.1 s.1.1 c) in
      (p, sym x ∙ image_same f m bs g p)

  counted : (bs : List Block) → (shadow_ops (under f m)).audit s ≡ some (tally_of (map_rules (under f m)) bs) → list_of P m s ≡ bs → is_image P m s bs ≡ true
      → audit P m s ≡ base.call (under f m) plain.audit s
  unfolding audit base.call
  counted bs a l i = rw (good-same f m, lengths-same f m s, a, l, i, totals-same f m bs)

  no-image : (shadow_ops (under f m)).audit s ≡ none → is_image P m s (list_of P m s) ≡ false → audit P m s ≡ base.call (under f m) plain.audit s
  unfolding audit base.call
  no-image a i = rw (good-same f m, lengths-same f m s, g, fit, a, i)

  audit-fit : audit P m s ≡ base.call (under f m) plain.audit s
  audit-fit = go ((shadow_ops (under f m)).audit s) refl
    where
      go : (o : Option Tally) → (shadow_ops (under f m)).audit s ≡ o → audit P m s ≡ base.call (under f m) plain.audit s
      go (some t) e =
          let (bs, p, i) = (shadow-scanned (under f m) g).scanned s t (fit-true (under f m) s fit) e in
          let (x, y, z) = of_image bs p i in
          counted bs x y z
      go none e =
          no-image e (false_of (is_image P m s (list_of P m s)) (λ i.
          let (p, j) = is-image (list_of P m s) i in
          let (x, y, z) = of_image (list_of P m s) p j in
          let w : none ≡ some (tally_of (map_rules (under f m)) (list_of P m s)) = sym e ∙ x in
          let q : ◌≡◌ {A = ℕ} 0 1 = cc in
          omega arith))

pub audit-same : (f : kind.Form) (m : Map) (s : Shadows) → good_map (under f m) ≡ true → audit (form f) m s ≡ base.call (under f m) plain.audit s
unfolding audit base.call
audit-same f m s g = go (test (lengths_fit (under f m) s))
  where
    go : Test (lengths_fit (under f m) s) → audit (form f) m s ≡ base.call (under f m) plain.audit s
    go (is_false k) = rw (good-same f m, lengths-same f m s, g, k)
    go (is_true k) = audit-fit f m s g k

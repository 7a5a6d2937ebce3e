-- A list of blocks has one image, and what an audit accepts is the image of the list that its readings tell. Assumes nothing.
use mathlib.Core.Path.{◌≡◌, sym, ap, ◌∙◌, subst}
use mathlib.Core.List.{List}
use mathlib.Core.Option.{some}
use Rattle.plain.specs.Block.{Block}
use Rattle.plain.specs.Rules.{Rules, Placed, Sound}
use Rattle.plain.specs.Reading.{Tally, tally_of}
use Rattle.plain.specs.Ops.{Ops}
use Rattle.plain.specs.Images.{Images, Scanned}
use Rattle.plain.specs.ReadBack.{read_back}
use Rattle.plain.proofs.ReadBackLaws.{read-image}

module _ (R : Rules) (G : Sound R) {S : Type 0} (O : Ops S) (image : List Block → S) (I : Images R O image) where
  -- two placed lists with one image are one list
  pub one_image : (bs cs : List Block) → Placed R 0 bs → Placed R 0 cs → image bs ≡ image cs → bs ≡ cs
  one_image bs cs P Q e = sym (read-image R G O image I bs P) ∙ ap (read_back R O) e ∙ read-image R G O image I cs Q

  module _ (Fit : S → Type 0) (C : Scanned R O image Fit) (s : S) (t : Tally) (fit : Fit s) (e : O.audit s ≡ some t) where
    -- a state that an audit accepts is the image of a placed list, whose totals the audit tells
    pub audit-image : (bs : List Block) × Placed R 0 bs × (s ≡ image bs) × (t ≡ tally_of R bs)
    audit-image =
        let r = C.scanned s t fit e in
        let u : O.audit (image r.0) ≡ some t = ap O.audit (sym r.2) ∙ e in
        let v = I.image_audit r.0 r.1 in
        (r.0, r.1, r.2, (cc))

    -- that list is the one that the readings tell
    pub read_back_lem : Placed R 0 (read_back R O s) × (image (read_back R O s) ≡ s)
    read_back_lem =
        let r = audit-image in
        let q : read_back R O s ≡ r.0 = ap (read_back R O) r.2 ∙ read-image R G O image I r.0 r.1 in
        (subst (λ (l : List Block). Placed R 0 l) (sym q) r.1, ap image q ∙ sym r.2)

-- The check of a record in this form, and what the record comes to by its number. Assumes nothing.
use mathlib.Core.Path.{◌≡◌, refl, sym, ap, ◌∙◌}
use mathlib.Core.Bool.{Bool, true, false, cond, not, ◌&&◌, ◌||◌}
use mathlib.Core.Logic.{◌≢◌}
use Prim.Native.Nat.{ℕ, suc, ◌≤◌}
use native.Mathlib.Omega.{arith}
use lib.Dec.{leb, eqb}
use borrow.Author.Tests.{leb-true, eqb-true, eqb-false, ne_eqb}
use Rattle.number.proofs.TestLaws.{Test, is_true, is_false, test, and-true}
use Rattle.map.specs.declared.Map.{Map}
use Rattle.map.specs.FormMap.{player}
use Rattle.map.specs.Map.{good_map}
use Rattle.types.specs.declared.Beginning.{Beginning}
use Rattle.plain.specs.Block.{begun}
use Rattle.plain.specs.Areas.{map_rules}
use Rattle.plain.specs.Call.{Answer, begin, refusal, done, first_of, unless, allows}
use Rattle.shadows.specs.Shadows.{Shadows, lengths_fit, shadow_ops}
use Rattle.map.specs.Locating.{Lies}
use Rattle.map.specs.declared.Located.{Located}
use Rattle.map.specs.declared.Located.TheVariants.{Outside}
use Rattle.monitor_write_laws.specs.Checks as checks
use Rattle.monitor_write_laws.specs.Checks.{Stampable, stamped_at}
use Rattle.plain.proofs.RunLaws.{unless-number}
use Rattle.monitor_write_laws.proofs.CheckLaws.{told, call-first, number-good, call-accepted}
use Rattle.monitor_write_laws.proofs.RecordChecks.{record-done}
use Rattle.origins_list.specs.Call.{plain, is_cell, is_origin}
use Rattle.cells_layout.specs.Cells.{Cells, cells_fit, cell_ops}
use Rattle.origins_base.specs.Calls.{State, refusals, call}
use Rattle.origins_laws.specs.CellsAt.{CellAt, set_origin_at}
use Rattle.origins_laws.proofs.AtLaws.{set-origin-at, cell_at}
use Rattle.origins_laws.proofs.PlainLaws.{state_of, told-unfit}
use Rattle.origins_write_laws.specs.Checks.{number_of, decided_by, counted}
use Rattle.origins_write_laws.proofs.NumberLaws.{by_number, by_zero}

-- ---- the order of the numbers

-- by all tests but that of the cells: map, lengths; length, area, alignment; the base's cell, vacancy, counter
tests : (g l e f a i v o : Bool)
    → ◌≡◌ {A = ℕ} (cond (not g) 1 (cond (not l) 2 (cond e 3 (cond (not f) 4 (cond (not a) 5 (cond (not i) 5 (cond (not v) 6 (cond (not o) 12 0))))))))
    (let j = cond (not g) 1 (cond (not l) 2 (cond e 3 (cond (not f) 4 (cond (not a) 5 (cond (not v) 6 0))))) in
    cond ((eqb j 0 || eqb j 6) && not i) 5 (cond (eqb j 0 && not o) 12 j))
tests false l e f a i v o = refl
tests true false e f a i v o = refl
tests true true true f a i v o = refl
tests true true false false a i v o = refl
tests true true false true false i v o = refl
tests true true false true true false false o = refl
tests true true false true true false true o = refl
tests true true false true true true false o = refl
tests true true false true true true true false = refl
tests true true false true true true true true = refl

-- nothing is refused: the plain form refuses nothing, the base is that of a cell and the counter an origin
none_of : (j b k : ℕ) → decided_by j b k ≡ 0 → (j ≡ 0) × (is_cell b ≡ true) × (is_origin k ≡ true)
none_of j b k = go (eqb j 0) (eqb j 6) (is_cell b) (is_origin k) refl
  where
    go : (nil six i o : Bool) → eqb j 0 ≡ nil → cond ((nil || six) && not i) 5 (cond (nil && not o) 12 j) ≡ 0 → (j ≡ 0) × (i ≡ true) × (o ≡ true)
    go true six false o r z = absurd (omega (arith, z))
    go true six true false r z = absurd (omega (arith, z))
    go true six true true r z = (eqb-true j 0 r, refl, refl)
    go false true false o r z = absurd (omega (arith, z))
    go false true true o r z = absurd (eqb-false j 0 r z)
    go false false i o r z = absurd (eqb-false j 0 r z)

-- a block can be stamped in an area only
in_area : (x : Located) (l : ℕ) (s : Shadows) → Stampable 8 x l s → x ≡ Outside → ⊥
in_area x l s t e = rw e at t

module _ (m : Map) (s : Shadows) (y : Cells) (k : ℕ) (how : Beginning) (b l : ℕ) where
  abbrev state : State
  state = state_of s y k

  abbrev first : ℕ
  first = first_of (refusals m (plain (begin how b l)) state)

  abbrev after : State
  after = state_of ((shadow_ops (player m)).stamp s (begun how b l)) ((cell_ops m).set_origin y b k) (suc k)

  is-first : call m (plain (begin how b l)) state ≡ unless first state (after, done)
  unfolding call
  is-first = refl

  is_number : number_of m (plain (begin how b l)) state ≡ first
  is_number = ap told is-first ∙ unless-number first state (after, done) refl

  -- cells that do not fit
  pub record-unfit : cells_fit m y ≡ false → (j : ℕ) → j ≡ cond (good_map (player m)) 2 1 → (j ≡ number_of m (plain (begin how b l)) state) × (j ≢ 0)
  record-unfit f j e = (ap told (told-unfit m (plain (begin how b l)) state f j e (refusal j) refl), go (test (good_map (player m))))
    where
      go : Test (good_map (player m)) → j ≢ 0
      go (is_true g) z = let q : j ≡ 2 = rw g at e in omega arith
      go (is_false g) z = let q : j ≡ 1 = rw g at e in omega arith

  module _ (fit : cells_fit m y ≡ true) (j : ℕ) (e : j ≡ checks.number_of (player m) (begin how b l) s) where
    -- the number is decided by the plain form's
    pub record-number : decided_by j b k ≡ number_of m (plain (begin how b l)) state
    record-number =
        sym (is_number
        ∙ rw fit
        (tests (good_map (player m)) (lengths_fit (player m) s) (eqb l 0) (allows (map_rules (player m)) how b l) ((map_rules (player m)).aligned b) (is_cell b) ((shadow_ops (player m)).vacant s b l) (is_origin k))
        ∙ ap (λ (i : ℕ). decided_by i b k) (sym (e ∙ call-first (player m) (begin how b l) s refl)))

    -- where it is 0, so is the plain form's, and there is room for the origin in the cell of the base
    pub record-ready : decided_by j b k ≡ 0 → (j ≡ 0) × (k ≤ 4294967295) × ((x : Located) → Lies m b x → Stampable 8 x l s → CellAt x y)
    record-ready z =
        let d = none_of j b k z in
        let g = number-good (player m) (begin how b l) s refl (sym e ∙ d.0) in (
          d.0,
          leb-true k 4294967295 (and-true (leb 1 k) (leb k 4294967295) d.2).1,
          λ x lies t. cell_at m s y g.0 g.1 fit b x lies (in_area x l s t),
        )

  -- ---- the call, by the number that the check gave

  module _ (j : ℕ) (e : j ≡ number_of m (plain (begin how b l)) state) where
    pub record-refused : j ≢ 0 → ◌≡◌ {A = State × Answer} (state_of s y (counted j k), refusal j) (call m (plain (begin how b l)) state)
    record-refused n = sym (is-first ∙ by_number state first j (after, done) (e ∙ is_number) n ∙ rw (ne_eqb j 0 n))

    pub record-accepted : j ≡ 0 → checks.number_of (player m) (begin how b l) s ≡ 0 → (x : Located) → Lies m b x → Stampable 8 x l s
        → (t : Shadows) → t ≡ stamped_at 4 8 x how l s → (z : Cells) → z ≡ set_origin_at x k y
        → ◌≡◌ {A = State × Answer} (state_of t z (counted j k), refusal j) (call m (plain (begin how b l)) state)
    record-accepted i p x lies st t f z g =
        let stamped : t ≡ (shadow_ops (player m)).stamp s (begun how b l) =
        ap (λ (r : Shadows × Answer). r.0) (record-done (player m) s b l how 0 (sym p) refl x lies t f ∙ call-accepted (player m) (begin how b l) s refl p) in
        let based : z ≡ (cell_ops m).set_origin y b k = g ∙ sym (set-origin-at m y b x k lies (in_area x l s st)) in
        sym (is-first ∙ by_zero state first (after, done) (sym (e ∙ is_number) ∙ i) ∙ rw (stamped, based, i))

-- an answer and a counter that are those of a number
pub record-told : (s : Shadows) (y : Cells) (k j : ℕ) (r : State × Answer) (n : ℕ) (a : Answer) → (n ≡ counted j k) × (a ≡ refusal j)
    → ◌≡◌ {A = State × Answer} (state_of s y (counted j k), refusal j) r → ◌≡◌ {A = State × Answer} (state_of s y n, a) r
record-told s y k j r n a e f =
    ap (λ (i : ℕ). (state_of s y i, a)) e.0 ∙ (ap (λ (b : Answer). (state_of s y (counted j k), b)) e.1 ∙ f)

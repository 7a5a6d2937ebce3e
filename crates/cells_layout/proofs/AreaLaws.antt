-- The cells of one area of any start and size that are multiples of 4: what an operation makes of the image of what they hold. Origin and referent
-- are one law, over the half. Assumes nothing.
use mathlib.Core.Path.{◌≡◌, refl, sym, ap, ◌∙◌}
use mathlib.Core.Bool.{Bool, true, false, cond, not, ◌&&◌, false≢true}
use Prim.Native.Nat.{ℕ, ◌+◌, ◌*◌, ◌-◌, ◌/◌, ◌%◌, ◌≤◌, ◌<◌}
use native.Mathlib.Omega.{arith}
use native.Mathlib.Nat.{add-sub_cancel_left}
use lib.ListN.{length, replicate}
use lib.Dec.{ltb, eqb}
use borrow.Author.Tests.{lt-ltb, le-ltb, eq-eqb, ne_eqb, ltb-true, ltb-false, eqb-true}
use Rattle.number.specs.Little.{Bytes, byte_of}
use Rattle.number.specs.Parts.{at, tab, in_part}
use Rattle.number.proofs.TestLaws.{and-true, same_test, false_of, eqb_same, in-true, in-facts}
use Rattle.number.proofs.LittleLaws.{byte_of-lt, byte_of-zero, bytes-tab, word_of}
use Rattle.number.proofs.PartLaws.{length-tab, at-tab, tab-ext, tab-zero, over-tab}
use Rattle.origins_list.specs.Cells.{Held, empty, put, touches, cut, cell_of, Small}
use Rattle.cells_layout.specs.Area.{origin_place, referent_place, half_at, set_half, zero_cells, area_image}

-- ---- a half of a cell: its origin, or its referent

abbrev pub place_of : (origin : Bool) (p : ℕ) → ℕ
place_of o p = cond o (origin_place p) (referent_place p)

abbrev pub half_of : (origin : Bool) → (origins referents : Held) → Held
half_of o f g x = cond o (f x) (g x)

abbrev pub put_if : Bool → (cell value : ℕ) → Held → Held
put_if t c v f x = cond t (put c v f x) (f x)

-- byte q lies in the halves of that kind
abbrev in_half : (origin : Bool) (q : ℕ) → Bool
in_half o q = cond o (ltb (q % 8) 4) (not (ltb (q % 8) 4))

abbrev image_byte : (start : ℕ) → (origins referents : Held) → ℕ → ℕ
image_byte s f g q = byte_of (half_of (ltb (q % 8) 4) f g (s + q / 8 * 4)) (q % 4)

in-half : (o : Bool) (p q : ℕ) → in_part (place_of o p) 4 q ≡ (in_half o q && eqb (q / 8) (p / 4))
in-half true p q =
    same_test (in_part (p / 4 * 8) 4 q) (in_half true q && eqb (q / 8) (p / 4))
    (λ e. let t = in-facts (p / 4 * 8) (p / 4 * 8 + 4) q e in rw (lt-ltb (q % 8) 4 (omega arith), eq-eqb (q / 8) (p / 4) (omega arith)))
    (λ e.
    let t = and-true (ltb (q % 8) 4) (eqb (q / 8) (p / 4)) e in
    let h = ltb-true (q % 8) 4 t.0 in
    let k = eqb-true (q / 8) (p / 4) t.1 in
    in-true (p / 4 * 8) (p / 4 * 8 + 4) q (omega arith) (omega arith))
in-half false p q =
    same_test (in_part (p / 4 * 8 + 4) 4 q) (in_half false q && eqb (q / 8) (p / 4))
    (λ e. let t = in-facts (p / 4 * 8 + 4) (p / 4 * 8 + 4 + 4) q e in rw (le-ltb (q % 8) 4 (omega arith), eq-eqb (q / 8) (p / 4) (omega arith)))
    (λ e.
    let t = and-true (not (ltb (q % 8) 4)) (eqb (q / 8) (p / 4)) e in
    let h = ltb-false (q % 8) 4 (not-true (ltb (q % 8) 4) t.0) in
    let k = eqb-true (q / 8) (p / 4) t.1 in
    in-true (p / 4 * 8 + 4) (p / 4 * 8 + 4 + 4) q (omega arith) (omega arith))
  where
    not-true : (b : Bool) → not b ≡ true → b ≡ false
    not-true true e = sym e
    not-true false e = refl

-- a byte of a half, from the half's first on
in-offset : (o : Bool) (p q : ℕ) → in_part (place_of o p) 4 q ≡ true → q - place_of o p ≡ q % 4
in-offset true p q e = let t = in-facts (p / 4 * 8) (p / 4 * 8 + 4) q e in omega arith
in-offset false p q e = let t = in-facts (p / 4 * 8 + 4) (p / 4 * 8 + 4 + 4) q e in omega arith

half-byte : (s : ℕ) (o : Bool) (f g : Held) (p i : ℕ) → i < 4 → image_byte s f g (place_of o p + i) ≡ byte_of (half_of o f g (s + p / 4 * 4)) i
half-byte s o f g p i h =
    let q : ℕ = place_of o p + i in
    let w : in_part (place_of o p) 4 q ≡ true = in-true (place_of o p) (place_of o p + 4) q (omega arith) (omega arith) in
    let t = and-true (in_half o q) (eqb (q / 8) (p / 4)) (sym (in-half o p q) ∙ w) in
    let r : q % 4 ≡ i = sym (in-offset o p q w) ∙ add-sub_cancel_left (place_of o p) i in
    rw (r, eqb-true (q / 8) (p / 4) t.1, same_half o (ltb (q % 8) 4) (f (s + p / 4 * 4)) (g (s + p / 4 * 4)) t.0)
  where
    same_half : (o h : Bool) (x y : ℕ) → cond o h (not h) ≡ true → cond h x y ≡ cond o x y
    same_half true true x y e = refl
    same_half true false x y e = absurd (false≢true e)
    same_half false true x y e = absurd (false≢true e)
    same_half false false x y e = refl

half-end : (o : Bool) (z p i : ℕ) → z % 4 ≡ 0 → p < z → i < 4 → place_of o p + i < 2 * z
half-end true z p i e h k = omega arith
half-end false z p i e h k = omega arith

-- ---- one byte of the image, after an operation

put_byte : (s : ℕ) → s % 4 ≡ 0 → (o : Bool) (f g : Held) (a v : ℕ) → s ≤ a → (q : ℕ)
    → cond (in_part (place_of o (a - s)) 4 q) (byte_of v (q - place_of o (a - s))) (image_byte s f g q)
    ≡ image_byte s (put_if o (cell_of a) v f) (put_if (not o) (cell_of a) v g) q
put_byte s es o f g a v h q =
    let x : ℕ = s + q / 8 * 4 in
    let e : eqb x (cell_of a) ≡ eqb (q / 8) ((a - s) / 4) = eqb_same x (cell_of a) (q / 8) ((a - s) / 4) (λ k. omega arith) (λ k. omega arith) in
    rw (in-half o (a - s) q, e)
    (choose o (ltb (q % 8) 4) (eqb (q / 8) ((a - s) / 4)) v (f x) (g x) (byte_of v (q - place_of o (a - s))) (q % 4)
    (λ t. ap (byte_of v) (in-offset o (a - s) q (in-half o (a - s) q ∙ t))))
  where
    choose : (o h e : Bool) (v x y b r : ℕ) → ((cond o h (not h) && e) ≡ true → b ≡ byte_of v r)
        → cond (cond o h (not h) && e) b (byte_of (cond h x y) r) ≡ byte_of (cond h (cond o (cond e v x) x) (cond (not o) (cond e v y) y)) r
    choose true true true v x y b r k = k refl
    choose true true false v x y b r k = refl
    choose true false e v x y b r k = refl
    choose false true e v x y b r k = refl
    choose false false true v x y b r k = k refl
    choose false false false v x y b r k = refl

none-byte : (h : Bool) (r : ℕ) → byte_of (cond h 0 0) r ≡ 0
none-byte true r = byte_of-zero r
none-byte false r = byte_of-zero r

cut-byte : (s : ℕ) → s % 4 ≡ 0 → (f g : Held) (b l : ℕ) → s ≤ b → 1 ≤ l → (q : ℕ)
    → cond (in_part ((b - s) / 4 * 8) (((b - s + l + 3) / 4 - (b - s) / 4) * 8) q) 0 (image_byte s f g q) ≡ image_byte s (cut b l f) (cut b l g) q
cut-byte s es f g b l h n q =
    let x : ℕ = s + q / 8 * 4 in
    rw touched (choose (touches b l x) (ltb (q % 8) 4) (f x) (g x) (q % 4))
  where
    lo : ℕ
    lo = (b - s) / 4 * 8

    len : ℕ
    len = ((b - s + l + 3) / 4 - (b - s) / 4) * 8

    touched : in_part lo len q ≡ touches b l (s + q / 8 * 4)
    touched =
        same_test (in_part lo len q) (touches b l (s + q / 8 * 4))
        (λ e. let t = in-facts lo (lo + len) q e in rw (lt-ltb (s + q / 8 * 4) (b + l) (omega arith), lt-ltb b (s + q / 8 * 4 + 4) (omega arith)))
        (λ e.
        let t = and-true (ltb (s + q / 8 * 4) (b + l)) (ltb b (s + q / 8 * 4 + 4)) e in
        let x = ltb-true (s + q / 8 * 4) (b + l) t.0 in
        let y = ltb-true b (s + q / 8 * 4 + 4) t.1 in
        in-true lo (lo + len) q (omega arith) (omega arith))

    choose : (t h : Bool) (x y r : ℕ) → cond t 0 (byte_of (cond h x y) r) ≡ byte_of (cond h (cond t 0 x) (cond t 0 y)) r
    choose true h x y r = sym (none-byte h r)
    choose false h x y r = refl

-- ---- lengths

pub length-area : (s z : ℕ) (f g : Held) → length (area_image s z f g) ≡ 2 * z
unfolding area_image
length-area s z f g = length-tab 0 (2 * z) _

-- ---- the image

pub area-bytes : (s z : ℕ) (f g : Held) → Bytes (area_image s z f g)
unfolding area_image
area-bytes s z f g = bytes-tab (image_byte s f g) (λ q. byte_of-lt (half_of (ltb (q % 8) 4) f g (s + q / 8 * 4)) (q % 4)) (2 * z) 0

pub area-cleared : (s z : ℕ) → area_image s z empty empty ≡ replicate (2 * z) 0
unfolding area_image
area-cleared s z = tab-zero (2 * z) 0 (image_byte s empty empty) (λ q. none-byte (ltb (q % 8) 4) (q % 4))

module _ (s z : ℕ) (es : s % 4 ≡ 0) (ez : z % 4 ≡ 0) where
  -- nothing but what the area's own cells hold is in the image
  pub area_same : (f g f' g' : Held) → ((c : ℕ) → s ≤ c → c + 4 ≤ s + z → f c ≡ f' c) → ((c : ℕ) → s ≤ c → c + 4 ≤ s + z → g c ≡ g' c)
      → area_image s z f g ≡ area_image s z f' g'
  unfolding area_image
  area_same f g f' g' hf hg =
      tab-ext (2 * z) 0 (image_byte s f g) (image_byte s f' g')
      (λ q x y. rw (hf (s + q / 8 * 4) (omega arith) (omega arith), hg (s + q / 8 * 4) (omega arith) (omega arith)))

  pub area-half : (o : Bool) (f g : Held) → Small (half_of o f g) → (a : ℕ) → s ≤ a → a < s + z
      → half_at (area_image s z f g) (place_of o (a - s)) ≡ half_of o f g (cell_of a)
  unfolding area_image
  area-half o f g small a h k =
      let c : s + (a - s) / 4 * 4 ≡ cell_of a = omega arith in
      word_of (at (tab 0 (2 * z) (image_byte s f g))) 4 (place_of o (a - s)) (half_of o f g (cell_of a))
      (λ i j. at-tab (2 * z) (place_of o (a - s) + i) (image_byte s f g) (half-end o z (a - s) i ez (omega arith) j)
      ∙ half-byte s o f g (a - s) i j ∙ ap (λ x. byte_of (half_of o f g x) i) c)
      (small (cell_of a))

  pub area-put : (o : Bool) (f g : Held) (a v : ℕ) → s ≤ a
      → set_half (area_image s z f g) (place_of o (a - s)) v ≡ area_image s z (put_if o (cell_of a) v f) (put_if (not o) (cell_of a) v g)
  unfolding area_image set_half
  area-put o f g a v h =
      over-tab (2 * z) (place_of o (a - s)) 4 (λ i. byte_of v (i - place_of o (a - s))) (image_byte s f g)
      (image_byte s (put_if o (cell_of a) v f) (put_if (not o) (cell_of a) v g)) (put_byte s es o f g a v h)

  pub area-zeroed : (f g : Held) (b l : ℕ) → s ≤ b → 1 ≤ l → zero_cells (area_image s z f g) (b - s) l ≡ area_image s z (cut b l f) (cut b l g)
  unfolding area_image zero_cells
  area-zeroed f g b l h n =
      over-tab (2 * z) ((b - s) / 4 * 8) (((b - s + l + 3) / 4 - (b - s) / 4) * 8) (λ i. 0) (image_byte s f g) (image_byte s (cut b l f) (cut b l g))
      (cut-byte s es f g b l h n)

  -- a cell that is not the area's
  pub other-put : (t u : Bool) (f g : Held) (a v : ℕ) → (s ≤ a → a < s + z → ⊥)
      → area_image s z f g ≡ area_image s z (put_if t (cell_of a) v f) (put_if u (cell_of a) v g)
  other-put t u f g a v n =
      area_same f g (put_if t (cell_of a) v f) (put_if u (cell_of a) v g) (λ c x y. stays t f c x y) (λ c x y. stays u g c x y)
    where
      stays : (t : Bool) (f : Held) (c : ℕ) → s ≤ c → c + 4 ≤ s + z → f c ≡ put_if t (cell_of a) v f c
      stays true f c x y = rw (ne_eqb c (cell_of a) (λ e. n (omega arith) (omega arith)))
      stays false f c x y = refl

  -- a block that shares no byte with the area
  pub other-zeroed : (f g : Held) (b l : ℕ) → (b < s + z → s < b + l → ⊥) → area_image s z f g ≡ area_image s z (cut b l f) (cut b l g)
  other-zeroed f g b l n = area_same f g (cut b l f) (cut b l g) (λ c x y. stays f c x y) (λ c x y. stays g c x y)
    where
      stays : (f : Held) (c : ℕ) → s ≤ c → c + 4 ≤ s + z → f c ≡ cut b l f c
      stays f c x y =
          let e : touches b l c ≡ false =
          false_of (touches b l c) (λ e.
          let t = and-true (ltb c (b + l)) (ltb b (c + 4)) e in
          n (omega (arith, ltb-true b (c + 4) t.1)) (omega (arith, ltb-true c (b + l) t.0))) in
          rw e

-- The audit's walk finds a list of blocks exactly where the shadows are its image. Assumes nothing.
use mathlib.Core.Path.{◌≡◌, refl, sym, ap, ◌∙◌, subst}
use mathlib.Core.Logic.{◌≢◌}
use mathlib.Core.Bool.{Bool, true, false, cond, ◌&&◌, ◌||◌}
use mathlib.Core.List.{List, [], ◌∷◌}
use Prim.Native.Nat.{ℕ, zero, suc, ◌+◌, ◌-◌, ◌/◌, ◌%◌, ◌^◌, ◌≤◌, ◌<◌}
use native.Mathlib.Omega.{arith}
use native.Mathlib.Nat.{add-zero, zero-add}
use lib.ListN.{length}
use lib.Dec.{leb, ltb, eqb}
use borrow.Author.Tests.{le-leb, lt-leb, eq-eqb, ne_eqb, ltb-true, ltb-false, leb-true, leb-false, eqb-true, eqb-false}
use Rattle.number.specs.Little.{word}
use Rattle.number.specs.Bits.{bit}
use Rattle.number.proofs.TestLaws.{Test, is_true, is_false, test, and-true}
use Rattle.number.proofs.BitLaws.{bit-back}
use Rattle.plain.specs.Block.{Block, len}
use Rattle.plain.specs.Rules.{Placed}
use Rattle.plain.specs.Areas.{stack_rules}
use Rattle.plain.specs.Found.{Found, bad, got, goes_on, begins}
use Rattle.plain.proofs.AreaLaws.{stack-span}
use Rattle.stack_layout.specs.Code.{short_code, piece_of, code_of, low_bits, primary_of, secondary_of, short_length}
use Rattle.stack_layout.specs.Image.{primary_byte, secondary_byte}
use Rattle.stack_layout.specs.Walk.{is_clear, is_marked, says_literal, is_byte, length_at, stack_walk}
use Rattle.stack_layout.proofs.TableLaws.{encoded}
use Rattle.stack_layout.proofs.CodeLaws.{piece-zero, secondary-words, low-lt, low-written, low-literal, primary-pos, primary-apart}
use Rattle.stack_layout.proofs.RestLaws.{pair, pairs-image, rest_in, rest-after, still, still-in, Shows, Rest, clear-on, clear-off, byte-on, byte-off, block_on, block-off}

no-marks : (ms : List Bool) → length ms ≡ 0 → ms ≡ []
no-marks [] e = refl
no-marks (m ∷ ms) e = absurd (omega arith)

-- ---- what was found, taken apart

not-got : {X : Type 0} (ms : List Bool) (bs : List Block) → bad ≡ got ms bs → X
not-got ms bs e = absurd (let z : ◌≡◌ {A = ℕ} 0 1 = cc in omega arith)

went_on : (m : Bool) (x : Found) (ms : List Bool) (bs : List Block) → goes_on (m ∷ []) x ≡ got ms bs
    → (ns : List Bool) × (x ≡ got ns bs) × (m ∷ ns ≡ ms)
went_on m bad ms bs e = not-got ms bs e
went_on m (got ns cs) ms bs e = (ns, (cc), (cc))

began : (q : ℕ) (t : Bool) (x : Found) (ms : List Bool) (bs : List Block) → begins q t x ≡ got ms bs
    → (ns : List Bool) × (cs : List Block) × (x ≡ got ns cs) × ([] ≡ ms) × (record { base = q; marks = ns; literal = t } ∷ cs ≡ bs)
began q t bad ms bs e = not-got ms bs e
began q t (got ns cs) ms bs e = (ns, cs, refl, (cc), (cc))

module _ (size : ℕ) (pr se : ℕ → ℕ) where
  abbrev From : (q L i : ℕ) (u : Bool) → List Bool → List Block → Type 0
  From = Rest size pr se

  abbrev walk : (n q L i : ℕ) (u : Bool) → Found
  walk = stack_walk size pr se

  abbrev byte_is : (q L i : ℕ) (u : Bool) → Bool
  byte_is = is_byte size pr se

  abbrev clear_is : (q : ℕ) → Bool
  clear_is = is_clear size pr se

  -- ---- the tests of a byte

  clear-true : (q : ℕ) → clear_is q ≡ true → Shows pr se q (0, 0)
  unfolding is_clear
  clear-true q e = let t = and-true (eqb (pr q) 0) (eqb (se q) 0) e in (eqb-true (pr q) 0 t.0, eqb-true (se q) 0 t.1)

  true-clear : (q : ℕ) → Shows pr se q (0, 0) → clear_is q ≡ true
  unfolding is_clear
  true-clear q s = rw (s.0, s.1)

  -- the written bit at q, and bit 1
  abbrev mark_at : ℕ → Bool
  mark_at = is_marked size pr se

  abbrev literal_at : ℕ → Bool
  literal_at = says_literal size pr se

  byte-true : (q L i : ℕ) (u : Bool) → byte_is q L i u ≡ true → Shows pr se q (pair L i u (mark_at q)) × (u ≡ true → mark_at q ≡ true)
  unfolding is_byte
  byte-true q L i u e =
      let t = and-true (eqb (pr q) (primary_of L i (low_bits u (u || mark_at q)))) (eqb (se q) (secondary_of L i)) e in
      let ep : pr q ≡ primary_of L i (low_bits u (u || mark_at q)) = eqb-true (pr q) (primary_of L i (low_bits u (u || mark_at q))) t.0 in
      let b : pr q % 2 ≡ bit (u || mark_at q) =
      ap (λ (x : ℕ). x % 2) ep ∙ (primary-apart L i (low_bits u (u || mark_at q)) (low-lt u (u || mark_at q))).bit ∙ low-written u (u || mark_at q) in
      let m : mark_at q ≡ (u || mark_at q) = ap (λ (x : ℕ). eqb x 1) b ∙ bit-back (u || mark_at q) in (
        (ep ∙ ap (λ (x : Bool). primary_of L i (low_bits u x)) (sym m), eqb-true (se q) (secondary_of L i) t.1),
        λ h. m ∙ ap (λ (x : Bool). x || mark_at q) h,
      )

  true-byte : (q L i : ℕ) (u m : Bool) → Shows pr se q (pair L i u m) → (u ≡ true → m ≡ true)
      → (byte_is q L i u ≡ true) × (mark_at q ≡ m) × (literal_at q ≡ u)
  unfolding is_byte
  true-byte q L i u m s w =
      let A = primary-apart L i (low_bits u m) (low-lt u m) in
      let d : pr q % 2 ≡ bit m = ap (λ (x : ℕ). x % 2) s.0 ∙ A.bit ∙ low-written u m in
      let k : mark_at q ≡ m = ap (λ (x : ℕ). eqb x 1) d ∙ bit-back m in
      let l : literal_at q ≡ u = ap (λ (x : ℕ). eqb (x / 2 % 2) 1) s.0 ∙ ap (λ (x : ℕ). eqb x 1) (A.mark ∙ low-literal u m) ∙ bit-back u in
      (rw (k, over u m w, eq-eqb (pr q) (primary_of L i (low_bits u m)) s.0, eq-eqb (se q) (secondary_of L i) s.1), k, l)
    where
      over : (u m : Bool) → (u ≡ true → m ≡ true) → (u || m) ≡ m
      over true m w = sym (w refl)
      over false m w = refl

  -- ---- the walk's turn

  -- the rest of the walk past byte i, at q, of a block of length L
  abbrev inner : (n q L i : ℕ) (u : Bool) → Found
  inner n q L i u = goes_on (mark_at q ∷ []) (walk n (suc q) (still L i) (suc i) u)

  abbrev Sound : ℕ → Type 0
  Sound n = (q L i : ℕ) (u : Bool) (ms : List Bool) (bs : List Block) → q + n ≡ size → (L ≢ 0 → i < L) → walk n q L i u ≡ got ms bs → From q L i u ms bs

  module _ (n : ℕ) (ih : Sound n) (q : ℕ) (e : q + suc n ≡ size) where
    inner-sound : (L i : ℕ) (u : Bool) (ms : List Bool) (bs : List Block) → i < L → byte_is q L i u ≡ true → inner n q L i u ≡ got ms bs → From q L i u ms bs
    inner-sound L i u ms bs h b g =
        let w = went_on (mark_at q) (walk n (suc q) (still L i) (suc i) u) ms bs g in
        let y = byte-true q L i u b in
        rw (← w.2)
        (byte-on size pr se q L i u (mark_at q) w.0 bs h y.0 y.1 (ih (suc q) (still L i) (suc i) u w.0 bs (omega arith) (still-in L i) w.1))

    begin-sound : (H i : ℕ) (u : Bool) (ms : List Bool) (bs : List Block) → 1 ≤ H → byte_is q H 0 (literal_at q) ≡ true
        → begins q (literal_at q) (inner n q H 0 (literal_at q)) ≡ got ms bs → From q 0 i u ms bs
    begin-sound H i u ms bs h b g =
        let v : Bool = literal_at q in
        let w = began q v (inner n q H 0 v) ms bs g in
        let c : Block = record { base = q; marks = w.0; literal = v } in
        let r : From q H 0 v w.0 w.1 = inner-sound H 0 v w.0 w.1 h b w.2 in
        let l : H ≡ len c = omega (arith, r.long) in
        rw (← w.3, ← w.4) (block_on size pr se i u c w.1 (omega arith) (subst (λ (x : ℕ). From q x 0 v w.0 w.1) l r))

  -- what the walk finds is there
  sound : (n : ℕ) → Sound n
  unfolding stack_walk
  sound zero q L i u ms bs e o g = go (test (eqb L 0)) g
    where
      go : Test (eqb L 0) → cond (eqb L 0) (got [] []) bad ≡ got ms bs → From q L i u ms bs
      go (is_true t) g =
          let z : L ≡ 0 = eqb-true L 0 t in
          let f : got [] [] ≡ got ms bs = rw t at g in
          let v : [] ≡ ms = cc in
          let w : [] ≡ bs = cc in
          rw (z, ← v, ← w) (record { long = omega arith; fits = omega arith; placed = tt; proper = λ t. refl; same = λ t h k. absurd (omega arith) })
      go (is_false t) g = not-got ms bs (rw t at g)
  sound (suc n) q L i u ms bs e o g =
      go (test (eqb L 0)) (test (clear_is q)) (test (leb 1 H && leb (q + H) size && byte_is q H 0 v)) (test (byte_is q L i u)) g (sound n)
    where
      H : ℕ
      H = length_at size pr se q

      v : Bool
      v = literal_at q

      go : Test (eqb L 0) → Test (clear_is q) → Test (leb 1 H && leb (q + H) size && byte_is q H 0 v) → Test (byte_is q L i u)
          → cond (eqb L 0)
          (cond (clear_is q) (walk n (suc q) 0 0 false)
          (cond (leb 1 H && leb (q + H) size && byte_is q H 0 v) (begins q v (inner n q H 0 v)) bad))
          (cond (byte_is q L i u) (inner n q L i u) bad) ≡ got ms bs
          → Sound n → From q L i u ms bs
      go (is_true z) (is_true c) b y g ih =
          let l : L ≡ 0 = eqb-true L 0 z in
          rw l (clear-on size pr se q i u ms bs (clear-true q c) (ih (suc q) 0 0 false ms bs (omega arith) (λ r. absurd (r refl)) (rw (z, c) at g)))
      go (is_true z) (is_false c) (is_true b) y g ih =
          let l : L ≡ 0 = eqb-true L 0 z in
          let t = and-true (leb 1 H && leb (q + H) size) (byte_is q H 0 v) b in
          rw l (begin-sound n ih q e H i u ms bs (leb-true 1 H (and-true (leb 1 H) (leb (q + H) size) t.0).0) t.1 (rw (z, c, b) at g))
      go (is_true z) (is_false c) (is_false b) y g ih = not-got ms bs (rw (z, c, b) at g)
      go (is_false z) c b (is_true y) g ih = inner-sound n ih q e L i u ms bs (o (eqb-false L 0 z)) y (rw (z, y) at g)
      go (is_false z) c b (is_false y) g ih = not-got ms bs (rw (z, y) at g)

  -- what the walk accepts is an image
  pub walk-sound : (ms : List Bool) (bs : List Block) → stack_walk size pr se size 0 0 0 false ≡ got ms bs
      → Placed (stack_rules 0 size) 0 bs × ((q : ℕ) → q < size → (pr q ≡ primary_byte bs q) × (se q ≡ secondary_byte bs q))
  walk-sound ms bs g =
      let r : From 0 0 0 false ms bs = sound size 0 0 0 false ms bs (omega arith) (λ z. absurd (z refl)) g in (
        r.placed,
        λ q h.
            let s = subst (Shows pr se q) (rest-after 0 0 0 false ms bs q (omega arith)) (r.same q (omega arith) h) in
            let p = pairs-image bs q in
            (s.0 ∙ sym p.0, s.1 ∙ sym p.1),
      )

  -- ---- and the other way

  module _ (small : size < 256 ^ 4) where
    -- the first byte of a block tells its length
    first-length : (q L m : ℕ) → m < 4 → 1 ≤ L → q + L ≤ size → pr q ≡ primary_of L 0 m
        → ((t : ℕ) → q ≤ t → t < q + L → se t ≡ secondary_of L (t - q)) → length_at size pr se q ≡ L
    unfolding length_at code_of
    first-length q L m lt n f ep es = rw (ep, (primary-apart L 0 m lt).code) (go (test (leb L 8)))
      where
        code : ℕ
        code = cond (leb L 8) (short_code L 0) (48 + (0 - piece_of L 0))

        go : Test (leb L 8) → cond (leb code 36) (short_length code) (word se q 4) ≡ L
        go (is_true t) =
            let E = encoded L 0 (leb-true L 8 t) n in
            rw (t, le-leb (short_code L 0) 36 E.most) E.length
        go (is_false t) =
            let w : word se (q + piece_of L 0) 4 ≡ L = (secondary-words L 0 se q (leb-false L 8 t) n (omega arith) es).0 in
            rw (t, lt-leb (48 + (0 - piece_of L 0)) 36 (omega arith)) (rw (piece-zero L, add-zero q) at w)

    rest-length : (q L : ℕ) (u m : Bool) (ms : List Bool) (bs : List Block) → 1 ≤ L → From q L 0 u (m ∷ ms) bs → length_at size pr se q ≡ L
    rest-length q L u m ms bs n r =
        first-length q L (low_bits u m) (low-lt u m) n (omega (arith, r.fits)) (byte-off size pr se q L 0 u m ms bs n (omega (arith, r.fits)) r).0.0
        (λ t x y. (r.same t x (omega (arith, r.fits))).1 ∙ ap (λ (c : ℕ × ℕ). c.1) (rest_in q L 0 u (m ∷ ms) bs t (omega arith)) ∙ rw (zero-add (t - q)))

    not-clear : (q L i : ℕ) (u m : Bool) → Shows pr se q (pair L i u m) → clear_is q ≡ false
    unfolding is_clear
    not-clear q L i u m s = rw (ne_eqb (pr q) 0 (λ z. omega (arith, s.0, primary-pos L i (low_bits u m))))

    abbrev Full : ℕ → Type 0
    Full n = (q L i : ℕ) (u : Bool) (ms : List Bool) (bs : List Block) → q + n ≡ size → (L ≢ 0 → i < L) → From q L i u ms bs → walk n q L i u ≡ got ms bs

    module _ (n : ℕ) (ih : Full n) (q : ℕ) (e : q + suc n ≡ size) where
      inner-full : (L i : ℕ) (u m : Bool) (ms : List Bool) (bs : List Block) → i < L → From q L i u (m ∷ ms) bs
          → (byte_is q L i u ≡ true) × (inner n q L i u ≡ got (m ∷ ms) bs) × (literal_at q ≡ u)
      inner-full L i u m ms bs h r =
          let o = byte-off size pr se q L i u m ms bs h (omega arith) r in
          let t = true-byte q L i u m o.0 o.1 in
          (t.0, rw (t.1, ih (suc q) (still L i) (suc i) u ms bs (omega arith) (still-in L i) o.2), t.2)

      clear-full : (i : ℕ) (u : Bool) (ms : List Bool) (bs : List Block) → Placed (stack_rules 0 size) (suc q) bs → From q 0 i u ms bs → walk (suc n) q 0 i u ≡ got ms bs
      unfolding stack_walk
      clear-full i u ms bs P r =
          let o = clear-off size pr se q i u ms bs (omega arith) P r in
          rw (true-clear q o.0) (ih (suc q) 0 0 false ms bs (omega arith) (λ z. absurd (z refl)) o.1)

      begin-full : (i : ℕ) (u : Bool) (ms : List Bool) (m : Bool) (ns : List Bool) (v : Bool) (bs : List Block)
          → From q 0 i u ms (record { base = q; marks = m ∷ ns; literal = v } ∷ bs)
          → walk (suc n) q 0 i u ≡ got ms (record { base = q; marks = m ∷ ns; literal = v } ∷ bs)
      unfolding stack_walk
      begin-full i u ms m ns v bs r =
          let L : ℕ = suc (length ns) in
          let b : Block = record { base = q; marks = m ∷ ns; literal = v } in
          let k : From q L 0 v (m ∷ ns) bs = block-off size pr se i u ms b bs r in
          let f : q + L ≤ size = omega (arith, k.fits) in
          let t = inner-full L 0 v m ns bs (omega arith) k in
          rw (
            not-clear q L 0 v m (byte-off size pr se q L 0 v m ns bs (omega arith) (omega arith) k).0,
            rest-length q L v m ns bs (omega arith) k,
            le-leb 1 L (omega arith),
            le-leb (q + L) size f,
            t.2,
            t.0,
            t.1,
          )
          (ap (λ (x : List Bool). got x (b ∷ bs)) (sym (no-marks ms (omega (arith, r.long)))))

      idle-full : (i : ℕ) (u : Bool) (ms : List Bool) (bs : List Block) → From q 0 i u ms bs → walk (suc n) q 0 i u ≡ got ms bs
      idle-full i u ms [] r = clear-full i u ms [] tt r
      idle-full i u ms (b ∷ bs) r = go (test (ltb q b.base)) b.marks refl r.placed
        where
          go : Test (ltb q b.base) → (M : List Bool) → b.marks ≡ M → Placed (stack_rules 0 size) (q + (0 - i)) (b ∷ bs)
              → walk (suc n) q 0 i u ≡ got ms (b ∷ bs)
          go (is_true t) M h P =
              clear-full i u ms (b ∷ bs)
              (record { some = P.some; fits = P.fits; aligned = P.aligned; proper = P.proper; room = ltb-true q b.base t; later = P.later }) r
          go (is_false t) [] h P = absurd (omega (arith, P.some, ap length h))
          go (is_false t) (m ∷ ns) h P =
              let p : b.base ≡ q = omega (arith, ltb-false q b.base t, P.room) in
              let v : Bool = b.literal in
              let eb : ◌≡◌ {A = Block} b (record { base = q; marks = m ∷ ns; literal = v }) = λ j. record { base = p j; marks = h j; literal = v } in
              subst (λ (x : Block). walk (suc n) q 0 i u ≡ got ms (x ∷ bs)) (sym eb)
              (begin-full i u ms m ns v bs (subst (λ (x : Block). From q 0 i u ms (x ∷ bs)) eb r))

      part-full : (L i : ℕ) (u : Bool) (ms : List Bool) (bs : List Block) → i < L → From q L i u ms bs → walk (suc n) q L i u ≡ got ms bs
      unfolding stack_walk
      part-full L i u [] bs h r = absurd (omega (arith, r.long))
      part-full L i u (m ∷ ms) bs h r = let t = inner-full L i u m ms bs h r in rw (ne_eqb L 0 (λ z. omega arith), t.0, t.1)

    -- what is there the walk finds
    full : (n : ℕ) → Full n
    unfolding stack_walk
    full zero q L i u ms bs e o r = go (test (eqb L 0)) bs r.placed
      where
        go : Test (eqb L 0) → (cs : List Block) → Placed (stack_rules 0 size) (q + (L - i)) cs → cond (eqb L 0) (got [] []) bad ≡ got ms cs
        go (is_true t) [] P = rw (t, no-marks ms (omega (arith, r.long, eqb-true L 0 t)))
        go (is_true t) (c ∷ cs) P = absurd (omega (arith, P.some, P.room, stack-span 0 size c.base (len c) P.fits))
        go (is_false t) cs P = absurd (omega (arith, o (eqb-false L 0 t), r.fits))
    full (suc n) q L i u ms bs e o r = go (test (eqb L 0)) (full n)
      where
        go : Test (eqb L 0) → Full n → walk (suc n) q L i u ≡ got ms bs
        go (is_true t) ih =
            let z : L ≡ 0 = eqb-true L 0 t in
            subst (λ (x : ℕ). walk (suc n) q x i u ≡ got ms bs) (sym z)
            (idle-full n ih q e i u ms bs (subst (λ (x : ℕ). From q x i u ms bs) z r))
        go (is_false t) ih = part-full n ih q e L i u ms bs (o (eqb-false L 0 t)) r

-- the walk over an image gives back its blocks
pub walk-full : (size : ℕ) → size < 256 ^ 4 → (bs : List Block) → Placed (stack_rules 0 size) 0 bs
    → stack_walk size (primary_byte bs) (secondary_byte bs) size 0 0 0 false ≡ got [] bs
walk-full size small bs P =
    full size (primary_byte bs) (secondary_byte bs) small size 0 0 0 false [] bs (omega arith) (λ z. absurd (z refl))
    (record {
      long = refl;
      fits = omega arith;
      placed = P;
      proper = λ t. refl;
      same = λ t h k. subst (Shows (primary_byte bs) (secondary_byte bs) t) (sym (rest-after 0 0 0 false [] bs t h)) (pairs-image bs t);
    })

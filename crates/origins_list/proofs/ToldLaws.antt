-- Each call keeps what the history tells, and kind 13 is judged as the history judges it. Assumes nothing.
use mathlib.Core.Path.{◌≡◌, refl, sym, ap, ◌∙◌, fun_ext}
use mathlib.Core.Logic.{◌≢◌}
use mathlib.Core.Bool.{Bool, true, false, cond, not, ◌&&◌}
use mathlib.Core.List.{◌∷◌}
use mathlib.Core.Option.{Option, none, some}
use Prim.Native.Nat.{ℕ, suc, ◌+◌, ◌%◌, ◌≤◌, ◌<◌}
use native.Mathlib.Omega.{arith}
use lib.ListN.{length}
use lib.Dec.{eqb}
use borrow.Author.Tests.{eq-eqb, ne_eqb, eqb-true, eqb-false}
use Rattle.number.proofs.TestLaws.{Test, is_true, is_false, test, and_false_r, not-both, false_of, eqb_same}
use Rattle.plain.specs.Call as base
use Rattle.origins_list.specs.Call.{Call, plain, point, copy, clears, begins, ends, leaves, role_of, takes_origin}
use Rattle.origins_list.specs.Cells.{Held, empty, put, touches, cut}
use Rattle.origins_list.specs.History.{History, Allocation, recordings, begins_at, held_after, holder, place_of, set_after, set_to, same, judged}
use Rattle.origins_list.proofs.SpotLaws.{Spot, vacant, taken, spans, has_four, without}
use Rattle.origins_list.proofs.KeepLaws.{Whole, Keeps, spans-true, true-spans, touches-spans, spans-touches, no-taken, other, put-old, put-new, remains}
use Rattle.origins_list.proofs.HistoryLaws.{records, is_made, named, made-still, made-now, named-range, named-own, Matches, neither, both, referred, Made, Tells}

-- the origin of what stands at an address
abbrev pub origin_there : Held → Spot → ℕ
origin_there f vacant = 0
origin_there f (taken b l) = f b

-- ---- one entry more changes nothing of what was told

module _ (k₀ : ℕ) (e : Call × Bool) (h : History) where
  grown : (f : Held) (o : Option Allocation) (x : Spot) → Matches k₀ h f o x → Matches k₀ (e ∷ h) f o x
  grown f o x neither = neither
  grown f o x (both n l t q) = let m = made-still k₀ e h n.place t in both n l m.0 (q ∙ sym m.1)

  still-made : (o : Option ℕ) → Made h o → Made (e ∷ h) o
  still-made none m = tt
  still-made (some p) m = (made-still k₀ e h p m).0

  still-referred : (o : Option ℕ) → Made h o → referred k₀ (e ∷ h) o ≡ referred k₀ h o
  still-referred none m = refl
  still-referred (some p) m = (made-still k₀ e h p m).1

module _ (k₀ : ℕ) (first : 1 ≤ k₀) (h : History) (s : ℕ → Spot) (f g : Held) (k : ℕ) (T : Tells k₀ h s f g k) where
  -- a refused call, and an accepted one that only asks or marks
  pub tells-refused : (c : Call) → Tells k₀ ((c, false) ∷ h) s f g k
  unfolding holder set_to recordings
  tells-refused c =
      record {
        stands = λ a. grown k₀ (c, false) h f (holder h a) (s a) (T.stands a);
        set = λ d. T.set d ∙ sym (still-referred k₀ (c, false) h (set_to h d) (T.made d));
        made = λ d. still-made k₀ (c, false) h (set_to h d) (T.made d);
        count = rw (and_false_r (takes_origin c) false refl) T.count;
      }

  -- what an accepted call that takes no origin leaves, where it leaves the blocks
  pub tells-pointer : (c : Call) (g' : Held) → takes_origin c ≡ false → ((o : Option Allocation) (p a : ℕ) → held_after c p o a ≡ o)
      → ((d : ℕ) → g' d ≡ referred k₀ h (set_after c (holder h) (set_to h) d)) → ((d : ℕ) → Made h (set_after c (holder h) (set_to h) d))
      → Tells k₀ ((c, true) ∷ h) s f g' k
  unfolding holder set_to recordings
  tells-pointer c g' n held set made =
      record {
        stands = λ a. rw (held (holder h a) (length h) a) (grown k₀ (c, true) h f (holder h a) (s a) (T.stands a));
        set = λ d. set d ∙ sym (still-referred k₀ (c, true) h (set_after c (holder h) (set_to h) d) (made d));
        made = λ d. still-made k₀ (c, true) h (set_after c (holder h) (set_to h) d) (made d);
        count = rw n T.count;
      }

  -- the origin of the block at an address is the name of the allocation there
  there-named : (a : ℕ) → (origin_there f (s a) ≡ referred k₀ h (place_of (holder h a))) × Made h (place_of (holder h a))
  there-named a = go (holder h a) (s a) (T.stands a)
    where
      go : (o : Option Allocation) (x : Spot) → Matches k₀ h f o x → (origin_there f x ≡ referred k₀ h (place_of o)) × Made h (place_of o)
      go o x neither = (refl, tt)
      go o x (both n l t q) = (q, t)

  pub tells-point : (c a : ℕ) → Tells k₀ ((point c a, true) ∷ h) s f (put c (origin_there f (s a)) g) k
  tells-point c a = tells-pointer (point c a) (put c (origin_there f (s a)) g) refl (λ o p b. refl) (λ d. set d (test (eqb d c))) (λ d. made d (test (eqb d c)))
    where
      set : (d : ℕ) → Test (eqb d c) → put c (origin_there f (s a)) g d ≡ referred k₀ h (cond (eqb d c) (place_of (holder h a)) (set_to h d))
      set d (is_true t) = rw t (there-named a).0
      set d (is_false t) = rw t (T.set d)

      made : (d : ℕ) → Test (eqb d c) → Made h (cond (eqb d c) (place_of (holder h a)) (set_to h d))
      made d (is_true t) = rw t (there-named a).1
      made d (is_false t) = rw t (T.made d)

  pub tells-copy : (c d : ℕ) → Tells k₀ ((copy c d, true) ∷ h) s f (put c (g d) g) k
  tells-copy c d = tells-pointer (copy c d) (put c (g d) g) refl (λ o p b. refl) (λ x. set x (test (eqb x c))) (λ x. made x (test (eqb x c)))
    where
      set : (x : ℕ) → Test (eqb x c) → put c (g d) g x ≡ referred k₀ h (cond (eqb x c) (set_to h d) (set_to h x))
      set x (is_true t) = rw t (T.set d)
      set x (is_false t) = rw t (T.set x)

      made : (x : ℕ) → Test (eqb x c) → Made h (cond (eqb x c) (set_to h d) (set_to h x))
      made x (is_true t) = rw t (T.made d)
      made x (is_false t) = rw t (T.made x)

  pub tells-clear : (c : base.Call) → role_of c ≡ clears → Tells k₀ ((plain c, true) ∷ h) (λ a. vacant) empty empty k
  unfolding holder set_to recordings
  tells-clear c r = record { stands = λ a. rw r neither; set = λ d. rw r; made = λ d. rw r tt; count = rw r T.count }

  -- a plain call that leaves blocks, origins and pointers
  pub tells-plain : (c : base.Call) → role_of c ≡ leaves → Tells k₀ ((plain c, true) ∷ h) s f g k
  tells-plain c r = tells-pointer (plain c) g (rw r) (λ o p a. rw r) (λ d. rw r (T.set d)) (λ d. rw r (T.made d))

  -- ---- a block begins

  module _ (c : base.Call) (b l : ℕ) (r : role_of c ≡ begins b l) (W : Whole s) (K : Keeps s f g k) (at-cell : b % 4 ≡ 0) (some_byte : 1 ≤ l) (room : k ≤ 4294967295)
      (alone : (a : ℕ) → spans b l a ≡ true → s a ≡ vacant) where
    abbrev began : Call × Bool
    began = (plain c, true)

    recorded : records began ≡ true
    recorded = rw r

    pub tells-begin : Tells k₀ (began ∷ h) (λ a. cond (spans b l a) (taken b l) (s a)) (put b k f) g (suc k)
    unfolding holder set_to
    tells-begin =
        record {
          stands = λ a. rw r (stands a (test (spans b l a)));
          set = λ d. rw r (T.set d ∙ sym (still-referred k₀ began h (set_to h d) (T.made d)));
          made = λ d. rw r (still-made k₀ began h (set_to h d) (T.made d));
          count = omega (arith, (made-now k₀ began h recorded).2, T.count);
        }
      where
        -- a block that began before keeps its origin
        old : (a : ℕ) (o : Option Allocation) (x : Spot) → s a ≡ x → Matches k₀ h f o x → Matches k₀ h (put b k f) o x
        old a o x q neither = neither
        old a o x q (both n m t p) =
            both n m t (put-old s f g k b l W K at-cell some_byte room alone n.base (other s f g k b l W K at-cell some_byte room alone a n.base m q) ∙ p)

        stands : (a : ℕ) → Test (spans b l a)
            → Matches k₀ (began ∷ h) (put b k f)
            (cond (spans b l a) (some (record { place = length h; base = b })) (holder h a))
            (cond (spans b l a) (taken b l) (s a))
        stands a (is_true t) =
            rw t (both (record { place = length h; base = b }) l (made-now k₀ began h recorded).0
            (put-new s f g k b l W K at-cell some_byte room alone ∙ T.count ∙ sym (made-now k₀ began h recorded).1))
        stands a (is_false t) = rw t (grown k₀ began h (put b k f) (holder h a) (s a) (old a (holder h a) (s a) refl (T.stands a)))

  -- ---- a block goes

  module _ (c : base.Call) (x l : ℕ) (r : role_of c ≡ ends x) (W : Whole s) (K : Keeps s f g k) (there : s x ≡ taken x l) where
    abbrev ended : Call × Bool
    ended = (plain c, true)

    -- what stands at an address of the block that goes
    goes : (a : ℕ) → spans x l a ≡ true → s a ≡ taken x l
    goes a t = let p = spans-true x l a t in (W x x l there).2 a p.0 p.1

    -- a block of that base is the one that goes
    is-it : (a n : ℕ) → s a ≡ taken x n → spans x l a ≡ true
    is-it a n e =
        let w = W a x n e in
        let q : taken x n ≡ taken x l = sym (w.2 x (omega arith) (omega (arith, w.0, w.1))) ∙ there in
        let z : n ≡ l = cc in
        true-spans x l a w.0 (omega (arith, w.1, z))

    pub tells-free : Tells k₀ (ended ∷ h) (without x l s) (cut x l f) (cut x l g) k
    unfolding holder set_to recordings
    tells-free =
        record {
          stands = λ a. rw r (grown k₀ ended h (cut x l f) (cond (begins_at x (holder h a)) none (holder h a)) (without x l s a)
              (stands a (holder h a) (s a) refl (T.stands a)));
          set = λ d. rw r (set d (test (eqb (g d) 0)));
          made = λ d. rw r (still-made k₀ ended h (cond (begins_at x (holder h d)) none (set_to h d)) (made d (begins_at x (holder h d))));
          count = rw r T.count;
        }
      where
        stands : (a : ℕ) (o : Option Allocation) (y : Spot) → s a ≡ y → Matches k₀ h f o y
            → Matches k₀ h (cut x l f) (cond (begins_at x o) none o) (cond (spans x l a) vacant y)
        stands a o y q neither = rw (both-vacant (spans x l a)) neither
          where
            both-vacant : (t : Bool) → cond t vacant vacant ≡ vacant
            both-vacant true = refl
            both-vacant false = refl
        stands a o y q (both n m t p) = go (test (eqb n.base x)) (test (spans x l a))
          where
            go : Test (eqb n.base x) → Test (spans x l a)
                → Matches k₀ h (cut x l f) (cond (eqb n.base x) none (some n)) (cond (spans x l a) vacant (taken n.base m))
            go (is_true e) (is_true u) = rw (e, u) neither
            go (is_true e) (is_false u) =
                let z : n.base ≡ x = eqb-true n.base x e in
                absurd (not-both (spans x l a) (is-it a m (q ∙ rw z)) u)
            go (is_false e) (is_true u) =
                absurd (eqb-false n.base x e (let z : taken n.base m ≡ taken x l = sym q ∙ goes a u in cc))
            go (is_false e) (is_false u) =
                rw (e, u) (both n m t (rw (remains s f g k x l W K there a n.base m (rw u q)).1 p))

        made : (d : ℕ) (t : Bool) → Made h (cond t none (set_to h d))
        made d true = tt
        made d false = T.made d

        -- an unset pointer stays unset
        unset : (d : ℕ) → g d ≡ 0 → (t : Bool) → 0 ≡ referred k₀ (ended ∷ h) (cond t none (set_to h d))
        unset d z true = refl
        unset d z false = sym z ∙ T.set d ∙ sym (still-referred k₀ ended h (set_to h d) (T.made d))

        set : (d : ℕ) → Test (eqb (g d) 0) → cut x l g d ≡ referred k₀ (ended ∷ h) (cond (begins_at x (holder h d)) none (set_to h d))
        set d (is_true z) =
            let e : g d ≡ 0 = eqb-true (g d) 0 z in
            zero (touches x l d) e ∙ unset d e (begins_at x (holder h d))
          where
            zero : (t : Bool) → g d ≡ 0 → cond t 0 (g d) ≡ 0
            zero true e = refl
            zero false e = e
        set d (is_false z) = let p = K.pointed d (eqb-false (g d) 0 z) in go p.0 (holder h d) (s d) refl p.1 (T.stands d)
          where
            go : d % 4 ≡ 0 → (o : Option Allocation) (y : Spot) → s d ≡ y → has_four d y ≡ true → Matches k₀ h f o y
                → cut x l g d ≡ referred k₀ (ended ∷ h) (cond (begins_at x o) none (set_to h d))
            go al o y q four neither = absurd (not-both false four refl)
            go al o y q four (both n m t p) = at_block (test (eqb n.base x)) (test (touches x l d))
              where
                at_block : Test (eqb n.base x) → Test (touches x l d)
                    → cond (touches x l d) 0 (g d) ≡ referred k₀ (ended ∷ h) (cond (eqb n.base x) none (set_to h d))
                at_block (is_true e) (is_true u) = rw (e, u)
                at_block (is_true e) (is_false u) =
                    let z : n.base ≡ x = eqb-true n.base x e in
                    absurd (not-both (touches x l d) (spans-touches x l d (is-it d m (q ∙ rw z))) u)
                at_block (is_false e) (is_true u) =
                    absurd (eqb-false n.base x e
                    (let z : taken n.base m ≡ taken x l = sym q ∙ goes d (touches-spans x l d (K.based x x l there).0 al u) in cc))
                at_block (is_false e) (is_false u) = rw (e, u) (T.set d ∙ sym (still-referred k₀ ended h (set_to h d) (T.made d)))

  -- ---- kind 13

  pub judged-so : (c a : ℕ) → (not (eqb (g c) 0) && eqb (origin_there f (s a)) (g c)) ≡ judged h c a
  judged-so c a = rw (T.set c, (there-named a).0) (go (set_to h c) (place_of (holder h a)) (T.made c) (there-named a).1)
    where
      go : (p q : Option ℕ) → Made h p → Made h q → (not (eqb (referred k₀ h p) 0) && eqb (referred k₀ h q) (referred k₀ h p)) ≡ same p q
      go none q m n = refl
      go (some p) none m n =
          let r = named-range k₀ h p m in rw (ne_eqb (named k₀ h p) 0 (omega (arith, r, first)), ne_eqb 0 (named k₀ h p) (omega (arith, r, first)))
      go (some p) (some q) m n =
          let r = named-range k₀ h p m in
          rw (ne_eqb (named k₀ h p) 0 (omega (arith, r, first))) (eqb_same (named k₀ h q) (named k₀ h p) p q (λ e. sym (named-own k₀ h q p n m e)) (λ e. rw e))

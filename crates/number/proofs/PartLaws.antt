-- Laws of lists of bytes: a table of a function, zeros, a part written over. Assumes nothing.
use mathlib.Core.Path.{◌≡◌, refl, sym, ap, ◌∙◌, fun_ext}
use mathlib.Core.Bool.{Bool, true, false, cond, ◌&&◌}
use mathlib.Core.List.{List, [], ◌∷◌, ◌++◌}
use mathlib.Core.Logic.{◌≢◌}
use Prim.Native.Nat.{ℕ, zero, suc, ◌+◌, ◌-◌, ◌≤◌, ◌<◌, suc-le-suc}
use native.Mathlib.Omega.{arith}
use native.Mathlib.Nat.{add-zero, zero-add, add-suc, suc-add, add-sub_cancel_left}
use lib.ListN.{length, get_or, take, drop, replicate, length-append, length-take, length-drop, set, length-set, get_or-append, get_or-eq_default}
use lib.Seq.{get_or-take, get_or-drop, get_or-append-add, ext_get_or, length-take-le, get_or-set_same, get_or-set_other}
use lib.Dec.{ltb, eqb}
use borrow.Author.Tests.{eq-eqb, ltb-true, ltb-false, eqb-true, eqb-false}
use Rattle.number.specs.Parts.{at, tab, zeros, in_part, over, Each}
use Rattle.number.proofs.TestLaws.{Test, is_true, is_false, test, and-true, in-true, in-below, in-above, Where, below, inside, above, locate}

-- ---- a table of a function

pub length-tab {ℓ} : {A : Type ℓ} (i n : ℕ) (f : ℕ → A) → length (tab i n f) ≡ n
unfolding tab
length-tab i zero f = refl
length-tab i (suc n) f = ap suc (length-tab (suc i) n f)

pub get_d-tab {ℓ} : {A : Type ℓ} (n i q : ℕ) (f : ℕ → A) (d : A) → q < n → get_or (tab i n f) q d ≡ f (i + q)
unfolding tab
get_d-tab zero i q f d h = absurd (omega arith)
get_d-tab (suc n) i zero f d h = rw add-zero
get_d-tab (suc n) i (suc q) f d h = rw (add-suc i q, ← suc-add i q) (get_d-tab n (suc i) q f d (omega arith))

pub at-tab : (n q : ℕ) (f : ℕ → ℕ) → q < n → at (tab 0 n f) q ≡ f q
at-tab n q f h = get_d-tab n 0 q f 0 h ∙ ap f (zero-add q)

pub at-tab-out : (n q : ℕ) (f : ℕ → ℕ) → n ≤ q → at (tab 0 n f) q ≡ 0
at-tab-out n q f h = get_or-eq_default (tab 0 n f) 0 (rw (length-tab 0 n f) h)

pub tab-ext {ℓ} : {A : Type ℓ} (n i : ℕ) (f g : ℕ → A) → ((q : ℕ) → i ≤ q → q < i + n → f q ≡ g q) → tab i n f ≡ tab i n g
unfolding tab
tab-ext zero i f g h = refl
tab-ext (suc n) i f g h = rw (h i (omega arith) (omega arith), tab-ext n (suc i) f g (λ q x y. h q (omega arith) (omega arith)))

pub tab-eq {ℓ} : {A : Type ℓ} (d : A) (l : List A) (i : ℕ) (f : ℕ → A) → ((j : ℕ) → j < length l → f (i + j) ≡ get_or l j d) → tab i (length l) f ≡ l
unfolding tab
tab-eq d [] i f h = refl
tab-eq {A = A} d (x ∷ xs) i f h =
    let h0 : f i ≡ x = rw add-zero at (h 0 (omega arith)) in
    let ih : tab (suc i) (length xs) f ≡ xs = tab-eq d xs (suc i) f (λ j k. rw (suc-add i j, ← add-suc i j) (h (suc j) (suc-le-suc k))) in
    rw (h0, ih)

-- a list is the table of its bytes
pub is-tab : (n : ℕ) (h : List ℕ) (f : ℕ → ℕ) → length h ≡ n → ((q : ℕ) → q < n → at h q ≡ f q) → h ≡ tab 0 n f
is-tab n h f e k =
    ext_get_or 0 h (tab 0 n f) (rw (length-tab 0 n f) e) (λ q y. let x : q < n = rw e at y in k q x ∙ sym (at-tab n q f x))

-- the table of a function that is 0 past its end is the function
pub at-whole : (n : ℕ) (f : ℕ → ℕ) → ((q : ℕ) → n ≤ q → f q ≡ 0) → at (tab 0 n f) ≡ f
at-whole n f h = fun_ext (λ q. go q (ltb q n) refl)
  where
    go : (q : ℕ) (t : Bool) → ltb q n ≡ t → at (tab 0 n f) q ≡ f q
    go q true e = at-tab n q f (ltb-true q n e)
    go q false e = at-tab-out n q f (ltb-false q n e) ∙ sym (h q (ltb-false q n e))

pub tab-zero : (n i : ℕ) (f : ℕ → ℕ) → ((q : ℕ) → f q ≡ 0) → tab i n f ≡ replicate n 0
unfolding tab
tab-zero zero i f h = refl
tab-zero (suc n) i f h = rw (h i, tab-zero n (suc i) f h)

-- ---- zeros

pub zeros-at : (f : ℕ → ℕ) (q n i : ℕ) → zeros f q n ≡ true → i < n → f (q + i) ≡ 0
unfolding zeros
zeros-at f q zero i e h = absurd (omega arith)
zeros-at f q (suc n) zero e h = rw add-zero (eqb-true (f q) 0 (and-true (eqb (f q) 0) (zeros f (suc q) n) e).0)
zeros-at f q (suc n) (suc i) e h =
    rw (add-suc q i, ← suc-add q i) (zeros-at f (suc q) n i (and-true (eqb (f q) 0) (zeros f (suc q) n) e).1 (omega arith))

pub zeros-all : (f : ℕ → ℕ) (q n : ℕ) → ((i : ℕ) → i < n → f (q + i) ≡ 0) → zeros f q n ≡ true
unfolding zeros
zeros-all f q zero h = refl
zeros-all f q (suc n) h =
    let h0 : f q ≡ 0 = rw add-zero at (h 0 (omega arith)) in
    rw (eq-eqb (f q) 0 h0) (zeros-all f (suc q) n (λ i k. rw (suc-add q i, ← add-suc q i) (h (suc i) (suc-le-suc k))))

pub zeros-same : (f g : ℕ → ℕ) (a b n : ℕ) → ((i : ℕ) → i < n → f (a + i) ≡ g (b + i)) → zeros f a n ≡ zeros g b n
unfolding zeros
zeros-same f g a b zero h = refl
zeros-same f g a b (suc n) h =
    let h0 : f a ≡ g b = rw (add-zero a, add-zero b) at (h 0 (omega arith)) in
    rw (h0, zeros-same f g (suc a) (suc b) n (λ i k. rw (suc-add a i, suc-add b i, ← add-suc a i, ← add-suc b i) (h (suc i) (suc-le-suc k))))

-- one place more
pub zeros-more : (f : ℕ → ℕ) (q n : ℕ) → zeros f q (suc n) ≡ (zeros f q n && eqb (f (q + n)) 0)
unfolding zeros
zeros-more f q zero = rw add-zero (swap (eqb (f q) 0))
  where
    swap : (t : Bool) → (t && true) ≡ (true && t)
    swap true = refl
    swap false = refl
zeros-more f q (suc n) = rw (zeros-more f (suc q) n, add-suc q n, suc-add q n) (assoc (eqb (f q) 0) (zeros f (suc q) n) (eqb (f (suc (q + n))) 0))
  where
    assoc : (a b c : Bool) → (a && (b && c)) ≡ ((a && b) && c)
    assoc true b c = refl
    assoc false b c = refl

-- ---- a part written over

pub length_over : (a n : ℕ) (f : ℕ → ℕ) (h : List ℕ) → length (over a n f h) ≡ length h
unfolding over
length_over a n f h = length-tab 0 (length h) _

pub at-over : (a n : ℕ) (f : ℕ → ℕ) (h : List ℕ) (q : ℕ) → q < length h → at (over a n f h) q ≡ cond (in_part a n q) (f q) (at h q)
unfolding over
at-over a n f h q k = at-tab (length h) q _ k

pub over-in : (a n : ℕ) (f : ℕ → ℕ) (h : List ℕ) (q : ℕ) → q < length h → a ≤ q → q < a + n → at (over a n f h) q ≡ f q
over-in a n f h q k x y = at-over a n f h q k ∙ rw (in-true a (a + n) q x y)

pub over_below : (a n : ℕ) (f : ℕ → ℕ) (h : List ℕ) (q : ℕ) → q < length h → q < a → at (over a n f h) q ≡ at h q
over_below a n f h q k x = at-over a n f h q k ∙ rw (in-below a (a + n) q x)

pub over-above : (a n : ℕ) (f : ℕ → ℕ) (h : List ℕ) (q : ℕ) → q < length h → a + n ≤ q → at (over a n f h) q ≡ at h q
over-above a n f h q k x = at-over a n f h q k ∙ rw (in-above a (a + n) q x)

-- a list that is f in the part and as before elsewhere
pub is-over : (a n : ℕ) (f : ℕ → ℕ) (h g : List ℕ) → length g ≡ length h
    → ((q : ℕ) → q < length h → a ≤ q → q < a + n → at g q ≡ f q)
    → ((q : ℕ) → q < length h → q < a → at g q ≡ at h q)
    → ((q : ℕ) → q < length h → a + n ≤ q → at g q ≡ at h q) → g ≡ over a n f h
is-over a n f h g e into low high =
    ext_get_or 0 g (over a n f h) (e ∙ sym (length_over a n f h)) (λ q y. let k : q < length h = rw e at y in go q k (locate a (a + n) q))
  where
    go : (q : ℕ) → q < length h → Where a (a + n) q → at g q ≡ at (over a n f h) q
    go q k (below x) = low q k x ∙ sym (over_below a n f h q k x)
    go q k (inside x y) = into q k x y ∙ sym (over-in a n f h q k x y)
    go q k (above x y) = high q k x ∙ sym (over-above a n f h q k x)

-- one byte of the part is set
pub set-over : (a n k v : ℕ) (f : ℕ → ℕ) (h : List ℕ) → a ≤ k → k < a + n → k < length h
    → set (over a n f h) k v ≡ over a n (λ q. cond (eqb q k) v (f q)) h
set-over a n k v f h x y z =
    is-over a n (λ q. cond (eqb q k) v (f q)) h (set (over a n f h) k v) (length-set (over a n f h) k v ∙ length_over a n f h)
    (λ q u i j. go q u i j (test (eqb q k)))
    (λ q u i. get_or-set_other (over a n f h) k q v 0 (λ e. omega arith) ∙ over_below a n f h q u i)
    (λ q u i. get_or-set_other (over a n f h) k q v 0 (λ e. omega arith) ∙ over-above a n f h q u i)
  where
    go : (q : ℕ) → q < length h → a ≤ q → q < a + n → Test (eqb q k) → at (set (over a n f h) k v) q ≡ cond (eqb q k) v (f q)
    go q u i j (is_true e) = let d : q ≡ k = eqb-true q k e in rw (e, d) (get_or-set_same (over a n f h) k v 0 (rw (length_over a n f h) z))
    go q u i j (is_false e) = rw e (get_or-set_other (over a n f h) k q v 0 (eqb-false q k e) ∙ over-in a n f h q u i j)

pub over-ext : (a n : ℕ) (f g : ℕ → ℕ) (h : List ℕ) → ((q : ℕ) → a ≤ q → q < a + n → f q ≡ g q) → over a n f h ≡ over a n g h
over-ext a n f g h e =
    is-over a n g h (over a n f h) (length_over a n f h) (λ q k x y. over-in a n f h q k x y ∙ e q x y) (over_below a n f h) (over-above a n f h)

-- a part written over in the table of g makes the table of h
pub over-tab : (size a n : ℕ) (f g h : ℕ → ℕ) → ((q : ℕ) → cond (in_part a n q) (f q) (g q) ≡ h q) → over a n f (tab 0 size g) ≡ tab 0 size h
over-tab size a n f g h e =
    is-tab size (over a n f (tab 0 size g)) h (length_over a n f (tab 0 size g) ∙ length-tab 0 size g)
    (λ q k. at-over a n f (tab 0 size g) q (rw (length-tab 0 size g) k) ∙ rw (at-tab size q g k) (e q))

pub over_none : (a : ℕ) (f : ℕ → ℕ) (h : List ℕ) → over a 0 f h ≡ h
over_none a f h = sym (is-over a 0 f h h refl (λ q k x y. absurd (omega arith)) (λ q k x. refl) (λ q k x. refl))

-- one place more
pub over-more : (a n : ℕ) (f : ℕ → ℕ) (h : List ℕ) → a + n < length h → set (over a n f h) (a + n) (f (a + n)) ≡ over a (suc n) f h
over-more a n f h k =
    is-over a (suc n) f h (set (over a n f h) (a + n) (f (a + n))) (simp (length-set, length_over))
    (λ q u x y. into q u x y (test (eqb q (a + n))))
    (λ q u x. get_or-set_other (over a n f h) (a + n) q (f (a + n)) 0 (λ e. omega arith) ∙ over_below a n f h q u x)
    (λ q u x. get_or-set_other (over a n f h) (a + n) q (f (a + n)) 0 (λ e. omega arith) ∙ over-above a n f h q u (omega arith))
  where
    into : (q : ℕ) → q < length h → a ≤ q → q < a + suc n → Test (eqb q (a + n)) → at (set (over a n f h) (a + n) (f (a + n))) q ≡ f q
    into q u x y (is_true e) =
        let w : q ≡ a + n = eqb-true q (a + n) e in
        rw w (get_or-set_same (over a n f h) (a + n) (f (a + n)) 0 (rw (length_over a n f h) k))
    into q u x y (is_false e) =
        let w : q ≢ a + n = eqb-false q (a + n) e in
        get_or-set_other (over a n f h) (a + n) q (f (a + n)) 0 w ∙ over-in a n f h q u x (omega arith)

-- a part, and the part right after it
pub over-next : (a m n : ℕ) (f g : ℕ → ℕ) (h : List ℕ) → ((q : ℕ) → a + m ≤ q → q < a + m + n → g q ≡ f q)
    → over (a + m) n g (over a m f h) ≡ over a (m + n) f h
over-next a m n f g h e =
    is-over a (m + n) f h (over (a + m) n g (over a m f h)) (length_over (a + m) n g (over a m f h) ∙ l)
    (λ q k x y. into q k x y (locate (a + m) (a + m + n) q))
    (λ q k x. over_below (a + m) n g (over a m f h) q (rw l k) (omega arith) ∙ over_below a m f h q k x)
    (λ q k x. over-above (a + m) n g (over a m f h) q (rw l k) (omega arith) ∙ over-above a m f h q k (omega arith))
  where
    l : length (over a m f h) ≡ length h
    l = length_over a m f h

    into : (q : ℕ) → q < length h → a ≤ q → q < a + (m + n) → Where (a + m) (a + m + n) q → at (over (a + m) n g (over a m f h)) q ≡ f q
    into q k x y (below u) = over_below (a + m) n g (over a m f h) q (rw l k) u ∙ over-in a m f h q k x u
    into q k x y (inside u v) = over-in (a + m) n g (over a m f h) q (rw l k) u v ∙ e q u v
    into q k x y (above u v) = absurd (omega arith)

-- bytes that are already what they are to become
pub over-tail : (a m n : ℕ) (f : ℕ → ℕ) (h : List ℕ) → ((q : ℕ) → q < length h → a + m ≤ q → q < a + m + n → at h q ≡ f q)
    → over a m f h ≡ over a (m + n) f h
over-tail a m n f h e =
    is-over a (m + n) f h (over a m f h) (length_over a m f h) (λ q k x y. into q k x y (locate a (a + m) q))
    (over_below a m f h)
    (λ q k x. over-above a m f h q k (omega arith))
  where
    into : (q : ℕ) → q < length h → a ≤ q → q < a + (m + n) → Where a (a + m) q → at (over a m f h) q ≡ f q
    into q k x y (below u) = absurd (omega arith)
    into q k x y (inside u v) = over-in a m f h q k u v
    into q k x y (above u v) = over-above a m f h q k u ∙ e q k u (omega arith)

-- ---- a part that was lent and has come back

pub part_length : (xs : List ℕ) (a n : ℕ) → a + n ≤ length xs → length (take ((a + n) - a) (drop a xs)) ≡ n
part_length xs a n h = simp (length-take, length-drop) (omega arith)

pub part_at : (xs : List ℕ) (a n i : ℕ) → i < n → at (take ((a + n) - a) (drop a xs)) i ≡ at xs (a + i)
part_at xs a n i h = rw (add-sub_cancel_left a n, get_or-take n (drop a xs) i 0 h) (get_or-drop a xs i 0)

at_joined : (xs last rest : List ℕ) (a n : ℕ) → a ≤ length xs → length last ≡ n
    → ((i : ℕ) → i < a → at (take a xs ++ (last ++ rest)) i ≡ at xs i)
    × ((i : ℕ) → i < n → at (take a xs ++ (last ++ rest)) (a + i) ≡ at last i)
    × ((i : ℕ) → at (take a xs ++ (last ++ rest)) (a + n + i) ≡ at rest i)
at_joined xs last rest a n h e =
    let l : length (take a xs) ≡ a = length-take-le a xs h in (
      λ i k. get_or-append (take a xs) (last ++ rest) 0 i (omega arith) ∙ get_or-take a xs i 0 k,
      λ i k. rw l at (get_or-append-add (take a xs) (last ++ rest) i 0) ∙ get_or-append last rest 0 i (omega arith),
      λ i. rw native.Mathlib.Nat.add_assoc (rw l at (get_or-append-add (take a xs) (last ++ rest) (n + i) 0)) ∙ rw e at (get_or-append-add last rest i 0),
    )

-- what a part that comes back as `last` makes of the whole
pub over-part : (xs last : List ℕ) (a n : ℕ) (f : ℕ → ℕ) → a + n ≤ length xs → length last ≡ n → ((i : ℕ) → i < n → at last i ≡ f (a + i))
    → take a xs ++ (last ++ drop ((a + n) - a) (drop a xs)) ≡ over a n f xs
over-part xs last a n f h e k =
    let rest : List ℕ = drop ((a + n) - a) (drop a xs) in
    let j = at_joined xs last rest a n (omega arith) e in
    is-over a n f xs (take a xs ++ (last ++ rest))
    (simp (length-append, length-take, length-drop) (omega arith))
    (λ q u x y. let w : a + (q - a) ≡ q = omega arith in rw w at (j.1 (q - a) (omega arith) ∙ k (q - a) (omega arith)))
    (λ q u x. j.0 q x)
    (λ q u x. let w : a + n + (q - (a + n)) ≡ q = omega arith in rw w at (j.2 (q - (a + n)) ∙ tail (q - (a + n))))
  where
    tail : (i : ℕ) → at (drop ((a + n) - a) (drop a xs)) i ≡ at xs (a + n + i)
    tail i = rw (add-sub_cancel_left a n, get_or-drop n (drop a xs) i 0, get_or-drop a xs (n + i) 0, native.Mathlib.Nat.add_assoc)

-- ---- each element of a list, of a table

pub each_append : {X : Type 0} (P : X → Type 0) (xs ys : List X) → Each P (xs ++ ys) → Each P xs × Each P ys
each_append P [] ys h = (tt, h)
each_append P (x ∷ xs) ys h = let r = each_append P xs ys h.1 in ((h.0, r.0), r.1)

pub each-tab : {X : Type 0} (P : X → Type 0) (f : ℕ → X) (a n i : ℕ) → Each P (tab a n f) → i < n → P (f (a + i))
unfolding tab
each-tab P f a zero i h k = absurd (omega arith)
each-tab P f a (suc n) zero h k = rw add-zero h.0
each-tab P f a (suc n) (suc i) h k = rw (add-suc a i, ← suc-add a i) (each-tab P f (suc a) n i h.1 (omega arith))

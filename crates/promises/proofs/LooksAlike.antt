-- A reading looks at few bytes, and shadows that agree there are read alike, for both forms and every map. Assumes nothing.
use mathlib.Core.Path.{◌≡◌, refl}
use mathlib.Core.Bool.{Bool, true, false, cond, not, ◌||◌, false≢true}
use mathlib.Core.List.{List, [], ◌∷◌, ◌++◌, map}
use Prim.Native.Nat.{ℕ, ◌+◌, ◌-◌, ◌/◌, ◌%◌, ◌≤◌, ◌<◌}
use native.Mathlib.Omega.{arith}
use lib.ListN.{length, length-append, length-map}
use lib.Dec.{leb, ltb, eqb}
use Rattle.number.specs.Little.{word}
use Rattle.number.specs.Parts.{at, tab, Each}
use Rattle.number.proofs.LittleLaws.{word_same}
use Rattle.number.proofs.PartLaws.{length-tab, each_append, each-tab}
use Rattle.number.proofs.TestLaws.{Test, is_true, is_false, test}
use Rattle.map.specs.declared.Form as kind
use Rattle.map.specs.declared.Form.TheVariants.{Player, Desk}
use Rattle.map.specs.FormMap.{number_size}
use Rattle.types.specs.Reading.{Reading, nothing, damaged}
use Rattle.specification.specs.Map.{Map, Shadows, heap_of, primary_of, secondary_of, stack_end, in_heap, in_stack, heap_position, stack_position}
use Rattle.specification.specs.Heap as player
use Rattle.specification.specs.Desk as desk
use Rattle.specification.specs.Stack.{piece_code, read_long, read_stack}
use Rattle.specification.specs.Readings.{reading}
use Rattle.specification.specs.Looks.{Spot, heap, secondary, byte_at, player_looks, desk_looks, stack_looks, looks}
use Rattle.specification.proofs.Forms.{form, read_by}

-- ---- the heap, with numbers of n bytes and segments of G

module _ (n G : ℕ) (m : Map) (segment bits : ℕ) (h : List ℕ) where
  -- the segment's number, and whether no header is looked at
  abbrev w : ℕ
  w = word (at h) (heap_position m segment) n

  abbrev stops : Bool
  stops = eqb w 0 || ltb segment (m.heap_start + G + (w - 1))

  abbrev header : ℕ
  header = heap_position m (segment - (w - 1) - n)

  abbrev looked : List ℕ
  looked = tab (heap_position m segment) n (λ i. i) ++ cond stops [] (tab header n (λ i. i) ++ (heap_position m bits ∷ []))

  few : length looked ≤ n + n + 1
  few = go (test stops)
    where
      go : Test stops → length looked ≤ n + n + 1
      go (is_true e) = rw e (simp (length-append, length-tab) (omega arith))
      go (is_false e) = rw e (simp (length-append, length-tab) (omega arith))

  module _ (k : List ℕ) (agree : Each (λ (i : ℕ). at k i ≡ at h i) looked) where
    words : (p : ℕ) → Each (λ (i : ℕ). at k i ≡ at h i) (tab p n (λ i. i)) → word (at k) p n ≡ word (at h) p n
    words p e = word_same (at k) (at h) p p n (λ i l. each-tab (λ (x : ℕ). at k x ≡ at h x) (λ x. x) p n i e l)

    first-same : word (at k) (heap_position m segment) n ≡ w
    first-same = words (heap_position m segment) (each_append (λ (i : ℕ). at k i ≡ at h i) (tab (heap_position m segment) n (λ i. i)) _ agree).0

    -- without a header, and with one
    either : (P : Type 0) → (stops ≡ true → P)
        → (word (at k) header n ≡ word (at h) header n → at k (heap_position m bits) ≡ at h (heap_position m bits) → P) → P
    either P f g = go (test stops)
      where
        go : Test stops → P
        go (is_true e) = f e
        go (is_false e) =
            let r = (each_append (λ (i : ℕ). at k i ≡ at h i) (tab (heap_position m segment) n (λ i. i)) _ agree).1 in
            let (x, y) = each_append (λ (i : ℕ). at k i ≡ at h i) (tab header n (λ i. i)) (heap_position m bits ∷ []) (rw e at r) in
            g (words header x) y.0

-- where the header is not looked at, nothing hangs on it
early : (t u v : Bool) (x y : Reading) → (t || v) ≡ true → cond t nothing (cond (u || v) damaged x) ≡ cond t nothing (cond (u || v) damaged y)
early true u v x y e = refl
early false true v x y e = refl
early false false true x y e = refl
early false false false x y e = absurd (false≢true e)

abbrev pub looks_by : kind.Form → Map → List ℕ → ℕ → List ℕ
looks_by Player = player_looks
looks_by Desk = desk_looks

heap-few : (f : kind.Form) (m : Map) (h : List ℕ) (a : ℕ) → length (looks_by f m h a) ≤ number_size f + number_size f + 1
heap-few Player m h a = few 4 8 m (player.segment_of m a) (player.bits_at m a) h
heap-few Desk m h a = few 8 16 m (desk.segment_of m a) (desk.bits_at m a) h

heap-alike : (f : kind.Form) (m : Map) (h k : List ℕ) (a : ℕ) → Each (λ (i : ℕ). at k i ≡ at h i) (looks_by f m h a)
    → (read_by f m k a ≡ read_by f m h a) × (looks_by f m k a ≡ looks_by f m h a)
unfolding player.read_heap desk.read_desk
heap-alike Player m h k a e =
    let (seg, bits) : ℕ × ℕ = (player.segment_of m a, player.bits_at m a) in
    let v = w 4 8 m seg bits h in
    let first = first-same 4 8 m seg bits h k e in (
      either 4 8 m seg bits h k e (player.read_heap m k a ≡ player.read_heap m h a)
          (λ x. rw first (early (eqb v 0) (not (eqb ((v - 1) % 8) 0)) (ltb seg (m.heap_start + 8 + (v - 1))) _ _ x)) (λ y z. rw (first, y, z)),
      rw first,
    )
heap-alike Desk m h k a e =
    let (seg, bits) : ℕ × ℕ = (desk.segment_of m a, desk.bits_at m a) in
    let v = w 8 16 m seg bits h in
    let first = first-same 8 16 m seg bits h k e in (
      either 8 16 m seg bits h k e (desk.read_desk m k a ≡ desk.read_desk m h a)
          (λ x. rw first (early (eqb v 0) (desk.is_huge v || not (eqb ((v - 1) % 16) 0)) (ltb seg (m.heap_start + 16 + (v - 1))) _ _ x)) (λ y z. rw (first, y, z)),
      rw first,
    )

-- ---- the stack

stopped : (c d t u v : Bool) (x y r q : Reading) → (t || u || v) ≡ true
    → cond c x (cond d y (cond t damaged (cond u damaged (cond v damaged r)))) ≡ cond c x (cond d y (cond t damaged (cond u damaged (cond v damaged q))))
stopped true d t u v x y r q e = refl
stopped false true t u v x y r q e = refl
stopped false false true u v x y r q e = refl
stopped false false false true v x y r q e = refl
stopped false false false false true x y r q e = refl
stopped false false false false false x y r q e = absurd (false≢true e)

module _ (m : Map) (s t : Shadows) (a : ℕ) where
  abbrev code : ℕ
  code = at (primary_of s) (stack_position m a) / 4

  abbrev piece : ℕ
  piece = a - (code - piece_code)

  abbrev alone : Bool
  alone = ltb code piece_code || leb 63 code || ltb a (m.stack_start + (code - piece_code)) || ltb (stack_end m) (piece + 8)

  abbrev Agree : Spot → Type 0
  Agree q = byte_at t q ≡ byte_at s q

  stack-few : length (stack_looks m (primary_of s) a) ≤ 9
  stack-few = go (test alone)
    where
      go : Test alone → length (stack_looks m (primary_of s) a) ≤ 9
      go (is_true e) = rw e (omega arith)
      go (is_false e) = rw e (simp length-tab (omega arith))

  stack-alike : Each Agree (stack_looks m (primary_of s) a)
      → (read_stack m (primary_of t) (secondary_of t) a ≡ read_stack m (primary_of s) (secondary_of s) a) × (stack_looks m (primary_of t) a ≡ stack_looks m (primary_of s) a)
  unfolding read_stack read_long
  stack-alike (first, rest) = (go (test alone), rw first)
    where
      at_piece : Each Agree (tab (stack_position m piece) 8 secondary) → (x : ℕ) → stack_position m piece ≤ x → x < stack_position m piece + 8
          → at (secondary_of t) x ≡ at (secondary_of s) x
      at_piece e x l u =
          let i : ℕ = x - stack_position m piece in
          let z : stack_position m piece + i ≡ x = omega arith in rw z at (each-tab Agree secondary (stack_position m piece) 8 i e (omega arith))

      go : Test alone → read_stack m (primary_of t) (secondary_of t) a ≡ read_stack m (primary_of s) (secondary_of s) a
      go (is_true e) =
          rw first (stopped (eqb code 0) (leb code 36) (ltb code piece_code || leb 63 code) (ltb a (m.stack_start + (code - piece_code))) (ltb (stack_end m) (piece + 8)) _ _ _ _ e)
      go (is_false e) =
          let b = at_piece (rw e at rest) in
          let p : ℕ = stack_position m piece in
          rw (
            first,
            word_same (at (secondary_of t)) (at (secondary_of s)) p p 4 (λ i l. b (p + i) (omega arith) (omega arith)),
            word_same (at (secondary_of t)) (at (secondary_of s)) (p + 4) (p + 4) 4 (λ i l. b (p + 4 + i) (omega arith) (omega arith)),
          )

-- ---- every address

each-heap : (s t : Shadows) (l : List ℕ) → Each (λ (q : Spot). byte_at t q ≡ byte_at s q) (map heap l) → Each (λ (i : ℕ). at (heap_of t) i ≡ at (heap_of s) i) l
each-heap s t [] e = tt
each-heap s t (i ∷ l) e = (e.0, each-heap s t l e.1)

module _ (f : kind.Form) (m : Map) (s : Shadows) (a : ℕ) where
  pub few_bytes : length (looks (looks_by f) m s a) ≤ cond (in_heap m a) (number_size f + number_size f + 1) 9
  few_bytes = go (test (in_heap m a)) (test (in_stack m a))
    where
      go : Test (in_heap m a) → Test (in_stack m a) → length (looks (looks_by f) m s a) ≤ cond (in_heap m a) (number_size f + number_size f + 1) 9
      go (is_true h) k = rw (h, length-map (looks_by f m (heap_of s) a) heap) (heap-few f m (heap_of s) a)
      go (is_false h) (is_true k) = rw (h, k) (stack-few m s s a)
      go (is_false h) (is_false k) = rw (h, k) (omega arith)

  pub reads_alike : (t : Shadows) → Each (λ (q : Spot). byte_at t q ≡ byte_at s q) (looks (looks_by f) m s a)
      → (reading (form f) m t a ≡ reading (form f) m s a) × (looks (looks_by f) m t a ≡ looks (looks_by f) m s a)
  unfolding reading
  reads_alike t e = go (test (in_heap m a)) (test (in_stack m a))
    where
      go : Test (in_heap m a) → Test (in_stack m a) → (reading (form f) m t a ≡ reading (form f) m s a) × (looks (looks_by f) m t a ≡ looks (looks_by f) m s a)
      go (is_true h) k = let (x, y) = heap-alike f m (heap_of s) (heap_of t) a (each-heap s t (looks_by f m (heap_of s) a) (rw h at e)) in (rw (h, x), rw (h, y))
      go (is_false h) (is_true k) = let (x, y) = stack-alike m s t a (rw (h, k) at e) in (rw (h, k, x), rw (h, k, y))
      go (is_false h) (is_false k) = (rw (h, k), rw (h, k))

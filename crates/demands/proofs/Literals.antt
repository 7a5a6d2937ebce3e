-- Text that may only be read, proved: see specs/Literals.antt for what each says; LiteralBegun.antt has the rest. Assumes nothing.
use mathlib.Core.Path.{◌≡◌, refl, sym, ap, ◌∙◌}
use mathlib.Core.Bool.{Bool, true, false, not, ◌&&◌, true≢false, false≢true}
use mathlib.Core.List.{List, ◌++◌}
use mathlib.Core.Option.{some}
use Prim.Native.Nat.{ℕ, zero, suc, ◌+◌, ◌-◌, ◌≤◌, ◌<◌}
use native.Mathlib.Omega.{arith}
use borrow.Author.Tests.{ne_eqb, eqb-true, eqb-false}
use Rattle.number.specs.Parts.{at, in_part}
use Rattle.number.proofs.TestLaws.{and-true, false_of, not-both, in-facts}
use Rattle.map.specs.FormMap.{FormMap}
use Rattle.map.specs.Map.{good_map}
use Rattle.plain.specs.Block.{Block, len, begun, contains, holds, has_base}
use Rattle.plain.specs.Blocks.{any, Has}
use Rattle.plain.specs.Rules.{Placed}
use Rattle.plain.specs.Areas.{map_rules}
use Rattle.plain.specs.Call.{Call, clear, begin, free, remove, written, ask, valid, initialised, next, audit, place, answer, yes_no, first_of, unless, by_rules}
use Rattle.plain.specs.PlainList.{by_list, list_after, list_answer, plain_step}
use Rattle.plain.proofs.BlockLaws.{contains-true, true-contains, holds-true, true-holds}
use Rattle.plain.proofs.KeptLaws.{has-proper, base-inside}
use Rattle.plain.proofs.LayerLaws.{listed}
use Rattle.plain.proofs.RunLaws.{free-accepted}
use Rattle.plain.proofs.HasLaws.{has-any, none_any, has-insert, has-remove, has-marks}
use Rattle.shadows.specs.Shadows.{image, Place, heap, primary, secondary, byte_at}
use Rattle.shadows.proofs.ShadowLaws.{map-sound}
use Rattle.shadows.proofs.OwnLaws.{primary-own, secondary-own}
use Rattle.monitor_base.specs.Calls.{call}
use Rattle.demands.specs.Addresses.{in_heap, in_stack}
use Rattle.demands.specs.Alters.{in_place}
use Rattle.demands.specs.Literals.{HeldBy, ReadExactly, WriteExactly, ends_literal, LiteralStays}
use Rattle.demands.proofs.Numbers.{stack-words}
use Rattle.demands.proofs.Demand3.{on_every_image, stays_placed}

-- ---- valid_read and valid

module _ (m : FormMap) (ok : good_map m ≡ true) (bs : List Block) (P : Placed (map_rules m) 0 bs) (w : Bool) (a n from : ℕ) (k : 1 ≤ n) where
  abbrev Good : Block → Bool
  Good b = holds a n b && contains from b && not (w && b.literal)

  -- what the list answers
  answers : call m (valid w a n from) (image m bs) ≡ (image m bs, yes_no (any Good bs))
  unfolding plain_step
  answers = on_every_image m ok bs P (valid w a n from) ∙ rw (ne_eqb n 0 (omega arith))

  held-good : (b : Block) → HeldBy b bs a n from → not (w && b.literal) ≡ true → Good b ≡ true
  held-good b h t = rw (true-holds a n b h.1 h.2, true-contains from b h.3 h.4, t)

  good-held : (b : Block) → Has b bs → Good b ≡ true → HeldBy b bs a n from × (not (w && b.literal) ≡ true)
  good-held b h e =
      let t = and-true (holds a n b && contains from b) (not (w && b.literal)) e in
      let u = and-true (holds a n b) (contains from b) t.0 in
      let x = holds-true a n b u.0 in
      let y = contains-true from b u.1 in
      ((h, x.0, x.1, y.0, y.1), t.1)

  yes : (b : Block) → HeldBy b bs a n from → not (w && b.literal) ≡ true → call m (valid w a n from) (image m bs) ≡ (image m bs, answer 0 1 0 0 0)
  yes b h t = answers ∙ rw (has-any Good h.0 (held-good b h t))

  no : ((b : Block) → HeldBy b bs a n from → not (w && b.literal) ≡ true → ⊥) → call m (valid w a n from) (image m bs) ≡ (image m bs, answer 0 0 0 0 0)
  no f = answers ∙ rw (none_any Good bs (λ b h e. let g = good-held b h e in f b g.0 g.1))

pub read_exactly : (m : FormMap) → ReadExactly m
read_exactly m ok bs P a n from k = (λ b h. yes m ok bs P false a n from k b h refl, λ f. no m ok bs P false a n from k (λ b h t. f b h))

not-not : (t : Bool) → not t ≡ true → t ≡ false
not-not true e = sym e
not-not false e = refl

pub write_exactly : (m : FormMap) → WriteExactly m
write_exactly m ok bs P a n from k = (
  λ b h l. yes m ok bs P true a n from k b h (ap not l),
  λ f. no m ok bs P true a n from k (λ b h t. f b h (not-not b.literal t)),
)

-- ---- a literal stays

module _ (m : FormMap) (ok : good_map m ≡ true) (bs : List Block) (P : Placed (map_rules m) 0 bs) (b : Block) (h : Has b bs) (t : b.literal ≡ true) where
  -- it lies in the stack
  no-heap : in_heap m b.base ≡ false
  no-heap = false_of (in_heap m b.base) (λ x. let z = (has-proper (map_rules m) 0 P h t).0 in true≢false (rw x at z))

  in_stack_lem : in_stack m b.base ≡ true
  in_stack_lem =
      let l = listed (map_rules m) (map-sound m ok) 0 P h in
      rw no-heap at (base-inside (map_rules m) (map-sound m ok) b.base (len b) l.some l.fits)

  -- so free of its base is not accepted
  freed-other : (x : ℕ) → first_of (by_rules (map_rules m) (free (suc x)) ++ by_list (map_rules m) (free (suc x)) bs) ≡ 0 → has_base (suc x) b ≡ false
  freed-other x z =
      false_of (has_base (suc x) b)
      (λ y. let q : b.base ≡ suc x = eqb-true b.base (suc x) y in
      not-both (in_stack m (suc x)) (ap (in_stack m) (sym q) ∙ in_stack_lem) (sym (stack-words m ok (suc x)) ∙ (free-accepted (map_rules m) x bs z).1))

  after-has : (c : Call) → first_of (by_rules (map_rules m) c ++ by_list (map_rules m) c bs) ≡ 0 → ends_literal b.base c ≡ false → Has b (list_after c bs)
  after-has clear z e = absurd (true≢false e)
  after-has (begin w x l) z e = has-insert (begun w x l) h
  after-has (free zero) z e = h
  after-has (free (suc x)) z e = has-remove (suc x) (freed-other x z) h
  after-has (remove x) z e = has-remove x (ne_eqb b.base x (λ y. eqb-false x b.base e (sym y))) h
  after-has (written a n) z e = has-marks n a (has-proper (map_rules m) 0 P h t).1 h
  after-has (ask a) z e = h
  after-has (valid w a n from) z e = h
  after-has (initialised a n) z e = h
  after-has (next a) z e = h
  after-has audit z e = h
  after-has (place l k) z e = h

  still-has : (c : Call) → ends_literal b.base c ≡ false → Has b (plain_step (map_rules m) c bs).0
  unfolding plain_step
  still-has c e = go (first_of (by_rules (map_rules m) c ++ by_list (map_rules m) c bs)) refl
    where
      go : (k : ℕ) → first_of (by_rules (map_rules m) c ++ by_list (map_rules m) c bs) ≡ k → Has b (unless k bs (list_after c bs, list_answer (map_rules m) c bs)).0
      go zero z = after-has c z e
      go (suc k) z = h

-- its bytes are those that it makes, on every image of a list that has it
same_bytes : (m : FormMap) → good_map m ≡ true → (bs cs : List Block) → Placed (map_rules m) 0 bs → Placed (map_rules m) 0 cs → (b : Block) → Has b bs → Has b cs
    → b.literal ≡ true → (q : Place) → in_place m b.base (len b) q ≡ true → byte_at (image m cs) q ≡ byte_at (image m bs) q
same_bytes m ok bs cs P Q b h k t q e = go q e
  where
    nh : in_heap m b.base ≡ false
    nh = no-heap m ok bs P b h t

    i : in_stack m b.base ≡ true
    i = in_stack_lem m ok bs P b h t

    part : (q : ℕ) → (not (in_heap m b.base) && in_part (b.base - m.stack_start) (len b) q) ≡ true
        → (b.base - m.stack_start ≤ q) × (q < b.base - m.stack_start + len b)
    part q e = in-facts (b.base - m.stack_start) (b.base - m.stack_start + len b) q (rw nh at e)

    go : (q : Place) → in_place m b.base (len b) q ≡ true → byte_at (image m cs) q ≡ byte_at (image m bs) q
    go (heap q) e = absurd (false≢true (rw nh at e))
    go (primary q) e =
        let p = part q e in primary-own m ok cs Q b k i q p.0 p.1 ∙ sym (primary-own m ok bs P b h i q p.0 p.1)
    go (secondary q) e =
        let p = part q e in secondary-own m ok cs Q b k i q p.0 p.1 ∙ sym (secondary-own m ok bs P b h i q p.0 p.1)

pub literal_stays : (m : FormMap) → LiteralStays m
literal_stays m ok bs P b h t c e =
    let k = still-has m ok bs P b h t c e in (
      k,
      λ q x. rw (on_every_image m ok bs P c)
          (same_bytes m ok bs (plain_step (map_rules m) c bs).0 P (stays_placed m ok bs P c) b h k t q x),
    )

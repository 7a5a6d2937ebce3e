-- Only heap blocks may be freed, proved: see specs/Removals.antt for what each says. Assumes nothing.
use mathlib.Core.Path.{◌≡◌, refl, sym, ap, ◌∙◌}
use mathlib.Core.Logic.{◌⊎◌, inl, inr, ⊎_elim}
use mathlib.Core.Bool.{Bool, true, false, cond, not, ◌&&◌, ◌||◌, true≢false}
use mathlib.Core.List.{List, ◌++◌}
use mathlib.Core.Option.{Option, none, some}
use Prim.Native.Nat.{ℕ, zero, suc}
use borrow.Author.Tests.{eq-eqb, eqb-true}
use Rattle.number.proofs.TestLaws.{false_of, not-both}
use Rattle.map.specs.FormMap.{FormMap}
use Rattle.map.specs.Map.{good_map}
use Rattle.plain.specs.Areas.{map_rules}
use Rattle.plain.specs.Block.{Block, has_base}
use Rattle.plain.specs.Blocks.{find, found, any}
use Rattle.plain.specs.Rules.{Placed}
use Rattle.plain.specs.Call.{Call, free, remove, Answer, number, first_of, unless, is_stack, by_rules}
use Rattle.plain.specs.PlainList.{by_list, plain_step}
use Rattle.plain.specs.ShadowCalls.{shadows_after, shadow_answer}
use Rattle.plain.proofs.HasLaws.{has-any}
use Rattle.plain.proofs.JoinLaws.{true-or}
use Rattle.plain.proofs.ListLaws.{find-has}
use Rattle.plain.proofs.RunLaws as plain
use Rattle.shadows.specs.Shadows.{Shadows, shadow_ops, image}
use Rattle.monitor_base.specs.Calls.{refusals, call}
use Rattle.monitor_base.proofs.LocatingLaws.{null-inside}
use Rattle.demands.specs.Addresses.{in_heap, in_stack}
use Rattle.demands.specs.Demand1.{number_of}
use Rattle.demands.specs.Removals.{FreeOfStack, RemoveElsewhere, EachItsArea, BaseOf, FreeExactly, RemoveExactly}
use Rattle.demands.proofs.Numbers.{number-first, none-holds, apart_words, stack-words}
use Rattle.demands.proofs.Demand3.{on_every_image}

-- ---- what follows from arguments and map

stack-inside : (m : FormMap) (a : ℕ) → in_stack m a ≡ true → (map_rules m).inside a ≡ true
stack-inside m a i = true-or (in_heap m a) (in_stack m a) i

-- an address of the stack is not 0
pub free_of_stack : (m : FormMap) → FreeOfStack m
unfolding call plain_step
free_of_stack m ok zero i = absurd (not-both ((map_rules m).inside 0) (stack-inside m 0 i) (null-inside m ok))
free_of_stack m ok (suc x) i =
    let k : is_stack (map_rules m) (suc x) ≡ true = stack-words m ok (suc x) ∙ i in
    (λ s fit. rw (ok, fit, k, stack-inside m (suc x) i), λ bs. rw (k, stack-inside m (suc x) i))

pub remove_elsewhere : (m : FormMap) → RemoveElsewhere m
unfolding call plain_step
remove_elsewhere m ok a i =
    let k : is_stack (map_rules m) a ≡ false = stack-words m ok a ∙ i in
    (λ s fit. rw (ok, fit, k), λ bs. rw k)

-- ---- each in its area

-- an accepted call alone alters anything
unaltered : {X : Type 0} (m : FormMap) (c : Call) (s : Shadows) (part : Shadows → X)
    → (number_of m c s ≡ 0 → part (shadows_after (map_rules m) (shadow_ops m) c s) ≡ part s) → part (call m c s).0 ≡ part s
unfolding call
unaltered m c s part h = go (first_of (refusals m c s)) (number-first m c s)
  where
    go : (k : ℕ) → number_of m c s ≡ k
        → part (unless k s (shadows_after (map_rules m) (shadow_ops m) c s, shadow_answer (map_rules m) (shadow_ops m) c s)).0 ≡ part s
    go zero e = h e
    go (suc k) e = refl

-- neither 4 nor 15 of free: in the heap; not 4 of remove: not there
in-heap : (h k : Bool) → not (h || k) ≡ false → ((h || k) && not (cond h true false)) ≡ false → h ≡ true
in-heap true k o n = refl
in-heap false true o n = absurd (true≢false n)
in-heap false false o n = absurd (true≢false o)

not_heap : (h k : Bool) → not ((h || k) && not (cond h true false)) ≡ false → h ≡ false
not_heap true k o = absurd (true≢false o)
not_heap false k o = refl

freed-heap : (m : FormMap) (x : ℕ) (s : Shadows) → number_of m (free (suc x)) s ≡ 0 → in_heap m (suc x) ≡ true
freed-heap m x s e =
    let (one, (two, (four, (fifteen, later)))) = none-holds m (free (suc x)) s refl e in
    in-heap (in_heap m (suc x)) (in_stack m (suc x)) four fifteen

removed-stack : (m : FormMap) (a : ℕ) (s : Shadows) → number_of m (remove a) s ≡ 0 → in_heap m a ≡ false
removed-stack m a s e =
    let (one, (two, (four, later))) = none-holds m (remove a) s refl e in
    not_heap (in_heap m a) (in_stack m a) four

pub each_its_area : (m : FormMap) → EachItsArea m
each_its_area m a s = (frees a, unaltered m (remove a) s (λ t. t.0) (λ e. rw (removed-stack m a s e)))
  where
    frees : (a : ℕ) → (call m (free a) s).0.1 ≡ s.1
    frees zero = unaltered m (free 0) s (λ t. t.1) (λ e. refl)
    frees (suc x) = unaltered m (free (suc x)) s (λ t. t.1) (λ e. rw (freed-heap m x s e))

-- ---- on every image

module _ (m : FormMap) (ok : good_map m ≡ true) (bs : List Block) (P : Placed (map_rules m) 0 bs) where
  -- the number of a call is that of the list
  listed : (c : Call) → number_of m c (image m bs) ≡ first_of (by_rules (map_rules m) c ++ by_list (map_rules m) c bs)
  listed c = ap (λ (r : Shadows × Answer). number r.1) (on_every_image m ok bs P c) ∙ plain.number-first (map_rules m) c bs

  base-any : (a : ℕ) → BaseOf a bs → any (has_base a) bs ≡ true
  base-any a (b, h, e) = has-any (has_base a) h (eq-eqb b.base a e)

  any-base : (a : ℕ) → any (has_base a) bs ≡ true → BaseOf a bs
  any-base a e = go (find (has_base a) bs) refl e
    where
      go : (o : Option Block) → find (has_base a) bs ≡ o → found o ≡ true → BaseOf a bs
      go none q e = absurd (true≢false (sym e))
      go (some b) q e = let k = find-has (has_base a) bs b q in (b, k.0, eqb-true b.base a k.1)

  heap_of : (h k : Bool) → (h || k) ≡ true → k ≡ false → h ≡ true
  heap_of true k i n = refl
  heap_of false k i n = absurd (not-both k i n)

  free-accepted : (a : ℕ) → (in_heap m a ≡ true) × BaseOf a bs → number_of m (free a) (image m bs) ≡ 0
  free-accepted zero q = listed (free 0)
  free-accepted (suc x) (h, b) =
      let k : is_stack (map_rules m) (suc x) ≡ false = stack-words m ok (suc x) ∙ false_of (in_stack m (suc x)) (apart_words m ok (suc x) h) in
      listed (free (suc x)) ∙ rw (k, h, base-any (suc x) b)

  free-told : (a : ℕ) → number_of m (free a) (image m bs) ≡ 0 → (a ≡ 0) ⊎ ((in_heap m a ≡ true) × BaseOf a bs)
  free-told zero e = inl refl
  free-told (suc x) e =
      let t = plain.free-accepted (map_rules m) x bs (sym (listed (free (suc x))) ∙ e) in
      inr (heap_of (in_heap m (suc x)) (in_stack m (suc x)) t.0 (sym (stack-words m ok (suc x)) ∙ t.1), any-base (suc x) t.2)

  remove-accepted : (a : ℕ) → (in_stack m a ≡ true) × BaseOf a bs → number_of m (remove a) (image m bs) ≡ 0
  remove-accepted a (i, b) =
      let k : is_stack (map_rules m) a ≡ true = stack-words m ok a ∙ i in
      listed (remove a) ∙ rw (k, base-any a b)

  remove-told : (a : ℕ) → number_of m (remove a) (image m bs) ≡ 0 → (in_stack m a ≡ true) × BaseOf a bs
  remove-told a e =
      let t = plain.remove-accepted (map_rules m) a bs (sym (listed (remove a)) ∙ e) in
      (sym (stack-words m ok a) ∙ t.0, any-base a t.1)

pub free_exactly : (m : FormMap) → FreeExactly m
free_exactly m ok bs P a = (⊎_elim (λ z. rw z (listed m ok bs P (free 0))) (free-accepted m ok bs P a), free-told m ok bs P a)

pub remove_exactly : (m : FormMap) → RemoveExactly m
remove_exactly m ok bs P a = (remove-accepted m ok bs P a, remove-told m ok bs P a)

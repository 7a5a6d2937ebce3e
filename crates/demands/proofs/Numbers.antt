-- The number of a call, by the conditions that define it (`refusals`), and what these say in the words of specs/Addresses.antt. Assumes nothing.
use mathlib.Core.Path.{◌≡◌, refl, sym, ◌∙◌}
use mathlib.Core.Bool.{Bool, true, false, cond, not, ◌&&◌, ◌||◌}
use mathlib.Core.List.{List, [], ◌∷◌}
use Prim.Native.Nat.{ℕ}
use native.Mathlib.Omega.{arith}
use lib.Dec.{eqb}
use borrow.Author.Tests.{eqb-false, not-true}
use Rattle.number.specs.Parts.{Each}
use Rattle.number.proofs.TestLaws.{Test, is_true, is_false, test, and-true}
use Rattle.map.specs.FormMap.{FormMap}
use Rattle.map.specs.Map.{good_map}
use Rattle.map.proofs.MapLaws.{good-true, within-true}
use Rattle.plain.specs.Areas.{map_rules}
use Rattle.plain.specs.Ops.{read_any}
use Rattle.plain.specs.Reading.{Reading, nothing}
use Rattle.plain.specs.Call.{Call, number, Refusal, first_of, is_stack}
use Rattle.plain.proofs.AnswerLaws.{accepted-0}
use Rattle.plain.proofs.RunLaws.{unless-number}
use Rattle.shadows.specs.Shadows.{Shadows, shadow_ops}
use Rattle.monitor_base.specs.Calls.{refusals, call}
use Rattle.demands.specs.Addresses.{in_heap, in_stack, outside, reading_at}

-- ---- the first condition that holds

-- what a call answers where it is not refused has number 0
pub number-first : (m : FormMap) (c : Call) (s : Shadows) → number (call m c s).1 ≡ first_of (refusals m c s)
unfolding call
number-first m c s = unless-number (first_of (refusals m c s)) s _ (accepted-0 (map_rules m) (shadow_ops m) c s)

-- no number of a list is 0
abbrev numbered : List Refusal → Bool
numbered [] = true
numbered (r ∷ rs) = not (eqb r.0 0) && numbered rs

none_first : (rs : List Refusal) → numbered rs ≡ true → first_of rs ≡ 0 → Each (λ (r : Refusal). r.1 ≡ false) rs
none_first [] n e = tt
none_first (r ∷ rs) n e = go (test r.1) (and-true (not (eqb r.0 0)) (numbered rs) n) (none_first rs)
  where
    go : Test r.1 → (not (eqb r.0 0) ≡ true) × (numbered rs ≡ true) → (numbered rs ≡ true → first_of rs ≡ 0 → Each (λ (q : Refusal). q.1 ≡ false) rs)
        → Each (λ (q : Refusal). q.1 ≡ false) (r ∷ rs)
    go (is_true t) (p, q) ih = absurd (eqb-false r.0 0 (not-true (eqb r.0 0) p) (rw t at e))
    go (is_false t) (p, q) ih = (t, ih q (rw t at e))

-- a call that is accepted: none of its conditions holds; of a call that is not told apart, map and lengths are right
pub none-holds : (m : FormMap) (c : Call) (s : Shadows) → numbered (refusals m c s) ≡ true → number (call m c s).1 ≡ 0
    → Each (λ (r : Refusal). r.1 ≡ false) (refusals m c s)
none-holds m c s n e = none_first (refusals m c s) n (sym (number-first m c s) ∙ e)

pub first_two : (g f : Bool) (k : ℕ) → cond (not g) 1 (cond (not f) 2 k) ≡ 0 → (g ≡ true) × (f ≡ true)
first_two true true k e = (refl, refl)
first_two true false k e = absurd (omega arith)
first_two false f k e = absurd (omega arith)

-- ---- what the map's rules and the readings are, by addresses

neither : (h k : Bool) → not (h || k) ≡ (not h && not k)
neither true k = refl
neither false k = refl

either : (h k : Bool) (x y : Reading) → cond (h || k) (cond h x y) nothing ≡ cond h x (cond k y nothing)
either true k x y = refl
either false k x y = refl

pub outside-words : (m : FormMap) (a : ℕ) → not ((map_rules m).inside a) ≡ outside m a
outside-words m a = neither (in_heap m a) (in_stack m a)

-- an address of the stack, which is not the heap's
on_stack : (h k : Bool) → (h ≡ true → k ≡ true → ⊥) → ((h || k) && not (cond h true false)) ≡ k
on_stack true true n = absurd (n refl refl)
on_stack true false n = refl
on_stack false true n = refl
on_stack false false n = refl

-- the areas of a good map share no address
pub apart_words : (m : FormMap) → good_map m ≡ true → (a : ℕ) → in_heap m a ≡ true → in_stack m a ≡ true → ⊥
apart_words m ok a h k =
    let g = good-true m ok in
    let u = within-true m.heap_start m.heap_size a h in
    let v = within-true m.stack_start m.stack_size a k in
    g.no_share (omega arith) (omega arith)

pub stack-words : (m : FormMap) → good_map m ≡ true → (a : ℕ) → is_stack (map_rules m) a ≡ in_stack m a
stack-words m ok a = on_stack (in_heap m a) (in_stack m a) (apart_words m ok a)

pub reading-words : (m : FormMap) (s : Shadows) (a : ℕ) → read_any (map_rules m) (shadow_ops m) s a ≡ reading_at m s a
unfolding read_any
reading-words m s a = either (in_heap m a) (in_stack m a) _ _

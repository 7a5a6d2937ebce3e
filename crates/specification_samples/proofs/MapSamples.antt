-- The samples of 1 and 2 hold: the rules are computed over the tables, and what they say holds for every call. Assumes nothing.
use mathlib.Core.Path.{◌≡◌, refl}
use mathlib.Core.Bool.{Bool, true, not, ◌&&◌, cond}
use mathlib.Core.List.{List, [], ◌∷◌}
use Prim.Native.Nat.{ℕ, suc}
use lib.Dec.{eqb}
use Rattle.number.specs.Parts.{Each}
use Rattle.number.proofs.TestLaws.{Test, is_true, is_false, test, and-true}
use Rattle.types.specs.Call.{Call, clear, begin, free, remove, written, ask, valid, initialised, next, audit, place, Answer, refusal, unless}
use Rattle.specification.specs.Map.{Map, Shadows, good, right_lengths}
use Rattle.specification.specs.Form.{Form}
use Rattle.specification.specs.Heap.{player}
use Rattle.specification.specs.Desk as desks
use Rattle.specification.specs.Desk.{desk}
use Rattle.specification.specs.Calls as calls
use Rattle.specification.specs.Place as places
use Rattle.specification.specs.Audit as audits
use Rattle.specification.specs.Call.{call}
use Rattle.specification_samples.specs.Samples.{sample_map}
use Rattle.specification_samples.specs.MapSamples.{zeros_of, bad_maps, good_maps, wrong_lengths, MapSamplesHold}
use Rattle.specification_samples.specs.DeskSamples.{desk_bad_maps, desk_good_maps, DeskMapSamplesHold}

-- ---- what refuses one call by 1 or 2 refuses every call

module _ (F : Form) (m : Map) (s : Shadows) where
  -- the first number, where a call's own come to n
  abbrev first : ℕ → ℕ
  first n = cond (not (F.good m)) 1 (cond (not (right_lengths m s)) 2 n)

  module _ (k : ℕ) (h : (n : ℕ) → first n ≡ suc k) where
    refused : (n : ℕ) (does : Shadows × Answer) → unless (first n) s does ≡ (s, refusal (suc k))
    refused n does = rw (h n)

    every : (c : Call) → call F m c s ≡ (s, refusal (suc k))
    unfolding call calls.clear calls.begin calls.free calls.remove calls.written calls.ask calls.valid calls.initialised calls.next audits.audit places.place
    every clear = refused _ _
    every (begin how b l) = refused _ _
    every (free x) = go (test (eqb x 0))
      where
        go : Test (eqb x 0) → calls.free F m x s ≡ (s, refusal (suc k))
        go (is_true e) = rw e (refused _ _)
        go (is_false e) = rw e (refused _ _)
    every (remove x) = refused _ _
    every (written a n) = refused _ _
    every (ask a) = refused _ _
    every (valid w a n from) = refused _ _
    every (initialised a n) = refused _ _
    every (next a) = refused _ _
    every audit = refused _ _
    every (place l budget) = refused _ _

  by_one : not (F.good m) ≡ true → (c : Call) → call F m c s ≡ (s, refusal 1)
  by_one e = every 0 (λ n. rw e)

  by_two : (F.good m && not (right_lengths m s)) ≡ true → (c : Call) → call F m c s ≡ (s, refusal 2)
  by_two e = let t = and-true (F.good m) (not (right_lengths m s)) e in every 1 (λ n. rw (t.0, t.1))

-- ---- the tables

-- a test passes on each element
all : {X : Type 0} → (X → Bool) → List X → Bool
all p [] = true
all p (x ∷ xs) = p x && all p xs

all-each : {X : Type 0} (p : X → Bool) (P : X → Type 0) → ((x : X) → p x ≡ true → P x) → (xs : List X) → all p xs ≡ true → Each P xs
unfolding all
all-each p P h [] e = tt
all-each p P h (x ∷ xs) e = let t = and-true (p x) (all p xs) e in (h x t.0, all-each p P h xs t.1)

bad-maps : all (λ (m : Map). not (good m)) bad_maps ≡ true
unfolding all good bad_maps
bad-maps = refl

good-maps : all (λ (m : Map). good m && not (right_lengths m (zeros_of 0 0 0))) good_maps ≡ true
unfolding all good right_lengths good_maps
good-maps = refl

wrong-lengths : all (λ (s : Shadows). good sample_map && not (right_lengths sample_map s)) wrong_lengths ≡ true
unfolding all good right_lengths wrong_lengths
wrong-lengths = refl

pub map_samples_hold : MapSamplesHold
unfolding call calls.clear good right_lengths
map_samples_hold = (
  all-each (λ (m : Map). not (good m)) _ (λ m e c s. by_one player m s e c) bad_maps bad-maps,
  all-each (λ (m : Map). good m && not (right_lengths m (zeros_of 0 0 0))) _ (λ m e. by_two player m (zeros_of 0 0 0) e) good_maps good-maps,
  all-each (λ (s : Shadows). good sample_map && not (right_lengths sample_map s)) _ (λ s e. by_two player sample_map s e) wrong_lengths wrong-lengths,
  refl,
)

desk-bad-maps : all (λ (m : Map). not (desks.good m)) desk_bad_maps ≡ true
unfolding all desks.good desk_bad_maps
desk-bad-maps = refl

desk-good-maps : all (λ (m : Map). desks.good m && not (right_lengths m (zeros_of 0 0 0))) desk_good_maps ≡ true
unfolding all desks.good right_lengths desk_good_maps
desk-good-maps = refl

pub desk_map_samples_hold : DeskMapSamplesHold
desk_map_samples_hold = (
  all-each (λ (m : Map). not (desks.good m)) _ (λ m e c s. by_one desk m s e c) desk_bad_maps desk-bad-maps,
  all-each (λ (m : Map). desks.good m && not (right_lengths m (zeros_of 0 0 0))) _ (λ m e. by_two desk m (zeros_of 0 0 0) e) desk_good_maps desk-good-maps,
)

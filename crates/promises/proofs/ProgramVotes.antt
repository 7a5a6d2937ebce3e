-- What the calls programs keep, answer and print is what the plain list does: see specification_programs, Votes.antt. Assumes nothing.
use mathlib.Core.Path.{◌≡◌, refl, sym, ap, ◌∙◌}
use mathlib.Core.Logic.{◌≢◌}
use mathlib.Core.Bool.{Bool, true, false, cond, not, ◌||◌, true≢false}
use mathlib.Core.List.{List, [], ◌∷◌}
use mathlib.Core.Option.{Option, none, some}
use Prim.Native.Nat.{ℕ, zero, suc, ◌≤◌}
use native.Mathlib.Omega.{arith}
use lib.ListN.{length, drop}
use lib.Dec.{ltb}
use Rattle.number.specs.Parts.{Each, tab}
use Rattle.number.proofs.TestLaws.{Test, is_true, is_false, test}
use Rattle.number.proofs.PartLaws.{tab-zero}
use Rattle.map.specs.declared.Form.TheVariants.{Player}
use Rattle.map.specs.FormMap as library
use Rattle.plain.specs.Areas.{map_rules}
use Rattle.plain.proofs.RunLaws as run-laws
use Rattle.types.specs.Map.{Map}
use Rattle.types.specs.Block.{Block}
use Rattle.types.specs.Origins as origins
use Rattle.types.specs.Origins.{plain, point, copy, live, OriginList}
use Rattle.origins_list.proofs.CarriedLaws as carried-laws
use Rattle.demands_origins.proofs.Demand3.{first-image}
use Rattle.types.specs.Call.{Call, Answer, number, done, refusal, unless}
use Rattle.specification.specs.Map.{Shadows, good, zeroed}
use Rattle.specification.specs.Heap.{player}
use Rattle.specification.specs.PlainList.{on_list}
use Rattle.specification.specs.Image.{given, image, may_stand}
use Rattle.specification.specs.Call as Plain-Form
use Rattle.specification.specs.Votes as plain-votes
use Rattle.specification.specs.Votes.{Stands, shadow_run, list_run}
use Rattle.specification.proofs.Same.{good-same, player-list}
use Rattle.specification_origins.specs.Cells.{cells_image}
use Rattle.specification_origins.specs.Origins as origins-form
use Rattle.specification_origins.specs.Origins.{Lent}
use Rattle.specification_origins.specs.OriginsList.{on_origins, image_of}
use Rattle.specification_origins.specs.Votes as origins-votes
use Rattle.specification_origins.specs.Votes.{first, first_list, lent_run, Carries}
use Rattle.specification_origins.proofs.OriginsListSame.{step_same, image_same}
use Rattle.specification_programs.specs.Records.{Asks, new_map, call, Kind, field_in, plain_kinds, origins_kinds, first_kind}
use Rattle.specification_programs.specs.Programs as programs
use Rattle.specification_programs.specs.Programs.{Form, State, program_heap, program_stack, map_number, no_map, served, printed, plain_form, origins_form}
use Rattle.specification_programs.specs.Votes.{run_of, ProgramVote}
use Rattle.promises.proofs.FirstVote.{first-vote}
use Rattle.promises.proofs.ThirdVote.{third-vote}
use Rattle.promises.proofs.OriginsVotes.{origins-third-vote}

-- ---- a map's number

map-good : (g h : Bool) → ◌≡◌ {A = ℕ} (cond (not g) 1 (cond h 10 0)) 0 → g ≡ true
map-good true h e = refl
map-good false h e = absurd (omega arith)

map-eight : (g h : Bool) → ◌≢◌ {A = ℕ} (cond (not g) 1 (cond h 10 0)) 8
map-eight true true e = absurd (omega arith)
map-eight true false e = absurd (omega arith)
map-eight false h e = absurd (omega arith)

abbrev above : Map → Bool
above n = ltb program_heap n.heap_size || ltb program_stack n.stack_size

-- ---- a program on what is lent, X, and on a list, Y, that it stands for

pub record Mirrors {C X Y : Type 0} (call_x : Map → C → X → X × Answer) (call_y : Map → C → Y → Y × Answer) (cleared_x : Map → X → X)
    (cleared_y : Map → Y → Y) (image : Map → Y → X) (Holds : Map → Y → Type 0) : Type 0 where
  pub calls : (m : Map) (c : C) (y : Y) → Holds m y → call_x m c (image m y) ≡ (image m (call_y m c y).0, (call_y m c y).1)
  pub calls-hold : (m : Map) (c : C) (y : Y) → Holds m y → Holds m (call_y m c y).0
  pub calls-8 : (m : Map) (c : C) (y : Y) → number (call_y m c y).1 ≢ 8
  pub clears : (m n : Map) (y : Y) → good n ≡ true → cleared_x n (image m y) ≡ image n (cleared_y n y)
  pub clears-hold : (m n : Map) (y : Y) → Holds m y → Holds n (cleared_y n y)

module _ {C X Y : Type 0} (kinds : List (Kind C)) (call_x : Map → C → X → X × Answer) (call_y : Map → C → Y → Y × Answer) (cleared_x : Map → X → X)
    (cleared_y : Map → Y → Y) (image : Map → Y → X) (Holds : Map → Y → Type 0) (first_x : X) (first_y : Y)
    (M : Mirrors call_x call_y cleared_x cleared_y image Holds) where
  abbrev F : Form
  F = record { Calls = C; Lent = X; kinds = kinds; call_of = call_x; first = first_x; cleared = cleared_x }

  abbrev L : Form
  L = record { Calls = C; Lent = Y; kinds = kinds; call_of = call_y; first = first_y; cleared = cleared_y }

  abbrev shown : State L → State F
  shown s = (s.0, image s.0 s.1)

  one : (r : Asks C) (s : State L) → Holds s.0 s.1 → served F r (shown s) ≡ (shown (served L r s).0, (served L r s).1)
  one (new_map n) (m, y) h = go (map_number n) refl
    where
      go : (k : ℕ) → map_number n ≡ k → unless {S = State F} k (m, image m y) ((n, cleared_x n (image m y)), done)
          ≡ (shown (unless {S = State L} k (m, y) ((n, cleared_y n y), done)).0, (unless {S = State L} k (m, y) ((n, cleared_y n y), done)).1)
      go zero e = rw (M.clears m n y (map-good (good n) (above n) e))
      go (suc k) e = refl
  one (call c) (m, y) h = rw (M.calls m c y h)

  holds : (r : Asks C) (s : State L) → Holds s.0 s.1 → Holds (served L r s).0.0 (served L r s).0.1
  holds (new_map n) (m, y) h = go (map_number n)
    where
      go : (k : ℕ) → Holds (unless {S = State L} k (m, y) ((n, cleared_y n y), done)).0.0 (unless {S = State L} k (m, y) ((n, cleared_y n y), done)).0.1
      go zero = M.clears-hold m n y h
      go (suc k) = h
  holds (call c) (m, y) h = M.calls-hold m c y h

  no-8 : (r : Asks C) (s : State L) → number (served L r s).1 ≢ 8
  no-8 (new_map n) (m, y) e = go (map_number n) refl e
    where
      go : (k : ℕ) → map_number n ≡ k → number (unless {S = State L} k (m, y) ((n, cleared_y n y), done)).1 ≡ 8 → ⊥
      go zero i j = absurd (omega arith)
      go (suc k) i j = map-eight (good n) (above n) (i ∙ j)
  no-8 (call c) (m, y) e = M.calls-8 m c y e

  pub runs : (rs : List (Asks C)) (s : State L) → Holds s.0 s.1 → run_of F (λ x. x) (shown s) rs ≡ run_of L shown s rs
  unfolding run_of
  runs [] s h = refl
  runs (r ∷ rs) s h = rw (one r s h, runs rs (served L r s).0 (holds r s h))

  pub never-8 : (rs : List (Asks C)) (s : State L) → Holds s.0 s.1
      → Each (λ (r : Answer × State F). number r.0 ≢ 8) (run_of F (λ x. x) (shown s) rs)
  unfolding run_of
  never-8 [] s h = tt
  never-8 (r ∷ rs) s h = rw (one r s h) (no-8 r s, never-8 rs (served L r s).0 (holds r s h))

  prints : (n : ℕ) (s : State L) (l : List ℕ) → Holds s.0 s.1 → printed F n (shown s) l ≡ printed L n s l
  unfolding printed
  prints zero s l h = refl
  prints (suc n) s [] h = refl
  prints (suc n) s (b ∷ l) h = go (first_kind kinds (b ∷ l)) (prints n)
    where
      go : (o : Option (Kind C)) → ((t : State L) (k : List ℕ) → Holds t.0 t.1 → printed F n (shown t) k ≡ printed L n t k)
          → programs.first F (printed F n) (shown s) (b ∷ l) o ≡ programs.first L (printed L n) s (b ∷ l) o
      go none ih = refl
      go (some k) ih =
          let r = k.asks (field_in (b ∷ l)) in
          rw (one r s h, ih (served L r s).0 (drop k.length (b ∷ l)) (holds r s h))

-- ---- the plain program

heads : {A : Type 0} (x y : A) (xs ys : List A) → x ∷ xs ≡ y ∷ ys → x ≡ y
heads x y xs ys e = cc

image_nil : (m : Map) → zeroed m ≡ image player m []
unfolding image given
image_nil m = rw (tab-zero m.heap_size 0 (λ q. 0) (λ q. refl), tab-zero m.stack_size 0 (λ q. 0) (λ q. refl))

module _ (m : Map) where
  on-image : good m ≡ true → (c : Call) (bs : List Block) → Stands player m bs
      → Plain-Form.call player m c (image player m bs) ≡ (image player m (on_list player m c bs).0, (on_list player m c bs).1)
  unfolding shadow_run list_run
  on-image g c bs S = ap (λ (r : Answer × Shadows). (r.1, r.0)) (heads _ _ _ _ ((third-vote Player m).image_run g bs S (c ∷ [])))

  by-1 : good m ≡ false → (c : Call) (s : Shadows) → Plain-Form.call player m c s ≡ (s, refusal 1)
  by-1 g c s =
      let vote = first-vote Player m in
      let e : plain-votes.number_of player m c s ≡ 1 = vote.by_the_table c s ∙ rw g in
      rw e at (vote.refused_alters_nothing c s (λ z. let w : ◌≡◌ {A = ℕ} 1 0 = sym e ∙ z in omega arith))

abbrev list_call : Map → Call → List Block → List Block × Answer
list_call m c bs = cond (good m) (on_list player m c bs) (bs, refusal 1)

abbrev Standing : Map → List Block → Type 0
Standing m bs = good m ≡ true → Stands player m bs

plain-mirrors : Mirrors (Plain-Form.call player) list_call (λ m s. zeroed m) (λ m bs. []) (image player) Standing
unfolding may_stand
plain-mirrors =
    record {
      calls = λ m c bs h. both m c bs h (test (good m));
      calls-hold = λ m c bs h g. rw g ((third-vote Player m).stays_standing g bs (h g) c);
      calls-8 = λ m c bs. eight m c bs (test (good m));
      clears = λ m n bs g. image_nil n;
      clears-hold = λ m n bs h g. refl;
    }
  where
    both : (m : Map) (c : Call) (bs : List Block) → Standing m bs → Test (good m)
        → Plain-Form.call player m c (image player m bs) ≡ (image player m (list_call m c bs).0, (list_call m c bs).1)
    both m c bs h (is_true g) = rw g (on-image m g c bs (h g))
    both m c bs h (is_false g) = rw g (by-1 m g c (image player m bs))

    eight : (m : Map) (c : Call) (bs : List Block) → Test (good m) → number (list_call m c bs).1 ≢ 8
    eight m c bs (is_true g) = rw (g, player-list m (sym (good-same Player m) ∙ g) c bs) (run-laws.never-8 (map_rules (library.player m)) c bs)
    eight m c bs (is_false g) = rw g (λ e. absurd (omega arith))

-- ---- the program with origins

module _ (m : Map) where
  on-cells : good m ≡ true → (c : origins.Call) (x : OriginList) → Carries m x → origins-form.call m c (image_of m x) ≡ (image_of m (on_origins m c x).0, (on_origins m c x).1)
  unfolding lent_run origins-votes.list_run
  on-cells g c x C = ap (λ (r : Answer × Lent). (r.1, r.0)) (heads _ _ _ _ ((origins-third-vote m).image_run g x C (c ∷ [])))

  -- 1, of every call
  cells-by-1 : good m ≡ false → (c : origins.Call) (x : Lent) → origins-form.call m c x ≡ (x, refusal 1)
  unfolding origins-form.call
  cells-by-1 g (plain c) x = rw g
  cells-by-1 g (point c a) x = rw g
  cells-by-1 g (copy t f) x = rw g
  cells-by-1 g (live c a) x = rw g

abbrev origins_call : Map → origins.Call → OriginList → OriginList × Answer
origins_call m c x = cond (good m) (on_origins m c x) (x, refusal 1)

abbrev Ranged : OriginList → Type 0
Ranged x = (1 ≤ x.counter) × (x.counter ≤ 4294967296)

abbrev Carrying : Map → OriginList → Type 0
Carrying m x = Ranged x × (good m ≡ true → Carries m x)

origins-mirrors : Mirrors origins-form.call origins_call (λ m x. first m x.counter) (λ m x. first_list x.counter) image_of Carrying
origins-mirrors =
    record {
      calls = λ m c x h. both m c x h (test (good m));
      calls-hold = λ m c x h. hold m c x h (test (good m));
      calls-8 = λ m c x. eight m c x (test (good m));
      clears = λ m n x g. zero-image n g x.counter;
      clears-hold = λ m n x h. (h.0, λ g. (origins-third-vote n).first_carries x.counter h.0.0 h.0.1);
    }
  where
    both : (m : Map) (c : origins.Call) (x : OriginList) → Carrying m x → Test (good m)
        → origins-form.call m c (image_of m x) ≡ (image_of m (origins_call m c x).0, (origins_call m c x).1)
    both m c x h (is_true g) = rw g (on-cells m g c x (h.1 g))
    both m c x h (is_false g) = rw g (cells-by-1 m g c (image_of m x))

    hold : (m : Map) (c : origins.Call) (x : OriginList) → Carrying m x → Test (good m) → Carrying m (origins_call m c x).0
    hold m c x h (is_true g) = let C = (origins-third-vote m).stays_carried g x (h.1 g) c in rw g (C.last, λ e. C)
    hold m c x h (is_false g) = (rw g h.0, λ e. absurd (true≢false (sym e ∙ g)))

    eight : (m : Map) (c : origins.Call) (x : OriginList) → Test (good m) → number (origins_call m c x).1 ≢ 8
    eight m c x (is_true g) = rw (g, step_same m (sym (good-same Player m) ∙ g) c x) (carried-laws.no-8 (map_rules (library.player m)) c x)
    eight m c x (is_false g) = rw g (λ e. absurd (omega arith))

    zero-image : (n : Map) → good n ≡ true → (k : ℕ) → first n k ≡ image_of n (first_list k)
    zero-image n g k = let ok = sym (good-same Player n) ∙ g in sym (image_same n (first_list k) ok tt ∙ first-image n ok k)

-- ---- the votes

nowhere : Standing no_map []
unfolding may_stand
nowhere g = refl

at_first : Carrying no_map (first_list 1)
at_first = ((omega arith, omega arith), λ g. (origins-third-vote no_map).first_carries 1 (omega arith) (omega arith))

no-shadows : image player no_map [] ≡ plain_form.first
no-shadows = sym (image_nil no_map)

no_cells : image_of no_map (first_list 1) ≡ origins_form.first
unfolding cells_image tab
no_cells = rw no-shadows

pub program-vote : ProgramVote
program-vote =
    record {
      same_run = λ rs. rw no-shadows at (runs (plain_kinds (λ c. c)) (Plain-Form.call player) list_call (λ m s. zeroed m) (λ m bs. []) (image player) Standing plain_form.first [] plain-mirrors rs (no_map, []) nowhere);
      never_damaged = λ rs. rw no-shadows at (never-8 (plain_kinds (λ c. c)) (Plain-Form.call player) list_call (λ m s. zeroed m) (λ m bs. []) (image player) Standing plain_form.first [] plain-mirrors rs (no_map, []) nowhere);
      origins_same_run = λ rs. rw no_cells at (runs origins_kinds origins-form.call origins_call (λ m x. first m x.counter) (λ m x. first_list x.counter) image_of Carrying origins_form.first (first_list 1) origins-mirrors rs (no_map, first_list 1) at_first);
      origins_never_damaged = λ rs. rw no_cells at (never-8 origins_kinds origins-form.call origins_call (λ m x. first m x.counter) (λ m x. first_list x.counter) image_of Carrying origins_form.first (first_list 1) origins-mirrors rs (no_map, first_list 1) at_first);
      same_output = λ l. rw no-shadows at (prints (plain_kinds (λ c. c)) (Plain-Form.call player) list_call (λ m s. zeroed m) (λ m bs. []) (image player) Standing plain_form.first [] plain-mirrors (length l) (no_map, []) l nowhere);
      origins_same_output = λ l. rw no_cells at (prints origins_kinds origins-form.call origins_call (λ m x. first m x.counter) (λ m x. first_list x.counter) image_of Carrying origins_form.first (first_list 1) origins-mirrors (length l) (no_map, first_list 1) l at_first);
    }

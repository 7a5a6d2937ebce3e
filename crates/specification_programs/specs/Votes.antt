-- What is promised of the calls programs, over the specification alone: what they keep, answer and print is what the plain list does. Proved in
-- crates/promises. Assumes nothing.
use Rattle.std.specs.Prelude.{◌≡◌, ◌≢◌, cond, List, [], ◌∷◌, ℕ}
use Rattle.number.specs.Parts.{Each}
use Rattle.types.specs.Block.{Block}
use Rattle.types.specs.Call.{Call, Answer, number, refusal}
use Rattle.types.specs.Origins as origins
use Rattle.types.specs.Origins.{OriginList}
use Rattle.specification.specs.Map.{Map, good}
use Rattle.specification.specs.Heap.{player}
use Rattle.specification.specs.PlainList.{on_list}
use Rattle.specification.specs.Image.{image}
use Rattle.specification_origins.specs.OriginsList.{on_origins, image_of}
use Rattle.specification_origins.specs.Votes.{first_list}
use Rattle.specification_programs.specs.Records.{Asks, plain_kinds, origins_kinds}
use Rattle.specification_programs.specs.Programs.{Form, State, no_map, served, output, plain_form, origins_form}

-- ---- the same programs with the plain list in place of what is lent. Under a map that breaks a rule every call is 1; an accepted map leaves no block.
-- Records, the number of a map, serving and lines are the same definitions on both sides (Programs.antt): what is compared is calls, shadows, cells and
-- counter

abbrev pub plain_list_form : Form
plain_list_form =
    record {
      Calls = Call;
      Lent = List Block;
      kinds = plain_kinds (λ c. c);
      call_of = λ m c bs. cond (good m) (on_list player m c bs) (bs, refusal 1);
      first = [];
      cleared = λ m bs. [];
    }

abbrev pub origins_list_form : Form
origins_list_form =
    record {
      Calls = origins.Call;
      Lent = OriginList;
      kinds = origins_kinds;
      call_of = λ m c x. cond (good m) (on_origins m c x) (x, refusal 1);
      first = first_list 1;
      cleared = λ m x. first_list x.counter;
    }

-- ---- runs: the answer of each record, and what is shown of the state after it

unfoldable pub run_of : (F : Form) {X : Type 0} (shown : State F → X) → State F → List (Asks F.Calls) → List (Answer × X)
run_of F shown s [] = []
run_of F shown s (r ∷ rs) = let t = served F r s in (t.1, shown t.0) ∷ run_of F shown t.0 rs

-- the map and the image of the list
abbrev pub plain_shown : State plain_list_form → State plain_form
plain_shown s = (s.0, image player s.0 s.1)

abbrev pub origins_shown : State origins_list_form → State origins_form
origins_shown s = (s.0, image_of s.0 s.1)

pub record ProgramVote : Type 0 where
  -- for every list of what records ask, maps among them: answers and everything lent after each are the list's; 8 is never given
  pub same_run : (rs : List (Asks Call)) → run_of plain_form (λ s. s) (no_map, plain_form.first) rs ≡ run_of plain_list_form plain_shown (no_map, []) rs
  pub never_damaged : (rs : List (Asks Call)) → Each (λ (r : Answer × State plain_form). number r.0 ≢ 8) (run_of plain_form (λ s. s) (no_map, plain_form.first) rs)
  pub origins_same_run : (rs : List (Asks origins.Call))
      → run_of origins_form (λ s. s) (no_map, origins_form.first) rs ≡ run_of origins_list_form origins_shown (no_map, first_list 1) rs
  pub origins_never_damaged : (rs : List (Asks origins.Call))
      → Each (λ (r : Answer × State origins_form). number r.0 ≢ 8) (run_of origins_form (λ s. s) (no_map, origins_form.first) rs)
  -- so every file prints what it prints on the plain list
  pub same_output : (file : List ℕ) → output plain_form file ≡ output plain_list_form file
  pub origins_same_output : (file : List ℕ) → output origins_form file ≡ output origins_list_form file

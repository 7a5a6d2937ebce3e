-- Document 01, the calls program, and S-4's: what each prints for a file, bytes in and bytes out. Assumes nothing.
use Rattle.std.specs.Prelude.{not, ◌||◌, List, [], ◌∷◌, ◌++◌, ℕ, zero, suc, length, drop, ltb}
use Rattle.std.proofs.Math.Option.{Option, none, some}
use Rattle.types.specs.Call.{Call, Answer, done, first_of, unless}
use Rattle.types.specs.Origins as origins
use Rattle.specification.specs.Map.{Map, Shadows, shadows, good, zeroed}
use Rattle.specification.specs.Heap.{player}
use Rattle.specification.specs.Call as Plain-Form
use Rattle.specification_origins.specs.Cells.{cells, zero_cells}
use Rattle.specification_origins.specs.Origins as origins-form
use Rattle.specification_programs.specs.Records.{Asks, new_map, call, Kind, field_in, plain_kinds, origins_kinds, first_kind}
use Rattle.specification_programs.specs.Lines.{line, nine}

-- a form of the library, as its calls program has it: its calls; what is lent to them; its kinds; what a call makes, under a map, of what is lent, with
-- its answer; what is lent before any map; and what an accepted map makes of it
pub record Form : Type 1 where
  pub Calls : Type 0
  pub Lent : Type 0
  pub kinds : List (Kind Calls)
  pub call_of : Map → Calls → Lent → Lent × Answer
  pub first : Lent
  pub cleared : Map → Lent → Lent

-- ---- one record

-- the sizes to which the programs go
abbrev pub program_heap : ℕ
program_heap = 32768

abbrev pub program_stack : ℕ
program_stack = 16384

-- the number of a map record: 1 for a map that breaks a rule, 10 for a good one above the program's sizes
abbrev pub map_number : Map → ℕ
map_number m = first_of ((1, not (good m)) ∷ (10, ltb program_heap m.heap_size || ltb program_stack m.stack_size) ∷ [])

-- before any map
abbrev pub no_map : Map
no_map = record { heap_start = 0; heap_size = 0; stack_start = 0; stack_size = 0 }

module _ (F : Form) where
  -- what stays from record to record: the map that holds, and what is lent
  abbrev pub State : Type 0
  State = Map × F.Lent

  -- an accepted map clears; a refused one keeps the old map and what is lent. Any other record is the library's call under the map that holds
  abbrev pub served : Asks F.Calls → State → State × Answer
  served (new_map m) s = unless (map_number m) s ((m, F.cleared m s.1), done)
  served (call c) s = let r = F.call_of s.0 c s.1 in ((s.0, r.0), r.1)

  -- what the first record of the bytes l prints, and after it the bytes that follow; an undecodable one is the last
  abbrev pub first : (rest : State → List ℕ → List ℕ) → State → (l : List ℕ) → Option (Kind F.Calls) → List ℕ
  first rest s l none = nine
  first rest s l (some k) = let r = served (k.asks (field_in l)) s in line k.number k.answers r.1 ++ rest r.0 (drop k.length l)

  -- what the bytes print, of at most n records. A file that ends between records ends the run with no line
  unfoldable pub printed : (n : ℕ) → State → List ℕ → List ℕ
  printed zero s l = []
  printed (suc n) s [] = []
  printed (suc n) s (b ∷ l) = first (printed n) s (b ∷ l) (first_kind F.kinds (b ∷ l))

  -- a whole file, which has no more records than bytes
  abbrev pub output : (file : List ℕ) → List ℕ
  output l = printed (length l) (no_map, F.first) l

-- ---- the two programs

abbrev pub plain_form : Form
plain_form =
    record {
      Calls = Call;
      Lent = Shadows;
      kinds = plain_kinds (λ c. c);
      call_of = Plain-Form.call player;
      first = shadows [] [] [];
      cleared = λ m s. zeroed m;
    }

-- S-4: the counter is 1 at first, and an accepted map leaves it
abbrev pub origins_form : Form
origins_form =
    record {
      Calls = origins.Call;
      Lent = origins-form.Lent;
      kinds = origins_kinds;
      call_of = origins-form.call;
      first = record { shadows = shadows [] [] []; cells = cells [] []; counter = 1 };
      cleared = λ m x. record { shadows = zeroed m; cells = zero_cells m; counter = x.counter };
    }

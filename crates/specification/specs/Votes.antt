-- The three demands of document 01, over the definitions of this crate alone, of one form F under one map m. Proved for the player and for the desk:
-- crates/promises. That the code does what `call` says, stays in the lent memory and ends is the contract of each function. Assumes nothing.
use Rattle.std.specs.Prelude.{◌≡◌, ◌≢◌, Bool, true, false, cond, List, [], ◌∷◌, ℕ, ◌-◌, ◌≤◌, length}
use Rattle.std.proofs.Math.Option.{Option, none, some}
use Rattle.number.specs.Little.{Bytes}
use Rattle.number.specs.Parts.{Each}
use Rattle.types.specs.Block.{Block, len}
use Rattle.types.specs.Reading.{Reading, nothing, block}
use Rattle.types.specs.Call.{Call, clear, ask, valid, initialised, next, audit, place, Answer, number, refusal, Refusal, first_of}
use Rattle.specification.specs.Numbers.{bit}
use Rattle.specification.specs.Map.{Map, Shadows, heap_of, primary_of, secondary_of, right_lengths, zeroed, in_heap}
use Rattle.specification.specs.Form.{Form}
use Rattle.specification.specs.Readings.{reading}
use Rattle.specification.specs.Blocks.{contains, is_written, find}
use Rattle.specification.specs.PlainList.{on_list, totals}
use Rattle.specification.specs.Image.{may_stand, image}
use Rattle.specification.specs.Audit.{list_of}
use Rattle.specification.specs.Call.{call}
use Rattle.specification.specs.Table.{rows}
use Rattle.specification.specs.Looks.{byte_at, looks}

abbrev pub number_of : Form → Map → Call → Shadows → ℕ
number_of F m c s = number (call F m c s).1

-- every element of the three shadows is a byte
abbrev pub AllBytes : Shadows → Type 0
AllBytes s = Bytes (heap_of s) × Bytes (primary_of s) × Bytes (secondary_of s)

abbrev pub SameLengths : (s t : Shadows) → Type 0
SameLengths s t =
    (length (heap_of s) ≡ length (heap_of t)) × (length (primary_of s) ≡ length (primary_of t)) × (length (secondary_of s) ≡ length (secondary_of t))

-- ---- demand 1: every call, any arguments, any lengths and any bytes

pub record FirstVote (F : Form) (m : Map) : Type 0 where
  -- a refusal has the number, zero fields, and alters no byte
  pub refused_alters_nothing : (c : Call) (s : Shadows) → number_of F m c s ≢ 0 → call F m c s ≡ (s, refusal (number_of F m c s))
  -- the number is that of the first row of the table that holds, 0 if none does
  pub by_the_table : (c : Call) (s : Shadows) → number_of F m c s ≡ first_of (rows F m c s)
  -- accepted exactly if no row holds
  pub accepted_only : (c : Call) (s : Shadows) → number_of F m c s ≡ 0 → Each (λ (r : Refusal). r.1 ≡ false) (rows F m c s)
  pub accepted_if : (c : Call) (s : Shadows) → Each (λ (r : Refusal). r.1 ≡ false) (rows F m c s) → number_of F m c s ≡ 0
  -- every call leaves shadows of the same lengths, and bytes if they were bytes
  pub lengths_kept : (c : Call) (s : Shadows) → SameLengths (call F m c s).0 s
  pub bytes_kept : (c : Call) (s : Shadows) → AllBytes s → AllBytes (call F m c s).0
  -- a question alters no byte
  pub ask_alters_nothing : (a : ℕ) (s : Shadows) → (call F m (ask a) s).0 ≡ s
  pub valid_alters_nothing : (write : Bool) (a n from : ℕ) (s : Shadows) → (call F m (valid write a n from) s).0 ≡ s
  pub initialised_alters_nothing : (a n : ℕ) (s : Shadows) → (call F m (initialised a n) s).0 ≡ s
  pub next_alters_nothing : (a : ℕ) (s : Shadows) → (call F m (next a) s).0 ≡ s
  pub audit_alters_nothing : (s : Shadows) → (call F m audit s).0 ≡ s
  pub place_alters_nothing : (L budget : ℕ) (s : Shadows) → (call F m (place L budget) s).0 ≡ s

-- ---- demand 2: readings, images, audit, the list read back

-- the list's blocks may stand together
abbrev pub Stands : Form → Map → List Block → Type 0
Stands F m bs = may_stand F m 0 bs ≡ true

-- what a list says of an address
abbrev pub says : (a : ℕ) → Option Block → Reading
says a none = nothing
says a (some b) = block b.base (len b) (a - b.base) (bit (is_written b a)) b.literal

-- promised with 9 and `player_looks` for the player, with 17 and `desk_looks` for the desk (crates/promises, Promises.antt)
pub record SecondVote (most : ℕ) (heap_looks : Map → List ℕ → ℕ → List ℕ) (F : Form) (m : Map) : Type 0 where
  -- a reading looks at so many bytes at most, of the stack at nine; shadows that agree there are read alike, and looked at alike
  pub few_bytes : (s : Shadows) (a : ℕ) → length (looks heap_looks m s a) ≤ cond (in_heap m a) most 9
  pub reads_alike : (s t : Shadows) (a : ℕ) → Each (λ q. byte_at t q ≡ byte_at s q) (looks heap_looks m s a)
      → (reading F m t a ≡ reading F m s a) × (looks heap_looks m t a ≡ looks heap_looks m s a)
  -- the image of every list of blocks that may stand has the areas' lengths, and bytes; no other such list has it; a reading there is what the list says
  pub image_fits : F.good m ≡ true → (bs : List Block) → Stands F m bs → (right_lengths m (image F m bs) ≡ true) × AllBytes (image F m bs)
  pub one_image : F.good m ≡ true → (bs cs : List Block) → Stands F m bs → Stands F m cs → image F m bs ≡ image F m cs → bs ≡ cs
  pub reads_list : F.good m ≡ true → (bs : List Block) → Stands F m bs → (a : ℕ) → reading F m (image F m bs) a ≡ says a (find (contains a) bs)
  -- audit accepts each image, with the list's totals, and nothing else; under a good map and right lengths all else gets 8
  pub audit_accepts : F.good m ≡ true → (bs : List Block) → Stands F m bs → call F m audit (image F m bs) ≡ (image F m bs, totals m bs)
  pub audit_only : (s : Shadows) → number_of F m audit s ≡ 0 → (F.good m ≡ true) × ((bs : List Block) × Stands F m bs × (s ≡ image F m bs))
  pub audit_refuses : F.good m ≡ true → (s : Shadows) → right_lengths m s ≡ true → ((bs : List Block) → Stands F m bs → s ≡ image F m bs → ⊥)
      → call F m audit s ≡ (s, refusal 8)
  -- the list read back is the list that the image was made of
  pub read_back : F.good m ≡ true → (bs : List Block) → Stands F m bs → list_of F m (image F m bs) ≡ bs

-- ---- demand 3: one claim about the whole list of calls

-- the answer and all shadows after each call, each call on what the one before left
unfoldable pub shadow_run : Form → Map → Shadows → List Call → List (Answer × Shadows)
shadow_run F m s [] = []
shadow_run F m s (c ∷ cs) = let r = call F m c s in (r.1, r.0) ∷ shadow_run F m r.0 cs

-- the answer of the plain list and its image after each call
unfoldable pub list_run : Form → Map → List Block → List Call → List (Answer × Shadows)
list_run F m bs [] = []
list_run F m bs (c ∷ cs) = let r = on_list F m c bs in (r.1, image F m r.0) ∷ list_run F m r.0 cs

pub record ThirdVote (F : Form) (m : Map) : Type 0 where
  -- from cleared shadows, and no block
  pub whole_run : F.good m ≡ true → (cs : List Call) → shadow_run F m (zeroed m) cs ≡ list_run F m [] cs
  -- damage is never reported
  pub no_damage : F.good m ≡ true → (cs : List Call) → Each (λ (r : Answer × Shadows). number r.0 ≢ 8) (shadow_run F m (zeroed m) cs)
  -- after a clear, whatever bytes there were
  pub cleared_run : F.good m ≡ true → (s : Shadows) → right_lengths m s ≡ true → (cs : List Call) → shadow_run F m s (clear ∷ cs) ≡ list_run F m [] (clear ∷ cs)
  -- from the image of every list that may stand, reached by calls or not; and the list goes on to stand
  pub image_run : F.good m ≡ true → (bs : List Block) → Stands F m bs → (cs : List Call) → shadow_run F m (image F m bs) cs ≡ list_run F m bs cs
  pub stays_standing : F.good m ≡ true → (bs : List Block) → Stands F m bs → (c : Call) → Stands F m (on_list F m c bs).0

-- Samples of document 01 for the player: those that it marks, with its worked example, in one table. A sample is a list of calls from cleared shadows,
-- with the answer of each and bytes of the shadows afterwards. Proved in proofs/Samples.antt. Assumes nothing.
use Rattle.std.specs.Prelude.{◌≡◌, Bool, true, false, ◌&&◌, List, [], ◌∷◌, ◌++◌, ℕ, suc, ◌*◌, eqb}
use Rattle.types.specs.Call.{Call, clear, record_block, free, written, ask, valid_write, next, audit, Answer, answer, refusal, done}
use Rattle.specification.specs.Numbers.{at}
use Rattle.specification.specs.Map.{Map, Shadows, heap_of, primary_of, secondary_of, zeroed}
use Rattle.specification.specs.Form.{Form}
use Rattle.specification.specs.Heap.{player}
use Rattle.specification.specs.Call.{call}

-- bytes from a position on
abbrev pub Part : Type 0
Part = ℕ × List ℕ

-- calls, the answer of each, and the bytes of each shadow afterwards from a position on
pub record Sample : Type 0 where
  pub calls : List Call
  pub answers : List Answer
  pub heap : Part
  pub primary : Part
  pub secondary : Part

abbrev pub map_of : (heap_start heap_size stack_start stack_size : ℕ) → Map
map_of hs hz ss sz = record { heap_start = hs; heap_size = hz; stack_start = ss; stack_size = sz }

-- the map of most samples: heap 4096 to 4159, stack 8192 to 8223
abbrev pub sample_map : Map
sample_map = map_of 4096 64 8192 32

-- ---- does a sample hold

abbrev pub same_answer : Answer → Answer → Bool
same_answer (answer k a b c d) (answer k' a' b' c' d') = eqb k k' && eqb a a' && eqb b b' && eqb c c' && eqb d d'

-- the bytes of h from position q on are these
unfoldable pub has_bytes : List ℕ → (q : ℕ) → List ℕ → Bool
has_bytes h q [] = true
has_bytes h q (x ∷ xs) = eqb (at h q) x && has_bytes h (suc q) xs

abbrev pub bytes_hold : Sample → Shadows → Bool
bytes_hold x s =
    has_bytes (heap_of s) x.heap.0 x.heap.1 && has_bytes (primary_of s) x.primary.0 x.primary.1
    && has_bytes (secondary_of s) x.secondary.0 x.secondary.1

-- the calls give these answers, as many as there are calls, and leave the sample's bytes
unfoldable pub run_holds : Form → Map → Sample → Shadows → List Call → List Answer → Bool
run_holds F m x s [] [] = bytes_hold x s
run_holds F m x s [] (r ∷ rs) = false
run_holds F m x s (c ∷ cs) [] = false
run_holds F m x s (c ∷ cs) (r ∷ rs) = let after = call F m c s in same_answer after.1 r && run_holds F m x after.0 cs rs

abbrev pub sample_holds : Form → Map → Sample → Bool
sample_holds F m x = run_holds F m x (zeroed m) x.calls x.answers

unfoldable pub all_hold : Form → Map → List Sample → Bool
all_hold F m [] = true
all_hold F m (x ∷ xs) = sample_holds F m x && all_hold F m xs

-- ---- the table

-- one call, of which the answer is looked at
abbrev pub one : Call → Answer → Sample
one c r = record { calls = c ∷ []; answers = r ∷ []; heap = (0, []); primary = (0, []); secondary = (0, []) }

-- one recording that is accepted, and the primary byte at a position after it
abbrev coded : (base length position byte : ℕ) → Sample
coded b l q x = record { calls = record_block b l ∷ []; answers = done ∷ []; heap = (0, []); primary = (q, x ∷ []); secondary = (0, []) }

-- one recording that is accepted, and the heap shadow from position 0 on after it
abbrev stored : (base length : ℕ) → List ℕ → Sample
stored b l h = record { calls = record_block b l ∷ []; answers = done ∷ []; heap = (0, h); primary = (0, []); secondary = (0, []) }

abbrev pub zeros8 : List ℕ
zeros8 = 0 ∷ 0 ∷ 0 ∷ 0 ∷ 0 ∷ 0 ∷ 0 ∷ 0 ∷ []

unfoldable pub table : List Sample
table =
    -- after the first three lines of the worked example, heap shadow positions 0 to 31
    record {
      calls = record_block 4104 20 ∷ written 4108 6 ∷ [];
      answers = done ∷ done ∷ [];
      heap = (
        0,
        (0 ∷ 0 ∷ 0 ∷ 0 ∷ 20 ∷ 0 ∷ 0 ∷ 0 ∷ []) ++ (1 ∷ 0 ∷ 0 ∷ 0 ∷ 240 ∷ 0 ∷ 0 ∷ 0 ∷ []) ++ (9 ∷ 0 ∷ 0 ∷ 0 ∷ 3 ∷ 0 ∷ 0 ∷ 0 ∷ [])
            ++ (17 ∷ 0 ∷ 0 ∷ 0 ∷ 0 ∷ 0 ∷ 0 ∷ 0 ∷ []),
      );
      primary = (0, []);
      secondary = (0, []);
    }
    -- record 8195, 11: primary positions 3 to 13, secondary 3 to 10
    ∷ record {
      calls = record_block 8195 11 ∷ [];
      answers = done ∷ [];
      heap = (0, []);
      primary = (3, 192 ∷ 196 ∷ 200 ∷ 204 ∷ 208 ∷ 212 ∷ 216 ∷ 220 ∷ 224 ∷ 228 ∷ 232 ∷ []);
      secondary = (3, 11 ∷ 0 ∷ 0 ∷ 0 ∷ 0 ∷ 0 ∷ 0 ∷ 0 ∷ []);
    }
    -- codes (1, 0) = 1, (5, 2) = 13, (8, 7) = 36
    ∷ coded 8192 1 0 (4 * 1)
    ∷ coded 8192 5 2 (4 * 13)
    ∷ coded 8192 8 7 (4 * 36)
    -- record at the edges; ask 0
    ∷ one (record_block 4096 4) (refusal 4)
    ∷ one (record_block 4108 4) (refusal 5)
    ∷ one (record_block 4152 8) done
    ∷ one (record_block 4152 9) (refusal 4)
    ∷ one (record_block 8216 8) done
    ∷ one (record_block 8216 9) (refusal 4)
    ∷ one (ask 0) (refusal 4)
    -- a heap block of 8 takes one segment, of 9 two
    ∷ stored 4104 8 ((0 ∷ 0 ∷ 0 ∷ 0 ∷ 8 ∷ 0 ∷ 0 ∷ 0 ∷ []) ++ (1 ∷ 0 ∷ 0 ∷ 0 ∷ 0 ∷ 0 ∷ 0 ∷ 0 ∷ []) ++ zeros8)
    ∷ stored 4104 9 ((0 ∷ 0 ∷ 0 ∷ 0 ∷ 9 ∷ 0 ∷ 0 ∷ 0 ∷ []) ++ (1 ∷ 0 ∷ 0 ∷ 0 ∷ 0 ∷ 0 ∷ 0 ∷ 0 ∷ []) ++ (9 ∷ 0 ∷ 0 ∷ 0 ∷ 0 ∷ 0 ∷ 0 ∷ 0 ∷ []) ++ zeros8)
    -- the worked example: an accepted map clears, and the other fourteen lines are calls
    ∷ record {
      calls =
          clear ∷ record_block 4104 20 ∷ written 4108 6 ∷ ask 4113 ∷ ask 4124 ∷ record_block 4128 4 ∷ record_block 4136 4 ∷ record_block 8195 11 ∷ ask 8205
          ∷ valid_write 8200 7 8195 ∷ valid_write 8200 6 8195 ∷ next 4105 ∷ audit ∷ free 4105 ∷ free 4104 ∷ [];
      answers =
          done ∷ done ∷ done ∷ answer 0 4104 20 9 1 ∷ refusal 7 ∷ refusal 6 ∷ done ∷ done ∷ answer 0 8195 11 10 0 ∷ answer 0 0 0 0 0 ∷ answer 0 1 0 0 0
          ∷ answer 0 4136 4 0 0 ∷ answer 0 2 1 35 6 ∷ refusal 7 ∷ done ∷ [];
      heap = (0, []);
      primary = (0, []);
      secondary = (0, []);
    }
    ∷ []

-- every sample holds
abbrev pub SamplesHold : Type 0
SamplesHold = all_hold player sample_map table ≡ true

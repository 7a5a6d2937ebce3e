-- The plain calls program has the kinds, the calls and the answers of the plain form. Assumes nothing.
use mathlib.Core.Path.{◌≡◌, refl}
use mathlib.Core.Bool.{true, false, cond}
use mathlib.Core.List.{List, [], ◌∷◌, map}
use mathlib.Core.Logic.{◌≢◌}
use mathlib.Core.Option.{Option, none, some}
use Prim.Native.Nat.{ℕ}
use native.Mathlib.Omega.{arith}
use lib.ListN.{length}
use lib.Dec.{leb, eqb}
use borrow.Author.Tests.{leb-true, lt-leb, leb-false}
use Rattle.number.specs.Parts.{Each}
use Rattle.number.proofs.TestLaws.{Test, is_true, is_false, test, and_false_r}
use Rattle.types.specs.Call.{Call}
use Rattle.calls_format.specs.Records as records
use Rattle.calls_format.specs.Records.{Asked, kind_field, length_field, field, fields_of, request_of, record_length}
use Rattle.calls_format.specs.Decoded.{length_for, length_of}
use Rattle.calls_format.specs.Lines.{answer_fields}
use Rattle.calls_format.specs.Running as running
use Rattle.calls_format.specs.Running.{serve_by}
use Rattle.calls_format.specs.Program.{plain_program}
use Rattle.calls_format.proofs.LineLaws.{line_as}
use Rattle.calls_format.proofs.RecordLaws.{no_kind, no_record, decoded-heads}
use Rattle.calls_origins_format.specs.Records.{is_own}
use Rattle.specification.proofs.MapSame.{player-good}
use Rattle.specification.proofs.Same.{player-call}
use Rattle.specification_programs.specs.Records.{Asks, new_map, call, Kind, plain_kinds}
use Rattle.specification_programs.specs.Programs.{served, plain_form}
use Rattle.specification_programs.proofs.AlikeSame.{is_there, Known, Has}

-- ---- requests

abbrev pub to_asked : {C : Type 0} → Asks C → Asked C
to_asked (new_map m) = records.new_map m
to_asked (call c) = records.call c

abbrev pub back : {C : Type 0} → Asked C → Asks C
back (records.new_map m) = new_map m
back (records.call c) = call c

pub back-same : {C : Type 0} (a : Asks C) → back (to_asked a) ≡ a
back-same (new_map m) = refl
back-same (call c) = refl

-- ---- the kinds

-- what the program's definitions say of a kind's number
abbrev pub Numbered : Kind Call → Type 0
Numbered k =
    (length_of k.number ≡ k.length) × (answer_fields k.number ≡ k.answers) × (leb 4 k.length ≡ true)
    × (is_own k.number ≡ false) × ((l : List ℕ) → request_of k.number l ≡ to_asked (k.asks (field l)))

-- pairs of pairs, as `Each` is
infixr 5 ◌and◌
pub ◌and◌ : {A B : Type 0} → A → B → A × B
a and b = (a, b)

pub plain-numbered : Each Numbered (plain_kinds (λ c. c))
unfolding fields_of answer_fields request_of
plain-numbered =
    (refl, refl, refl, refl, λ l. refl)
    and (refl, refl, refl, refl, λ l. refl)
    and (refl, refl, refl, refl, λ l. refl)
    and (refl, refl, refl, refl, λ l. refl)
    and (refl, refl, refl, refl, λ l. refl)
    and (refl, refl, refl, refl, λ l. refl)
    and (refl, refl, refl, refl, λ l. refl)
    and (refl, refl, refl, refl, λ l. refl)
    and (refl, refl, refl, refl, λ l. refl)
    and (refl, refl, refl, refl, λ l. refl)
    and (refl, refl, refl, refl, λ l. refl)
    and (refl, refl, refl, refl, λ l. refl)
    and (refl, refl, refl, refl, λ l. refl)
    and tt

pub plain-decodes : (k : Kind Call) → Numbered k → (l : List ℕ) → kind_field l ≡ k.number
    → records.decode l ≡ cond (is_there k l) (some (to_asked (k.asks (field l)))) none
unfolding records.decode
plain-decodes k (n, a, f, o, r) l e = go (fields_of k.number) refl (test (leb 4 (length l)))
  where
    go : (x : Option ℕ) → fields_of k.number ≡ x → Test (leb 4 (length l)) → records.decode l ≡ cond (is_there k l) (some (to_asked (k.asks (field l)))) none
    go none q t = absurd (let z : length_for none ≡ k.length = rw q at n in omega (arith, leb-true 4 k.length f, z))
    go (some i) q (is_true t) = let z : record_length i ≡ k.length = rw q at n in rw (t, e, q, z, e, r l)
    go (some i) q (is_false t) =
        rw (
          t,
          and_false_r (eqb (length_field l) k.length) (leb k.length (length l)) (lt-leb k.length (length l) (omega (arith, leb-true 4 k.length f, leb-false 4 (length l) t))),
        )

-- a number that is none of the kinds'
pub plain-others : {C : Type 0} (on : Call → C) (l : List ℕ) → Each (λ (k : Kind C). kind_field l ≢ k.number) (plain_kinds on) → records.decode l ≡ none
plain-others on l (a, (b, (c, (d, (e, (f, (g, (h, (i, (j, (m, (n, (o, u))))))))))))) = no_record l (no_kind (kind_field l) a b c d e f g h i j m n o)

-- ---- the program

-- what is so of each x is so of each f x
pub each_map : {X Y : Type 0} (p : X → Type 0) (q : Y → Type 0) (f : X → Y) → ((x : X) → p x → q (f x)) → (xs : List X) → Each p xs → Each q (map f xs)
each_map p q f g [] e = tt
each_map p q f g (x ∷ xs) (h, e) = (g x h, each_map p q f g xs e)

abbrev itself : running.State → running.State
itself s = s

serves : (a : Asks Call) (s : running.State) → served plain_form a s ≡ running.serve (to_asked a) s
unfolding running.serve serve_by
serves (new_map m) s = rw (player-good m)
serves (call c) s = rw (player-call s.0 c s.1)

known : (k : Kind Call) → Numbered k → Known plain_form plain_program to_asked itself k
known k n = record { decodes = plain-decodes k n; told = n.1 }

pub plain-has : Has plain_form plain_program to_asked itself
plain-has =
    record {
      kinds = each_map Numbered (Known plain_form plain_program to_asked itself) (λ k. k) known (plain_kinds (λ c. c)) plain-numbered;
      others = plain-others (λ c. c);
      heads = λ l r e. let h = decoded-heads l r e in (h.1, line_as h.0);
      serves = serves;
      begins = refl;
    }

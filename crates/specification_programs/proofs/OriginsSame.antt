-- The calls program with origins has the kinds, the calls and the answers of the form with origins. Assumes nothing.
use mathlib.Core.Path.{◌≡◌, refl, ap, ◌∙◌}
use mathlib.Core.Bool.{Bool, true, false, cond}
use mathlib.Core.List.{List}
use mathlib.Core.Logic.{◌≢◌}
use mathlib.Core.Option.{none, some}
use Prim.Native.Nat.{ℕ}
use native.Mathlib.Omega.{arith}
use lib.Dec.{leb}
use borrow.Author.Tests.{leb-true}
use Rattle.number.specs.Parts.{Each}
use Rattle.number.proofs.TestLaws.{and-true, false_of}
use Rattle.types.specs.Call as plains
use Rattle.types.specs.Origins.{Call, plain}
use Rattle.calls_format.specs.Records.{kind_field, field}
use Rattle.calls_format.specs.Lines.{answer_fields}
use Rattle.calls_format.specs.Running.{serve_by}
use Rattle.calls_format.proofs.LineLaws.{line_as}
use Rattle.calls_origins_format.specs.Records as own
use Rattle.calls_origins_format.specs.Records.{is_own, own_call, decode_plain}
use Rattle.calls_origins_format.specs.Running as running
use Rattle.calls_origins_format.specs.Program.{origins_program}
use Rattle.calls_origins_format.proofs.RecordLaws.{decode-plain, decoded-heads}
use Rattle.specification.proofs.MapSame.{player-good}
use Rattle.specification_origins.proofs.OriginsSame.{call_same}
use Rattle.specification_programs.specs.Records.{Asks, new_map, call, Kind, plain_kinds, origins_kinds}
use Rattle.specification_programs.specs.Programs.{served, origins_form}
use Rattle.specification_programs.proofs.AlikeSame.{is_there, Known, Has}
use Rattle.specification_programs.proofs.PlainSame.{to_asked, Numbered, ◌and◌, plain-numbered, plain-decodes, plain-others, each_map}

abbrev itself : running.State → running.State
itself s = s

abbrev IsKnown : Kind Call → Type 0
IsKnown = Known origins_form origins_program to_asked itself

-- ---- the plain kinds

abbrev as_plain : Asks plains.Call → Asks Call
as_plain (new_map m) = new_map m
as_plain (call c) = call (plain c)

-- a plain kind, as one of this form
abbrev with_origins : Kind plains.Call → Kind Call
with_origins k = record { number = k.number; length = k.length; answers = k.answers; asks = λ f. as_plain (k.asks f) }

taken : (t : Bool) (a : Asks plains.Call) → decode_plain (cond t (some (to_asked a)) none) ≡ cond t (some (to_asked (as_plain a))) none
taken true (new_map m) = refl
taken true (call c) = refl
taken false a = refl

known : (k : Kind plains.Call) → Numbered k → IsKnown (with_origins k)
known k n =
    record {
      decodes =
          λ l e. decode-plain l (ap is_own e ∙ n.3) ∙ ap decode_plain (plain-decodes k n l e) ∙ taken (is_there k l) (k.asks (field l));
      told = n.1;
    }

-- ---- kinds 11 to 13

each-known : Each IsKnown origins_kinds
unfolding own.decode own_call answer_fields
each-known =
    record { decodes = λ l e. rw e; told = refl }
    and record { decodes = λ l e. rw e; told = refl }
    and record { decodes = λ l e. rw e; told = refl }
    and each_map Numbered IsKnown with_origins known (plain_kinds (λ c. c)) plain-numbered

others : (l : List ℕ) → Each (λ (k : Kind Call). kind_field l ≢ k.number) origins_kinds → own.decode l ≡ none
others l (a, (b, (c, e))) =
    decode-plain l (false_of (is_own (kind_field l)) (λ t.
    let h = and-true (leb 11 (kind_field l)) (leb (kind_field l) 13) t in
    omega (arith, leb-true 11 (kind_field l) h.0, leb-true (kind_field l) 13 h.1, a, b, c)))
    ∙ ap decode_plain (plain-others plain l e)

-- ---- requests served

serves : (a : Asks Call) (s : running.State) → served origins_form a s ≡ running.serve (to_asked a) s
unfolding running.serve serve_by
serves (new_map m) s = rw (player-good m)
serves (call c) s = rw (call_same s.0 c s.1)

pub origins-has : Has origins_form origins_program to_asked itself
origins-has =
    record {
      kinds = each-known;
      others = others;
      heads = λ l r e. let h = decoded-heads l r e in (h.1, line_as h.0);
      serves = serves;
      begins = refl;
    }

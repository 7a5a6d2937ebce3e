-- `calls_lines::put_fields` meets its contract. Assumes nothing.
use mathlib.Core.Path.{◌≡◌}
use mathlib.Core.List.{[], ◌∷◌}
use mathlib.Core.Logic.{◌≢◌, inl, inr}
use Prim.Native.Nat.{◌+◌, ◌≤◌}
use native.Mathlib.Omega.{arith}
use lib.ListN.{length}
use Rattle.monitor_base.specs.Answers.{answer_of}
use Rattle.calls_format.specs.Lines.{spaced}
use Rattle.calls_format.specs.Writing.{fields_told}
use Rattle.calls_format.proofs.LineLaws.{wrote-more-spaced, room, wrote-told, wrote-no, told-refused, told-four, told-two, told-one, told-13-15, told-no}
use borrow.Author.Rules.{rules}
use Rattle.calls_lines.proofs.put_fields.Goals as goal
use Rattle.calls_lines.proofs.put_fields.Lts as place
use Rattle.calls_lines.proofs.put_fields.Reads as reads
use Rattle.calls_lines.proofs.put_fields.Tie as tie

-- steps of the code, by name
abbrev At-match-keys1 : Type 0
At-match-keys1 = place.Past-At-match-keys1 tie.the-claims reads.Pre reads.Post

abbrev At-match-keys2 : Type 0
At-match-keys2 = place.Past-At-match-keys2 tie.the-claims reads.Pre reads.Post

abbrev At-match-keys3 : Type 0
At-match-keys3 = place.Past-At-match-keys3 tie.the-claims reads.Pre reads.Post

abbrev Then3 : Type 0
Then3 = place.Past-Then3 tie.the-claims reads.Pre reads.Post

-- room for the fields of each kind
four : (c : At-match-keys1) → c.args.place
    + length (spaced (c.args.r.first ∷ c.args.r.second ∷ []))
    + length (spaced (c.args.r.third ∷ c.args.r.fourth ∷ []))
    ≤ length c.args.line.now
four c =
    room (_ ∷ _ ∷ []) (_ ∷ _ ∷ []) _ _ _ (told-four _ _ _ _ _ _ c.if-r-ne0.false c.in-5.is) c.requires

two : (c : At-match-keys2) → c.args.place
    + length (spaced (c.args.r.first ∷ c.args.r.second ∷ []))
    + length (spaced [])
    ≤ length c.args.line.now
two c = room (_ ∷ _ ∷ []) [] _ _ _ (told-two _ _ _ _ _ _ c.if-r-ne0.false c.in-8.is) c.requires

late : (c : At-match-keys3) → c.args.place
    + length (spaced (c.args.r.first ∷ []))
    + length (spaced [])
    ≤ length c.args.line.now
late c = room (_ ∷ []) [] _ _ _ (told-13-15 _ _ _ _ _ _ c.if-r-ne0.false c.in-13.is) c.requires

one_told : (c : Then3) → fields_told c.args.kind (answer_of c.args.r)
    ≡ c.args.r.first ∷ []
one_told c =
    let not-5 : c.args.kind ≢ 5 = λ e. c.in-6.in_default-own.rest.0.0.1 (inl e) in
    told-one _ _ _ _ _ _ c.if-r-ne0.false (omega arith) c.in-6.if-kind-lt8-own.true

one : (c : Then3) → c.args.place
    + length (spaced (c.args.r.first ∷ []))
    + length (spaced [])
    ≤ length c.args.line.now
one c = room (_ ∷ []) [] _ _ _ (one_told c) c.requires

pub returns-then-r-ne0 : goal.returns-then-r-ne0
returns-then-r-ne0 c = wrote-no _ _ _ (told-refused _ _ _ _ _ _ c.if-r-ne0.true)

pub put_two-end-requires : goal.put_two-end-requires
put_two-end-requires c = omega (arith, four c.before)

pub put_two-requires : goal.put_two-requires
put_two-requires c = omega (arith, four c.before.before.before.before.before, c.put_two-end.auto.line)

pub put_two-requires-in-8 : goal.put_two-requires-in-8
put_two-requires-in-8 c = omega (arith, two c.before)

pub put_spaced-requires : goal.put_spaced-requires
put_spaced-requires c = omega (arith, late c.before)

pub put_spaced-requires-in-6 : goal.put_spaced-requires-in-6
put_spaced-requires-in-6 c = omega (arith, one c.before)

pub returns-in-5 : goal.returns-in-5
returns-in-5 c =
    wrote-told (_ ∷ _ ∷ _ ∷ _ ∷ []) _ _ _ _ _ (told-four _ _ _ _ _ _ c.if-r-ne0.false c.in-5.is)
    (wrote-more-spaced (_ ∷ _ ∷ []) (_ ∷ _ ∷ []) _ _ _ _ _ _ c.put_two-end.ensures c.put_two.ensures)

pub returns-in-8 : goal.returns-in-8
returns-in-8 c =
    wrote-told (_ ∷ _ ∷ []) _ _ _ _ _ (told-two _ _ _ _ _ _ c.if-r-ne0.false c.in-8.is) c.put_two-in-8.ensures

pub returns-in-13 : goal.returns-in-13
returns-in-13 c =
    wrote-told (_ ∷ []) _ _ _ _ _ (told-13-15 _ _ _ _ _ _ c.if-r-ne0.false c.in-13.is) c.put_spaced.ensures

pub returns-in-6 : goal.returns-in-6
returns-in-6 c =
    wrote-told (_ ∷ []) _ _ _ _ _ (one_told c.before.before.before.before.before) c.put_spaced-in-6.ensures

pub returns-in_default : goal.returns-in_default
returns-in_default c =
    wrote-no _ _ _ (told-no _ _ _ _ _ _ c.if-r-ne0.false (omega arith) (omega arith) (omega arith) (omega arith) (omega arith) (omega arith) (omega arith))

pub returns-in_default-2 : goal.returns-in_default-2
returns-in_default-2 c =
    let r = c.in_default.in_default-own.rest in
    wrote-no _ _ _ (told-no _ _ _ _ _ _ c.if-r-ne0.false (omega arith) (omega arith) (omega arith) r.0.1 (λ e. r.0.0.1 (inr e)) (λ e. r.1 (inl e)) (λ e. r.1 (inr e)))

-- `calls_turn::turn` meets its contract. Assumes nothing.
use mathlib.Core.Path.{◌≡◌, refl, sym, ap, ◌∙◌}
use mathlib.Core.Option.{some}
use native.Mathlib.Omega.{arith}
use Rattle.calls_format.specs.Records as records
use Rattle.calls_format.specs.Decoded.{requested, decoded_of}
use Rattle.calls_format.proofs.LineLaws.{line_as}
use Rattle.calls_format.proofs.ProgramLaws.{plain-whole}
use Rattle.calls_window.specs.Window.{content}
use Rattle.calls_file.proofs.TurnLaws.{record-fits, turned-end, turned_none, turned-some}
use Rattle.calls_file.proofs.AlikeLaws.{turned-alike}
use Rattle.specification_programs.proofs.Programs.{plain-alike}
use borrow.Author.Rules.{rules}
use Rattle.calls_turn.proofs.turn.Goals as goal
use Rattle.calls_turn.proofs.turn.Lts as place
use Rattle.calls_turn.proofs.turn.Reads as reads
use Rattle.calls_turn.proofs.turn.Tie as tie

-- steps of the code, by name
abbrev After-decode : Type 0
After-decode = place.After-decode tie.the-claims reads.Pre reads.Post

abbrev After-known_told : Type 0
After-known_told = place.Past-After-known_told tie.the-claims reads.Pre reads.Post

pub returns-then-window : goal.returns-then-window
returns-then-window c =
    let e = c.ended.ensures in
    turned-alike plain-alike (turned-end _ _ _ c.refill-window.ensures c.if-window.true c.requires.1 (rw e.0) refl e.1 e.2 e.3)

-- what is decoded is the first record in the window
decoded : (c : After-decode) → decoded_of c.decode.result ≡ records.decode (content c.refill-window.result c.refill-window.new.buffer)
decoded c = c.decode.ensures ∙ ap records.decode c.unread.ensures

pub returns-in_default : goal.returns-in_default
returns-in_default c =
    let e = c.ended-in_default.ensures in
    turned-alike plain-alike (turned_none _ _ _ c.refill-window.ensures _ c.if-window.false
    (sym (decoded c.before.before.before.before) ∙ ap decoded_of c.in_default.is)
    c.undecodable.ensures (rw e.0) e.1 e.2 e.3)

-- the request is that of the first record
request : (c : After-known_told)
    → records.decode (content c.refill-window.result c.refill-window.new.buffer)
    ≡ some (requested c.in-Some.request)
request c = sym (decoded c.before) ∙ ap decoded_of c.in-Some.is

pub told-requires : goal.told-requires
told-requires c = (
  c.refill-window.ensures.held,
  c.requires.1,
  omega (arith, record-fits plain-whole c.refill-window.result c.refill-window.new.buffer (requested c.in-Some.request) (request c.before.before.before.before.before.before.before.before.before), c.length_of-length.ensures),
)

pub returns : goal.returns
returns c =
    let t = c.told.ensures in
    turned-alike plain-alike (turned-some _ _ _ c.refill-window.ensures plain-whole _ _ _ _ _ c.if-window.false (request c.before.before.before.before.before.before.before.before.before.before)
    (line_as c.kind_of-kind.ensures) c.length_of-length.ensures t (rw t.under c.serve-served.ensures))

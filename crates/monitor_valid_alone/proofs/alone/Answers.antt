-- `monitor_valid_alone::alone` meets its contract: one arm for each area. Assumes nothing.
use borrow.Author.Rules.{rules}
use Rattle.map.specs.FormMap.{under}
use Rattle.shadows.specs.Shadows.{Shadows}
use Rattle.map.specs.Locating.{Lies}
use Rattle.map.specs.declared.Located.{Located}
use Rattle.map.specs.declared.Located.TheVariants.{Heap, Stack, Outside}
use Rattle.monitor_base.proofs.LocatingLaws.{heap-there, stack-there}
use Rattle.monitor_read_laws.proofs.RangingLaws.{alone-heap, alone-stack, alone-out}
use Rattle.monitor_valid_alone.proofs.alone.Goals as goal
use Rattle.monitor_valid_alone.proofs.alone.Lts as place
use Rattle.monitor_valid_alone.proofs.alone.Reads as reads
use Rattle.monitor_valid_alone.proofs.alone.Tie as tie

-- steps of the code, by name
abbrev Start : Type 0
Start = place.Start tie.the-claims reads.Pre reads.Post

abbrev After-locate : Type 0
After-locate = place.After-locate tie.the-claims reads.Pre reads.Post

abbrev After-p : Type 0
After-p = place.Past-After-known_told tie.the-claims reads.Pre reads.Post

abbrev After-p2 : Type 0
After-p2 = place.Past-After-known_told2 tie.the-claims reads.Pre reads.Post

abbrev After-enum_told : Type 0
After-enum_told = place.Past-After-enum_told tie.the-claims reads.Pre reads.Post

abbrev shadows : Start → Shadows
shadows c = (c.args.heap.now, (c.args.primary.now, c.args.secondary.now))

-- the address lies in the heap, in the stack, in neither
abbrev lies : After-locate → Located → Type 0
lies c = Lies c.args.map c.args.a.0

in-heap : (c : After-p) → lies c.before (Heap c.in-Heap.p)
in-heap c = rw c.in-Heap.is at c.locate.ensures

in_stack : (c : After-p2) → lies c.before (Stack c.in-Stack.p)
in_stack c = rw c.in-Stack.is at c.locate.ensures

outside : (c : After-enum_told) → lies c.before Outside
outside c = rw c.in-Outside.is at c.locate.ensures

pub read-r-requires : goal.read-r-requires
read-r-requires c =
    let h = in-heap c.before in
    heap-there (under c.args.form c.args.map) (shadows c.before.before.before.before.before.before) c.requires.0 c.requires.1 c.args.a.0 _ h.0 h.1

pub read-r-requires-in-Stack : goal.read-r-requires-in-Stack
read-r-requires-in-Stack c =
    let h = in_stack c.before in
    stack-there (under c.args.form c.args.map) (shadows c.before.before.before.before.before.before) c.requires.0 c.requires.1 c.args.a.0 _ h.0 h.1

pub returns-in-Heap : goal.returns-in-Heap
returns-in-Heap c =
    let h = in-heap c.before.before.before in
    alone-heap (under c.args.form c.args.map) (shadows c.before.before.before.before.before.before.before.before) c.requires.0 c.requires.1 c.args.write c.args.n _ c.args.a.0 _ _ c.read-r.ensures h.0 h.1 c.judged.ensures

pub returns-in-Stack : goal.returns-in-Stack
returns-in-Stack c =
    let h = in_stack c.before.before.before in
    alone-stack (under c.args.form c.args.map) (shadows c.before.before.before.before.before.before.before.before) c.requires.0 c.requires.1 c.args.write c.args.n _ c.args.a.0 _ _ c.read-r-in-Stack.ensures h.0 h.1 c.judged-in-Stack.ensures

pub returns-in-Outside : goal.returns-in-Outside
returns-in-Outside c =
    alone-out (under c.args.form c.args.map) (shadows c.before.before.before.before.before.before.before) c.requires.0 c.requires.1 c.args.write c.args.n c.args.a.0 _ (outside c.before.before) c.yes_no.ensures

-- `stack_whole::is_whole` meets its contract: the constants are the words of written blocks, and the mask has each written bit. Assumes nothing.
use mathlib.Core.Path.{refl, sym}
use lib.Bits.{or_zero_r}
use lib.ListN.{length}
use Rattle.number.specs.Parts.{at}
use Rattle.number.proofs.WordLaws.{AllBytes}
use Rattle.stack_laws.proofs.WholeLaws.{word-4, word-8, bits-4, bits-8, whole-fits, whole_of, whole-none, plain_of, plain-none}
use Rattle.stack_whole.proofs.is_whole.Goals as goal

pub number_at-requires : goal.number_at-requires
number_at-requires c = let a = c.args in whole-fits (length a.primary.now) a.p.0 a.n 4 (sym c.if-is_there.ensures)

pub eight_at-requires : goal.eight_at-requires
eight_at-requires c = let a = c.args in whole-fits (length a.primary.now) a.p.0 a.n 8 (sym c.if-is_there-2.ensures)

pub returns-then-is_there-clause-as_it_is : goal.returns-then-is_there-clause-as_it_is
returns-then-is_there-clause-as_it_is c e f =
    let a = c.args in
    rw (e, or_zero_r) (whole_of _ (at a.primary.now) a.p.0 a.n 4 _ _ refl (sym c.if-is_there.ensures) c.number_at.ensures (sym word-4))

pub returns-then-is_there-clause-filled : goal.returns-then-is_there-clause-filled
returns-then-is_there-clause-filled c e f =
    let a = c.args in
    let b : AllBytes (at a.primary.now) = λ q. (c.type_inv.primary q).fits in
    rw e (plain_of _ (at a.primary.now) b a.p.0 a.n 4 _ _ _ refl (sym c.if-is_there.ensures) c.number_at.ensures (sym bits-4) (sym word-4))

pub returns-then-is_there-2-clause-as_it_is : goal.returns-then-is_there-2-clause-as_it_is
returns-then-is_there-2-clause-as_it_is c e f =
    let a = c.args in
    rw (f, or_zero_r) (whole_of _ (at a.primary.now) a.p.0 a.n 8 _ _ refl (sym c.if-is_there-2.ensures) c.eight_at.ensures (sym word-8))

pub returns-then-is_there-2-clause-filled : goal.returns-then-is_there-2-clause-filled
returns-then-is_there-2-clause-filled c e f =
    let a = c.args in
    let b : AllBytes (at a.primary.now) = λ q. (c.type_inv.primary q).fits in
    rw f (plain_of _ (at a.primary.now) b a.p.0 a.n 8 _ _ _ refl (sym c.if-is_there-2.ensures) c.eight_at.ensures (sym bits-8) (sym word-8))

pub returns-clause-as_it_is : goal.returns-clause-as_it_is
returns-clause-as_it_is c e f =
    let a = c.args in
    sym (whole-none _ (at a.primary.now) a.p.0 a.n (sym c.if-is_there.ensures) (sym c.if-is_there-2.ensures))

pub returns-clause-filled : goal.returns-clause-filled
returns-clause-filled c e f =
    let a = c.args in
    let b : AllBytes (at a.primary.now) = λ q. (c.type_inv.primary q).fits in
    sym (plain-none _ (at a.primary.now) b a.p.0 a.n (sym c.if-is_there.ensures) (sym c.if-is_there-2.ensures))

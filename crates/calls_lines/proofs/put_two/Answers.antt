-- `calls_lines::put_two` meets its contract. Assumes nothing.
use mathlib.Core.List.{[], ◌∷◌}
use native.Mathlib.Omega.{arith}
use Rattle.calls_format.proofs.LineLaws.{length-spaced, wrote-more-spaced}
use borrow.Author.Rules.{rules}
use Rattle.calls_lines.proofs.put_two.Goals as goal

pub put_spaced-end-requires : goal.put_spaced-end-requires
put_spaced-end-requires c =
    omega (arith, length-spaced (c.args.v ∷ []) (c.args.w ∷ []))

pub put_spaced-requires : goal.put_spaced-requires
put_spaced-requires c =
    let a = c.args in
    omega (arith, length-spaced (a.v ∷ []) (a.w ∷ []), c.put_spaced-end.auto.line)

pub returns : goal.returns
returns c =
    let e = c.put_spaced-end.ensures in
    wrote-more-spaced (_ ∷ []) (_ ∷ []) _ _ _ _ _ _ e c.put_spaced.ensures

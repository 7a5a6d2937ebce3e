-- `stack_climb::climb_eight` meets its contract: the number is the word of codes that climb. Assumes nothing.
use mathlib.Core.Path.{sym}
use Prim.Native.Nat.{◌+◌, ◌*◌}
use native.Mathlib.Omega.{arith}
use Rattle.stack_laws.proofs.WordLaws.{put_word, climb-eight}
use Rattle.stack_climb.proofs.climb_eight.Goals as goal

pub returns : goal.returns
returns c =
    let a = c.args in
    let put = rw c.from.ensures at c.put_eight_at.ensures in
    put_word (λ i. a.first + 4 * i) 8 _ a.p.0 a.primary.now _ (λ i k. omega arith) (sym (climb-eight a.first)) put

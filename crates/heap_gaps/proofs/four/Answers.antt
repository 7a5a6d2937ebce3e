-- `heap_gaps::four` meets its contract. Assumes nothing.
use Rattle.std.proofs.Common.{ℕ, List, ◌≡◌, ◌+◌, ◌*◌, ◌≤◌, length, arith}
use Rattle.map.specs.FormMap.{segment_size}
use Rattle.heap_gap.specs.declared.Scan.{Scan}
use Rattle.heap_gap.specs.Scans.{Tells, turned}
use Rattle.heap_gap_laws.specs.Pass.{Kept}
use Rattle.heap_gap_laws.proofs.KeptLaws.{kept_next, kept-four, kept-idle}
use Rattle.heap_gaps.proofs.four.Goals as goal

-- the bytes of four free segments, as the code finds them
free : {W G : ℕ} {h : List ℕ} {need k q : ℕ} (g : Scan) (n m : ℕ) → n ≡ m → Kept W G h need k (record g { run = g.run + n }) q
    → Kept W G h need k (record g { run = g.run + m }) q
free g n m e K = rw (← e) K

pub returns-then-a-b : goal.returns-then-a-b
returns-then-a-b c =
    let a = c.args in
    free a.g (4 * segment_size a.form) _ (omega (arith, c.segment-step.ensures))
    (kept-four a.heap.now a.need a.budget a.g a.p _ _ _ _ c.requires.0 c.requires.1 c.segment_at-a.ensures
    (rw c.segment-step.ensures at c.segment_at-b.ensures) (rw c.segment-step.ensures at c.segment_at-c.ensures)
    (rw c.segment-step.ensures at c.segment_at-d.ensures) c.if-a-b.true)

pub returns-then-g-a : goal.returns-then-g-a
returns-then-g-a c =
    let a = c.args in
    kept-idle a.heap.now a.need a.budget a.g a.p _ _ _ _ c.requires.0 c.requires.1 c.segment_at-a.ensures
    (rw c.segment-step.ensures at c.segment_at-b.ensures) (rw c.segment-step.ensures at c.segment_at-c.ensures)
    (rw c.segment-step.ensures at c.segment_at-d.ensures) c.if-g-a.true

-- what two turns keep, and three: of four segments of `step` bytes, which are within the shadow
module _ {W G : ℕ} (h : List ℕ) (need k p step : ℕ) (e : step ≡ G) (l : p + 4 * G ≤ length h) where
  two : (g r s : Scan) (a b : ℕ) → Kept W G h need k g p → Tells G h p a → Tells G h (p + step) b → r ≡ turned G g p a need k
      → s ≡ turned G r (p + step) b need k → Kept W G h need k s (p + 2 * step)
  two g r s a b K x y v w =
      let one = kept_next h need k g r p (p + step) a K (omega arith) (omega arith) x v in
      kept_next h need k r s (p + step) (p + 2 * step) b one (omega arith) (omega arith) y w

  three : (g r s t : Scan) (a b c : ℕ) → Kept W G h need k g p → Tells G h p a → Tells G h (p + step) b → Tells G h (p + 2 * step) c
      → r ≡ turned G g p a need k → s ≡ turned G r (p + step) b need k → t ≡ turned G s (p + 2 * step) c need k → Kept W G h need k t (p + 3 * step)
  three g r s t a b c K x y z u v w =
      kept_next h need k s t (p + 2 * step) (p + 3 * step) c (two g r s a b K x y u v) (omega arith) (omega arith) z w

pub turn-third-requires : goal.turn-third-requires
turn-third-requires c =
    let a = c.args in
    let K = two a.heap.now a.need a.budget a.p _ c.segment-step.ensures c.requires.1 a.g _ _ _ _ c.requires.0 c.segment_at-a.ensures
    c.segment_at-b.ensures c.turn-first.ensures c.turn-second.ensures in
    (record { within = K.within; most = K.most }, omega (arith, K.inside))

pub turn-requires : goal.turn-requires
turn-requires c =
    let a = c.args in
    let K = three a.heap.now a.need a.budget a.p _ c.segment-step.ensures c.requires.1 a.g _ _ _ _ _ _ c.requires.0 c.segment_at-a.ensures
    c.segment_at-b.ensures c.segment_at-c.ensures c.turn-first.ensures c.turn-second.ensures c.turn-third.ensures in
    (record { within = K.within; most = K.most }, omega (arith, K.inside))

pub returns : goal.returns
returns c =
    let a = c.args in
    let K = three a.heap.now a.need a.budget a.p _ c.segment-step.ensures c.requires.1 a.g _ _ _ _ _ _ c.requires.0 c.segment_at-a.ensures
    c.segment_at-b.ensures c.segment_at-c.ensures c.turn-first.ensures c.turn-second.ensures c.turn-third.ensures in
    kept_next a.heap.now a.need a.budget _ _ (a.p + 3 * c.segment-step.result) (a.p + 4 * segment_size a.form) _ K
    (omega (arith, c.segment-step.ensures)) c.requires.1 c.segment_at-d.ensures c.turn.ensures

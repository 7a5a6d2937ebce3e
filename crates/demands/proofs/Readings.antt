-- What every reading that gives a block keeps: see `BlocksRead` of specs/Told.antt. Assumes nothing.
use mathlib.Core.Path.{◌≡◌, sym, ap, ◌∙◌}
use mathlib.Core.Bool.{Bool, true, false}
use Prim.Native.Nat.{ℕ, ◌+◌, ◌-◌, ◌/◌, ◌%◌, ◌≤◌, ◌<◌}
use native.Mathlib.Omega.{arith}
use Rattle.number.specs.Bits.{bit}
use Rattle.number.specs.Parts.{at}
use Rattle.number.proofs.TestLaws.{Test, is_true, is_false, test, not-both}
use Rattle.number.proofs.BitLaws.{bit_test}
use Rattle.map.specs.FormMap.{FormMap}
use Rattle.map.proofs.MapLaws.{within-true}
use Rattle.plain.specs.Reading.{Reading, nothing, block, damaged}
use Rattle.plain.specs.Lift.{reading_up}
use Rattle.heap_layout.specs.Reading.{heap_reading}
use Rattle.heap_layout.proofs.ReadingLaws as heap
use Rattle.stack_layout.specs.Reading.{stack_reading}
use Rattle.stack_layout.proofs.ReadingLaws as stack
use Rattle.demands.specs.Addresses.{in_heap, in_stack}
use Rattle.demands.specs.Alters.{written_at, literal_at}
use Rattle.demands.specs.Told.{BlocksRead}

-- ---- by addresses

-- a block that is read at an address is read at its position, from the area's start on
pub lowered : (z b l o w : ℕ) (t : Bool) (r : Reading) → reading_up z r ≡ block b l o w t → (c : ℕ) × (r ≡ block c l o w t) × (b ≡ z + c)
lowered z b l o w t nothing e = absurd (let x : ◌≡◌ {A = ℕ} 0 1 = cc in omega arith)
lowered z b l o w t (block c k i v u) e =
    let el : k ≡ l = cc in
    let eo : i ≡ o = cc in
    let ew : v ≡ w = cc in
    let et : u ≡ t = cc in
    let eb : z + c ≡ b = cc in (c, rw (el, eo, ew, et), sym eb)
lowered z b l o w t damaged e = absurd (let x : ◌≡◌ {A = ℕ} 0 1 = cc in omega arith)

pub blocks-read : (m : FormMap) → BlocksRead m
blocks-read m s a b l o w t e = go (test (in_heap m a)) (test (in_stack m a))
  where
    go : Test (in_heap m a) → Test (in_stack m a)
        → (b + o ≡ a) × (o < l) × (w ≡ written_at m s a) × (bit t ≡ literal_at m s a)
        × (in_heap m a ≡ true → (m.heap_start + m.segment ≤ b) × (b + l ≤ m.heap_start + m.heap_size))
        × (in_heap m a ≡ false → (m.stack_start ≤ b) × (b + l ≤ m.stack_start + m.stack_size))
    go (is_true h) k =
        let u = within-true m.heap_start m.heap_size a h in
        let p : ℕ = a - m.heap_start in
        let r = lowered m.heap_start b l o w t (heap_reading m.width m.segment m.heap_size (at s.0) p) (rw h at e) in
        let T = heap.reading-told m.width m.segment m.heap_size (at s.0) p r.0 l o w t r.1 in
        let eb : b ≡ m.heap_start + r.0 = r.2 in (
          omega (arith, T.low, T.offset),
          T.inside,
          rw h T.written,
          rw (h, T.mark),
          λ i. (omega (arith, T.room), omega (arith, T.fits)),
          λ i. absurd (not-both (in_heap m a) h i),
        )
    go (is_false h) (is_true k) =
        let u = within-true m.stack_start m.stack_size a k in
        let p : ℕ = a - m.stack_start in
        let r = lowered m.stack_start b l o w t (stack_reading m.stack_size (at s.1.0) (at s.1.1) p) (rw (h, k) at e) in
        let T = stack.reading-told m.stack_size (at s.1.0) (at s.1.1) p r.0 l o w t r.1 in
        let n : ℕ = at s.1.0 p in
        let v : w ≡ n % 2 = omega (arith, T.written) in
        let d : n % 4 / 2 % 2 ≡ n / 2 % 2 = omega arith in
        let k' : bit t ≡ n / 2 % 2 = ap bit T.mark ∙ rw d (bit_test (n / 2 % 2) (omega arith)) in
        let eb : b ≡ m.stack_start + r.0 = r.2 in (
          omega (arith, T.low, T.offset),
          T.inside,
          rw h v,
          rw h k',
          λ i. absurd (not-both (in_heap m a) i h),
          λ i. (omega arith, omega (arith, T.fits)),
        )
    go (is_false h) (is_false k) = absurd (let e' : nothing ≡ block b l o w t = rw (h, k) at e in let x : ◌≡◌ {A = ℕ} 0 1 = cc in omega arith)

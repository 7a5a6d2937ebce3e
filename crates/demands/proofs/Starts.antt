-- How the bytes of a block start, on any shadows: see `BytesStart` of specs/Alters.antt. Assumes nothing.
use mathlib.Core.Path.{◌≡◌, refl, sym, ap, ◌∙◌}
use mathlib.Core.Bool.{true, false, ◌&&◌}
use mathlib.Core.List.{[], ◌∷◌}
use mathlib.Core.Option.{some}
use Prim.Native.Nat.{ℕ, ◌+◌, ◌*◌, ◌-◌, ◌/◌, ◌%◌, ◌≤◌, ◌<◌}
use native.Mathlib.Omega.{arith}
use lib.ListN.{length-replicate, get_or-replicate}
use borrow.Author.Tests.{leb-true, eqb-true}
use lib.Dec.{leb}
use Rattle.number.specs.Bits.{bit, bit_of}
use Rattle.number.specs.Parts.{at}
use Rattle.number.proofs.TestLaws.{Test, is_true, is_false, test, and-true, in-true, false_of}
use Rattle.map.specs.FormMap.{FormMap}
use Rattle.map.proofs.MapLaws.{Good, good-true, within-true, true-within, segment-least}
use Rattle.types.specs.declared.Beginning.{Beginning}
use Rattle.types.specs.declared.Beginning.TheVariants.{Unwritten, Written, Literal}
use Rattle.plain.specs.Areas.{segments, map_rules}
use Rattle.plain.specs.Block.{Block, len, starts_written, starts_literal, begun, contains, is_written}
use Rattle.plain.specs.Blocks.{find}
use Rattle.plain.specs.Rules.{Placed}
use Rattle.plain.specs.Call.{begin}
use Rattle.plain.specs.Reading.{says}
use Rattle.plain.proofs.AreaLaws.{segments-up}
use Rattle.plain.proofs.BlockLaws.{true-contains}
use Rattle.plain.proofs.StampedLaws.{Stands}
use Rattle.shadows.specs.Shadows.{Shadows, heap, primary, image}
use Rattle.monitor_base.specs.Calls.{call}
use Rattle.demands.specs.Addresses.{in_heap, in_stack, bit_position}
use Rattle.demands.specs.Demand1.{number_of}
use Rattle.demands.specs.Alters.{in_place, written_at, literal_at, BytesStart}
use Rattle.demands.proofs.Begun as begun
use Rattle.demands.proofs.Demand2.{image-listed}
use Rattle.demands.proofs.MarkLaws.{aligned-sub, bits-among}
use Rattle.demands.proofs.Numbers.{apart_words}
use Rattle.demands.proofs.Readings.{blocks-read}
use Rattle.demands.proofs.Alters.{record-stamps}

module _ (m : FormMap) (w : Beginning) (b l : ℕ) (s : Shadows) (e : number_of m (begin w b l) s ≡ 0) (x : ℕ) (from : b ≤ x) (to : x < b + l) where
  A : begun.Accepted m w b l s e
  A = begun.accepted m w b l s e

  abbrev B : Block
  B = begun w b l

  stands : Stands (map_rules m) B
  stands = begun.stands m w b l s e

  placed : Placed (map_rules m) 0 (B ∷ [])
  placed = record { some = stands.some; fits = stands.fits; aligned = stands.aligned; proper = stands.proper; room = omega arith; later = tt }

  -- the two bits of an address, as an image has them: what the block is read as there
  in_image : (written_at m (image m (B ∷ [])) x ≡ bit (starts_written w)) × (literal_at m (image m (B ∷ [])) x ≡ bit (starts_literal w))
  unfolding find
  in_image =
      let ln : len B ≡ l = length-replicate l (starts_written w) in
      let c : contains x B ≡ true = true-contains x B from (omega (arith, ln)) in
      let f : find (contains x) (B ∷ []) ≡ some B = rw c in
      let k = blocks-read m (image m (B ∷ [])) x b (len B) (x - b) (bit (is_written B x)) (starts_literal w)
      (image-listed m A.good (B ∷ []) placed x ∙ ap (says x) f) in
      (sym k.2 ∙ ap bit (get_or-replicate l (x - b) (starts_written w) false (omega arith)), sym k.3)

  -- and they are those that the call leaves
  same : (written_at m (call m (begin w b l) s).0 x ≡ written_at m (image m (B ∷ [])) x)
      × (literal_at m (call m (begin w b l) s).0 x ≡ literal_at m (image m (B ∷ [])) x)
  unfolding segments
  same = go (test (in_heap m b))
    where
      g : Good m
      g = good-true m A.good

      go : Test (in_heap m b)
          → (written_at m (call m (begin w b l) s).0 x ≡ written_at m (image m (B ∷ [])) x)
          × (literal_at m (call m (begin w b l) s).0 x ≡ literal_at m (image m (B ∷ [])) x)
      go (is_true h) =
          let f : (leb (m.heap_start + m.segment) b && leb (b + l) (m.heap_start + m.heap_size) && true) ≡ true = rw h at A.fits in
          let u = and-true (leb (m.heap_start + m.segment) b && leb (b + l) (m.heap_start + m.heap_size)) true f in
          let v = and-true (leb (m.heap_start + m.segment) b) (leb (b + l) (m.heap_start + m.heap_size)) u.0 in
          let lo : m.heap_start + m.segment ≤ b = leb-true (m.heap_start + m.segment) b v.0 in
          let hi : b + l ≤ m.heap_start + m.heap_size = leb-true (b + l) (m.heap_start + m.heap_size) v.1 in
          let al : b % m.segment ≡ 0 = eqb-true (b % m.segment) 0 (rw h at A.aligned) in
          let hx : in_heap m x ≡ true = true-within m.heap_start m.heap_size x (omega arith) (omega arith) in
          let G : ℕ = m.segment in
          let some : 0 < G = omega (arith, segment-least m) in
          let c : ℕ = b - m.heap_start in
          let q : ℕ = bit_position m (x - m.heap_start) in
          let at_c = aligned-sub G b m.heap_start some (omega arith) al g.heap_start_whole in
          let i = bits-among m.width G m.wide m.two c (segments G l) (x - m.heap_start) at_c (omega arith) (omega (arith, segments-up G some l)) in
          let pl : in_place m b l (heap q) ≡ true =
          rw h (in-true (c - G) (c - G + (G + segments G l * G)) q (omega (arith, i.0)) (omega (arith, i.1))) in
          let r = record-stamps m w b l s e (heap q) in
          rw hx (ap (λ (y : ℕ). bit_of y ((x - m.heap_start) % m.segment % 8)) (r ∙ rw pl), refl)
      go (is_false h) =
          let f : (leb (b + l) (m.stack_start + m.stack_size) && in_stack m b) ≡ true = rw h at A.fits in
          let u = and-true (leb (b + l) (m.stack_start + m.stack_size)) (in_stack m b) f in
          let hi : b + l ≤ m.stack_start + m.stack_size = leb-true (b + l) (m.stack_start + m.stack_size) u.0 in
          let st = within-true m.stack_start m.stack_size b u.1 in
          let sx : in_stack m x ≡ true = true-within m.stack_start m.stack_size x (omega arith) (omega arith) in
          let hx : in_heap m x ≡ false = false_of (in_heap m x) (λ y. apart_words m A.good x y sx) in
          let q : ℕ = x - m.stack_start in
          let pl : in_place m b l (primary q) ≡ true =
          rw h (in-true (b - m.stack_start) (b - m.stack_start + l) q (omega arith) (omega arith)) in
          let r : at (call m (begin w b l) s).0.1.0 q ≡ at (image m (B ∷ [])).1.0 q = record-stamps m w b l s e (primary q) ∙ rw pl in
          rw hx (ap (λ (y : ℕ). y % 2) r, ap (λ (y : ℕ). y / 2 % 2) r)

pub bytes-start : (m : FormMap) → BytesStart m
bytes-start m b l s x from to = (λ e. starts Unwritten e, λ e. starts Written e, λ e. starts Literal e)
  where
    starts : (w : Beginning) → number_of m (begin w b l) s ≡ 0
        → (written_at m (call m (begin w b l) s).0 x ≡ bit (starts_written w)) × (literal_at m (call m (begin w b l) s).0 x ≡ bit (starts_literal w))
    starts w e =
        let k = same m w b l s e x from to in
        let i = in_image m w b l s e x from to in
        (k.0 ∙ i.0, k.1 ∙ i.1)

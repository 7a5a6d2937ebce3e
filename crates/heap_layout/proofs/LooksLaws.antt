-- The reading of a position looks at few bytes: W of the segment's number, W of the length, one of written bits. Assumes nothing.
use mathlib.Core.Path.{◌≡◌}
use mathlib.Core.List.{[], ◌∷◌}
use Prim.Native.Nat.{ℕ, ◌+◌, ◌*◌, ◌-◌, ◌/◌}
use native.Mathlib.Omega.{arith}
use lib.ListN.{length, length-append}
use Rattle.number.specs.Little.{word}
use Rattle.number.specs.Parts.{tab, Each}
use Rattle.number.proofs.LittleLaws.{word_same}
use Rattle.number.proofs.PartLaws.{length-tab, each_append, each-tab}
use Rattle.heap_layout.specs.Reading.{bits_place, heap_reading, heap_looks}

pub length-looks : (W G : ℕ) (f : ℕ → ℕ) (p : ℕ) → length (heap_looks W G f p) ≡ W + W + 1
unfolding heap_looks
length-looks W G f p = simp (length-append, length-tab) (omega arith)

-- the number at w places depends on them alone
word-looks : (f g : ℕ → ℕ) (a w : ℕ) → Each (λ q. g q ≡ f q) (tab a w (λ q. q)) → word g a w ≡ word f a w
word-looks f g a w h = word_same g f a a w (λ i k. each-tab (λ q. g q ≡ f q) (λ q. q) a w i h k)

-- bytes that agree with f at the places that f's reading looks at have the same reading
pub heap-looks : (W G size : ℕ) (f g : ℕ → ℕ) (p : ℕ) → Each (λ q. g q ≡ f q) (heap_looks W G f p) → heap_reading W G size g p ≡ heap_reading W G size f p
unfolding heap_looks heap_reading
heap-looks W G size f g p h =
    let s : ℕ = p / G * G in
    let a : ℕ = s - (word f s W - 1) - G + W in
    let (x, r) = each_append (λ q. g q ≡ f q) (tab s W (λ q. q)) _ h in
    let (y, b) = each_append (λ q. g q ≡ f q) (tab a W (λ q. q)) (bits_place W G p ∷ []) r in
    rw (word-looks f g s W x, word-looks f g a W y, b.0)

-- and it looks at the same places
pub looks-same : (W G : ℕ) (f g : ℕ → ℕ) (p : ℕ) → Each (λ q. g q ≡ f q) (heap_looks W G f p) → heap_looks W G g p ≡ heap_looks W G f p
unfolding heap_looks
looks-same W G f g p h = rw (word-looks f g (p / G * G) W (each_append (λ q. g q ≡ f q) (tab (p / G * G) W (λ q. q)) _ h).0)

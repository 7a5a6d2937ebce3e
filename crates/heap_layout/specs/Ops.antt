-- The operations on a heap shadow. Positions. Assumes nothing.
use Rattle.std.specs.Prelude.{Bool, List, [], ◌∷◌, ℕ, ◌*◌, ◌-◌, ◌/◌, ◌%◌, replicate, set, eqb}
use Rattle.number.specs.Bits.{with_bit}
use Rattle.number.specs.Parts.{at, zeros, over}
use Rattle.plain.specs.Block.{Block, len}
use Rattle.plain.specs.Gaps.{Gap, gaps_of}
use Rattle.plain.specs.Areas.{place_length, heap_rules}
use Rattle.plain.specs.Ops.{Ops}
use Rattle.plain.specs.Found.{totals}
use Rattle.heap_layout.specs.Image.{heap_byte}
use Rattle.heap_layout.specs.Reading.{bits_place, written_bit, heap_reading}
use Rattle.heap_layout.specs.Walk.{heap_walk}

module _ (W G : ℕ) where
  unfoldable pub heap_vacant : List ℕ → (b l : ℕ) → Bool
  heap_vacant h b l = zeros (at h) (b - G) (place_length G l)

  unfoldable pub heap_stamp : List ℕ → Block → List ℕ
  heap_stamp h b = over (b.base - G) (place_length G (len b)) (heap_byte W G (b ∷ [])) h

  unfoldable pub heap_erase : List ℕ → (b l : ℕ) → List ℕ
  heap_erase h b l = over (b - G) (place_length G l) (λ q. 0) h

  unfoldable pub heap_mark : List ℕ → (p : ℕ) → List ℕ
  heap_mark h p = set h (bits_place W G p) (with_bit (at h (bits_place W G p)) (p % G % 8))

  unfoldable pub heap_marked : List ℕ → (p : ℕ) → Bool
  heap_marked h p = eqb (written_bit W G (at h) p) 1

  -- segment i is free where its bytes are all zero
  unfoldable pub heap_gaps : (size : ℕ) → List ℕ → List Gap
  heap_gaps size h = gaps_of G 0 (λ i. zeros (at h) (i * G) G) (size / G)

  abbrev pub heap_ops : (size : ℕ) → Ops (List ℕ)
  heap_ops size =
      record {
        cleared = replicate size 0;
        read = λ h p. heap_reading W G size (at h) p;
        vacant = heap_vacant;
        stamp = heap_stamp;
        erase = heap_erase;
        mark = heap_mark;
        marked = heap_marked;
        audit = λ h. totals (heap_rules G 0 size) (heap_walk W G size (at h) (size / G) 0 0 0);
        gaps = heap_gaps size;
      }

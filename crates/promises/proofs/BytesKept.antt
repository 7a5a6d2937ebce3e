-- Every call leaves bytes where it found bytes: what it writes is below 256. Assumes nothing.
use mathlib.Core.List.{List, [], ◌∷◌}
use Prim.Native.Nat.{ℕ, zero, suc, ◌-◌, ◌%◌, ◌^◌, ◌<◌}
use native.Mathlib.Omega.{arith}
use lib.Bits.{or_lt}
use lib.ListN.{replicate, set}
use lib.Pow.{pow-lt}
use Rattle.number.specs.Little.{Bytes}
use Rattle.number.specs.Bits.{with_bit}
use Rattle.number.specs.Parts.{at, in_part, over}
use Rattle.number.proofs.LittleLaws.{bytes-tab}
use Rattle.number.proofs.TestLaws.{Test, is_true, is_false, test, cond_both}
use Rattle.map.specs.FormMap.{FormMap, areas}
use Rattle.types.specs.Block.{Block}
use Rattle.types.specs.Shadows.{Shadows}
use Rattle.types.specs.Call.{Call, first_of, unless}
use Rattle.plain.specs.Areas.{map_rules}
use Rattle.plain.specs.ShadowCalls.{shadows_after, shadow_answer}
use Rattle.heap_layout.specs.Ops.{heap_stamp, heap_erase, heap_mark}
use Rattle.heap_layout.proofs.ByteLaws.{heap-byte-lt}
use Rattle.stack_layout.specs.Ops.{stack_stamp, stack_erase, stack_mark}
use Rattle.stack_layout.proofs.ByteLaws.{primary-byte-lt, secondary-byte-lt}
use Rattle.shadows.specs.Shadows.{shadow_ops}
use Rattle.monitor_base.specs.Calls.{refusals, call}
use Rattle.demands.proofs.Alters.{Keeps, after-keeps}
use Rattle.specification.specs.Map.{in_heap}
use Rattle.specification.specs.Votes.{AllBytes}

-- ---- a list of bytes

pub byte_at : (h : List ℕ) → Bytes h → (q : ℕ) → at h q < 256
byte_at [] b q = omega arith
byte_at (x ∷ h) b zero = b.0
byte_at (x ∷ h) b (suc q) = byte_at h b.1 q

set-bytes : (h : List ℕ) → Bytes h → (q v : ℕ) → v < 256 → Bytes (set h q v)
set-bytes [] b q v l = tt
set-bytes (x ∷ h) b zero v l = (l, b.1)
set-bytes (x ∷ h) b (suc q) v l = (b.0, set-bytes h b.1 q v l)

pub over-bytes : (a n : ℕ) (f : ℕ → ℕ) (h : List ℕ) → ((q : ℕ) → f q < 256) → Bytes h → Bytes (over a n f h)
unfolding over
over-bytes a n f h l b = bytes-tab _ (λ q. cond_both (λ (x : ℕ). x < 256) (in_part a n q) (f q) (at h q) (l q) (byte_at h b q)) _ 0

pub zero-bytes : (n : ℕ) → Bytes (replicate n 0)
zero-bytes zero = tt
zero-bytes (suc n) = (omega arith, zero-bytes n)

bit_byte : (x j : ℕ) → x < 256 → with_bit x (j % 8) < 256
unfolding with_bit
bit_byte x j l = or_lt 8 x (2 ^ (j % 8)) l (pow-lt {i = j % 8} {j = 8} (omega arith))

-- ---- what the calls write

module _ (m : FormMap) where
  stamp-bytes : (s : Shadows) (b : Block) → AllBytes s → AllBytes ((shadow_ops m).stamp s b)
  unfolding heap_stamp stack_stamp
  stamp-bytes s b (h, p, k) = go (test (in_heap (areas m) b.base))
    where
      go : Test (in_heap (areas m) b.base) → AllBytes ((shadow_ops m).stamp s b)
      go (is_true e) = rw e (over-bytes _ _ _ s.0 (heap-byte-lt _ _ _) h, p, k)
      go (is_false e) = rw e (h, over-bytes _ _ _ s.1.0 (primary-byte-lt _) p, over-bytes _ _ _ s.1.1 (secondary-byte-lt _) k)

  erase-bytes : (s : Shadows) (x l : ℕ) → AllBytes s → AllBytes ((shadow_ops m).erase s x l)
  unfolding heap_erase stack_erase
  erase-bytes s x l (h, p, k) = go (test (in_heap (areas m) x))
    where
      go : Test (in_heap (areas m) x) → AllBytes ((shadow_ops m).erase s x l)
      go (is_true e) = rw e (over-bytes _ _ _ s.0 (λ q. omega arith) h, p, k)
      go (is_false e) = rw e (h, over-bytes _ _ _ s.1.0 (λ q. omega arith) p, over-bytes _ _ _ s.1.1 (λ q. omega arith) k)

  mark-bytes : (s : Shadows) (a : ℕ) → AllBytes s → AllBytes ((shadow_ops m).mark s a)
  unfolding heap_mark stack_mark
  mark-bytes s a (h, p, k) = go (test (in_heap (areas m) a))
    where
      go : Test (in_heap (areas m) a) → AllBytes ((shadow_ops m).mark s a)
      go (is_true e) = rw e (set-bytes s.0 h _ _ (bit_byte _ _ (byte_at s.0 h _)), p, k)
      go (is_false e) = rw e (h, set-bytes s.1.0 p _ _ (omega (arith, byte_at s.1.0 p (a - m.stack_start))), k)

  keeps : Keeps m AllBytes
  keeps =
      record {
        cleared = (zero-bytes m.heap_size, zero-bytes m.stack_size, zero-bytes m.stack_size);
        stamped = stamp-bytes;
        erased = erase-bytes;
        marked = mark-bytes;
      }

  pub bytes_kept : (c : Call) (s : Shadows) → AllBytes s → AllBytes (call m c s).0
  unfolding call
  bytes_kept c s b = go (first_of (refusals m c s))
    where
      go : (k : ℕ) → AllBytes (unless k s (shadows_after (map_rules m) (shadow_ops m) c s, shadow_answer (map_rules m) (shadow_ops m) c s)).0
      go zero = after-keeps m AllBytes keeps c s b
      go (suc k) = b

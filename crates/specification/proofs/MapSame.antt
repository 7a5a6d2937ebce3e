-- The rules of a map are those that the library is proved against. Assumes nothing.
use mathlib.Core.Path.{◌≡◌, refl}
use mathlib.Core.Bool.{Bool, true, false, cond, not, ◌&&◌, ◌||◌, and_assoc, and_comm}
use Prim.Native.Nat.{ℕ, ◌+◌, ◌%◌}
use native.Mathlib.Omega.{arith}
use lib.Dec.{leb, eqb}
use borrow.Author.Tests.{le-leb, leb-true, eqb-true}
use Rattle.number.proofs.TestLaws.{Test, is_true, is_false, test, same_test, and-true, in-facts, false_of}
use Rattle.map.specs.declared.Map.{Map}
use Rattle.map.specs.declared.Form as kind
use Rattle.map.specs.declared.Form.TheVariants.{Player, Desk}
use Rattle.map.specs.FormMap.{under, player, desk}
use Rattle.map.specs.Map.{good_map, good_area, apart}
use Rattle.map.proofs.MapLaws.{good-true}
use Rattle.plain.specs.Areas.{map_rules}
use Rattle.plain.specs.Call.{is_stack}
use Rattle.shadows.specs.Shadows.{lengths_fit}
use Rattle.specification.specs.Map.{good, Shadows, right_lengths, heap_end, stack_end, in_heap, in_stack}
use Rattle.specification.specs.Desk as desks
use Rattle.specification.proofs.Forms.{good_by}

and_left : (a b c : Bool) → (a && (b && c)) ≡ (b && (a && c))
and_left true true c = refl
and_left true false c = refl
and_left false true c = refl
and_left false false c = refl

-- here a rule is said of both areas, in the library an area has all its rules
sorted : (hz kz hs ks hl hm kl km h8 k8 he ke ap : Bool)
    → (hz && kz && hs && ks && hl && hm && kl && km && h8 && k8 && he && ke && ap) ≡ ((h8 && hs && hz && hl && hm && he) && (k8 && ks && kz && kl && km && ke) && ap)
sorted hz kz hs ks hl hm kl km h8 k8 he ke ap = simp (and_assoc, and_comm, and_left)

pub player-good : (m : Map) → good m ≡ good_map (player m)
unfolding good good_map good_area apart
player-good m =
    let (hs, hz, ks, kz) : ℕ × ℕ × ℕ × ℕ = (m.heap_start, m.heap_size, m.stack_start, m.stack_size) in
    sorted (eqb (hz % 8) 0) (eqb (kz % 8) 0) (eqb (hs % 8) 0) (eqb (ks % 8) 0) (leb 16 hz) (leb hz 131072) (leb 16 kz) (leb kz 65536) (leb 8 hs) (leb 8 ks)
    (leb (hs + hz) 4294967295) (leb (ks + kz) 4294967295) (leb (hs + hz) ks || leb (ks + kz) hs)

-- a multiple of 16 that is at least 8 is at least 16
from-16 : (x : ℕ) → (leb 8 x && eqb (x % 16) 0) ≡ (leb 16 x && eqb (x % 16) 0)
from-16 x =
    same_test (leb 8 x && eqb (x % 16) 0) (leb 16 x && eqb (x % 16) 0)
    (λ e. let f = and-true (leb 8 x) (eqb (x % 16) 0) e in rw (le-leb 16 x (omega (arith, leb-true 8 x f.0, eqb-true (x % 16) 0 f.1)), f.1))
    (λ e. let f = and-true (leb 16 x) (eqb (x % 16) 0) e in rw (le-leb 8 x (omega (arith, leb-true 16 x f.0)), f.1))

desk-good : (m : Map) → desks.good m ≡ good_map (desk m)
unfolding desks.good good_map good_area apart
desk-good m =
    let (hs, hz, ks, kz) : ℕ × ℕ × ℕ × ℕ = (m.heap_start, m.heap_size, m.stack_start, m.stack_size) in
    rw (← from-16 hs)
    (sorted (eqb (hz % 16) 0) (eqb (kz % 8) 0) (eqb (hs % 16) 0) (eqb (ks % 8) 0) (leb 32 hz) (leb hz 131072) (leb 16 kz) (leb kz 65536) (leb 8 hs) (leb 8 ks)
    (leb (hs + hz) 4294967295) (leb (ks + kz) 4294967295) (leb (hs + hz) ks || leb (ks + kz) hs))

pub good-same : (f : kind.Form) (m : Map) → good_by f m ≡ good_map (under f m)
good-same Player m = player-good m
good-same Desk m = desk-good m

pub lengths-same : (f : kind.Form) (m : Map) (s : Shadows) → right_lengths m s ≡ lengths_fit (under f m) s
unfolding right_lengths lengths_fit
lengths-same f m s = refl

-- ---- under a good map

-- the areas are apart
pub not_heap : (f : kind.Form) (m : Map) (a : ℕ) → good_map (under f m) ≡ true → in_stack m a ≡ true → in_heap m a ≡ false
not_heap f m a g k =
    false_of (in_heap m a)
    (λ h. let (l, u) = in-facts m.heap_start (heap_end m) a h in
    let (x, y) = in-facts m.stack_start (stack_end m) a k in
    (good-true (under f m) g).no_share (omega arith) (omega arith))

pub stack_same : (f : kind.Form) (m : Map) (a : ℕ) → good_map (under f m) ≡ true → in_stack m a ≡ is_stack (map_rules (under f m)) a
stack_same f m a g = go (test (in_stack m a))
  where
    none : (h : Bool) → false ≡ ((h || false) && not (cond h true false))
    none true = refl
    none false = refl

    go : Test (in_stack m a) → in_stack m a ≡ is_stack (map_rules (under f m)) a
    go (is_true k) = rw (k, not_heap f m a g k)
    go (is_false k) = rw k (none (in_heap m a))

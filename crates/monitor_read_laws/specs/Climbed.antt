-- How far the search for the next block goes on at once from an address whose reading it has passed: the addresses between are settled.
-- Assumes nothing.
use Rattle.std.specs.Prelude.{◌≡◌, cond, List, ℕ, ◌+◌, ◌≤◌, ◌<◌, length, ltb}
use Rattle.number.specs.Parts.{at}
use Rattle.map.specs.declared.Map.{Map}
use Rattle.map.specs.FormMap.{FormMap, areas}
use Rattle.heap_laws.specs.Climb.{FreeSegments}
use Rattle.map.specs.declared.Located.{Located}
use Rattle.map.specs.declared.Located.TheVariants.{Heap, Stack, Outside}

-- the bytes after position p, to before r, are 0
abbrev pub FreeBytes : (size : ℕ) → (f : ℕ → ℕ) → (p r : ℕ) → Type 0
FreeBytes size f p r = (p + 1 ≤ r) × (r ≤ size) × ((x : ℕ) → p + 1 ≤ x → x < r → f x ≡ 0)

-- the lowest start above an address that lies in neither area and below an area's end
unfoldable pub start_above : Map → (a : ℕ) → ℕ
start_above m a =
    let h = m.heap_start in
    let s = m.stack_start in
    cond (ltb h s) (cond (ltb a h) h s) (cond (ltb a s) s h)

-- from the address a, which lies there, to before r: the rest of a segment and free segments, bytes that are 0, or what lies outside
abbrev pub Skips : FormMap → (heap primary : List ℕ) → (a : ℕ) → Located → (r : ℕ) → Type 0
Skips m h p a (Heap q) r = (z : ℕ) × (r ≡ m.heap_start + z) × FreeSegments m.width m.segment (length h) (at h) q.0 z
Skips m h p a (Stack q) r = (z : ℕ) × (r ≡ m.stack_start + z) × FreeBytes (length p) (at p) q.0 z
Skips m h p a Outside r = r ≡ start_above (areas m) a

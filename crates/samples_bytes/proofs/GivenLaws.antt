-- What is stored, byte by byte and group by group. Assumes nothing.
use mathlib.Core.Path.{◌≡◌}
use mathlib.Core.Bool.{true, false}
use mathlib.Core.List.{List}
use Rattle.std.specs.Prelude.{Option, Some, None}
use Rattle.std.specs.Option.{option_or}
use mathlib.Core.Logic.{◌≢◌}
use Prim.Native.Nat.{ℕ, suc, ◌+◌, ◌-◌, ◌≤◌, ◌<◌}
use native.Mathlib.Omega.{arith}
use lib.ListN.{length, set, length-set}
use borrow.Author.Tests.{lt-ltb, le-ltb, eq-eqb, ne_eqb}
use Rattle.samples_text.specs.Text.{skip_spaces, after_byte, after_word, number_at}
use Rattle.samples_bytes.specs.Given.{Stored, stored, store_bytes, store_at, store_named, reached, store_any, Given, given, is_given, store_all, heap_name, primary_name, secondary_name}

-- ---- bytes: p is the place in the line, q the position in the shadow

-- all bytes that still fit
abbrev pub bytes_from : (line : List ℕ) → (p q : ℕ) → (shadow : List ℕ) → Stored
bytes_from line p q h = store_bytes (length h - q) line p q h

module _ (line : List ℕ) (p q : ℕ) (h : List ℕ) where
  pub bytes-end : length h ≤ q → bytes_from line p q h ≡ stored None h
  unfolding store_bytes
  bytes-end l = let z : length h - q ≡ 0 = omega arith in rw z

  module _ (l : q < length h) where
    one_more : length h - q ≡ suc (length h - (q + 1))
    one_more = omega arith

    pub bytes-none : number_at line p ≡ None → bytes_from line p q h ≡ stored None h
    unfolding store_bytes
    bytes-none e = rw (one_more, e)

    module _ (m : ℕ × ℕ) (n : number_at line p ≡ Some m) where
      pub bytes-large : 255 < m.0 → bytes_from line p q h ≡ stored None h
      unfolding store_bytes
      bytes-large t = rw (one_more, n, lt-ltb 255 m.0 t)

      module _ (v : ℕ) (w : v ≡ m.0) (t : m.0 ≤ 255) where
        pub bytes-last : after_byte line m.1 44 ≡ None → bytes_from line p q h ≡ stored (Some m.1) (set h q v)
        unfolding store_bytes
        bytes-last a = rw (one_more, n, le-ltb 255 m.0 t, a, w)

        pub bytes_next : (p' : ℕ) → after_byte line m.1 44 ≡ Some p' → bytes_from line p q h ≡ bytes_from line p' (q + 1) (set h q v)
        unfolding store_bytes
        bytes_next p' a = rw (one_more, n, le-ltb 255 m.0 t, a, w, length-set h q m.0)

-- ---- a position, and a name

module _ (line : List ℕ) (p : ℕ) (h : List ℕ) where
  pub at_none : number_at line p ≡ None → store_at line p h ≡ stored None h
  unfolding store_at
  at_none e = rw e

  module _ (m : ℕ × ℕ) (n : number_at line p ≡ Some m) where
    pub at_bare : after_byte line m.1 61 ≡ None → store_at line p h ≡ stored None h
    unfolding store_at
    at_bare a = rw (n, a)

    pub at-bytes : (s : ℕ) → after_byte line m.1 61 ≡ Some s → store_at line p h ≡ bytes_from line s m.0 h
    unfolding store_at
    at-bytes s a = rw (n, a)

module _ (line : List ℕ) (p : ℕ) (name h : List ℕ) where
  pub named_other : after_word line p name ≡ None → store_named line p name h ≡ stored None h
  unfolding store_named
  named_other e = rw e

  pub named-bytes : (w : ℕ) → after_word line p name ≡ Some w → store_named line p name h ≡ store_at line w h
  unfolding store_named
  named-bytes w e = rw e

pub any_of : (line : List ℕ) (p : ℕ) (h q s h' q' s' : List ℕ) (a b c m r : Option ℕ) → stored a h' ≡ store_named line p heap_name h
    → stored b q' ≡ store_named line p primary_name q → stored c s' ≡ store_named line p secondary_name s → m ≡ option_or a b → r ≡ option_or m c
    → reached r h' q' s' ≡ store_any line p h q s
unfolding store_any
any_of line p h q s h' q' s' a b c m r x y z e f = rw (← x, ← y, ← z, f, e)

-- ---- groups: m turns are left, and n after this one

pub all_end : (m : ℕ) (line : List ℕ) (p : ℕ) (h q s : List ℕ) → m ≡ 0 → store_all m line p h q s ≡ given None h q s
unfolding store_all
all_end m line p h q s z = rw z

module _ (m n : ℕ) (z : m ≡ suc n) (line : List ℕ) (p : ℕ) (h q s : List ℕ) (w : ℕ) (x : w ≡ skip_spaces line p) where
  pub all-call : (c : ℕ) → after_byte line w 58 ≡ Some c → store_all m line p h q s ≡ given (Some c) h q s
  unfolding store_all
  all-call c a = rw (z, ← x, a)

  module _ (a : after_byte line w 58 ≡ None) where
    pub all-close : w ≡ p → store_all m line p h q s ≡ given None h q s
    unfolding store_all
    all-close e = rw (z, ← x, a, eq-eqb w p e)

    module _ (d : w ≢ p) (r : Option ℕ) (h' q' s' : List ℕ) (y : reached r h' q' s' ≡ store_any line w h q s) where
      pub all-other : r ≡ None → store_all m line p h q s ≡ given None h' q' s'
      unfolding store_all
      all-other f = rw (z, ← x, a, ne_eqb w p d, ← y, f)

      pub all-next : (e : ℕ) → r ≡ Some e → store_all m line p h q s ≡ store_all n line e h' q' s'
      unfolding store_all
      all-next e f = rw (z, ← x, a, ne_eqb w p d, ← y, f)

pub given-none : (r : Option ℕ) (h q s : List ℕ) (x : Given) → given r h q s ≡ x → r ≡ None → false ≡ is_given x
given-none r h q s x y e = rw (← y, e)

pub given-call : (r : Option ℕ) (h q s : List ℕ) (x : Given) → given r h q s ≡ x → (c : ℕ) → r ≡ Some c → true ≡ is_given x
given-call r h q s x y c e = rw (← y, e)

-- Numbers put into a record one after another, and what an item is in each case. Assumes nothing.
use mathlib.Core.Path.{◌≡◌, refl, sym, ap, ◌∙◌}
use mathlib.Core.Bool.{Bool, true, false, cond}
use mathlib.Core.List.{List, [], ◌∷◌}
use Rattle.std.specs.Prelude.{Option, Some, None, Ok}
use Prim.Native.Nat.{ℕ, zero, suc, ◌+◌, ◌*◌, ◌-◌, ◌/◌, ◌≤◌, ◌<◌}
use native.Mathlib.Omega.{arith}
use lib.ListN.{length}
use borrow.Author.Tests.{le-leb, lt-leb, lt-ltb, le-ltb}
use Rattle.samples_text.specs.Text.{skip_from, skip_spaces, gap_at, end_at, number_at}
use Rattle.samples_records.specs.declared.Record.{Record}
use Rattle.samples_records.specs.declared.names.Named.{Named}
use Rattle.samples_records.specs.Names.{name_in, call_names}
use Rattle.samples_records.specs.Records.{named, Numbers, numbers_at, record_length, record_of, put_number, put_numbers, put_record, call_of, call_at, call_bytes, malformed, item_at, item_bytes}

module _ (n : ℕ) (line : List ℕ) (p : ℕ) where
  none_more : number_at line (skip_spaces line p) ≡ None → numbers_at n line p ≡ record { values = []; end = p }
  unfolding numbers_at
  none_more e = go n
    where
      go : (m : ℕ) → numbers_at m line p ≡ record { values = []; end = p }
      go zero = refl
      go (suc m) = rw e

  one_more : (v e : ℕ) → number_at line (skip_spaces line p) ≡ Some (v, e)
      → numbers_at (suc n) line p ≡ record { values = v ∷ (numbers_at n line e).values; end = (numbers_at n line e).end }
  unfolding numbers_at
  one_more v e w = rw w

-- bytes k on are still to be put, from the numbers at place q on; h₀ the bytes before, h now
pub record Putting (line : List ℕ) (p : ℕ) (h₀ h : List ℕ) (k q : ℕ) : Type 0 where
  pub high : k ≤ 64
  pub bytes : put_numbers 4 (numbers_at 15 line p).values h₀ ≡ put_numbers k (numbers_at ((64 - k) / 4) line q).values h
  pub count : record_length (numbers_at 15 line p).values ≡ k + 4 * length (numbers_at ((64 - k) / 4) line q).values
  pub end : (numbers_at 15 line p).end ≡ (numbers_at ((64 - k) / 4) line q).end

pub putting-start : (line : List ℕ) (p : ℕ) (h : List ℕ) → Putting line p h h 4 p
putting-start line p h = record { high = omega arith; bytes = refl; count = refl; end = refl }

-- what is put, k the bytes of the record and q the place after it
pub record IsPut (line : List ℕ) (p : ℕ) (h₀ h : List ℕ) (k q : ℕ) : Type 0 where
  pub long : k ≡ record_length (numbers_at 15 line p).values
  pub last : q ≡ (numbers_at 15 line p).end
  pub puts : h ≡ put_numbers 4 (numbers_at 15 line p).values h₀

module _ {line : List ℕ} {p : ℕ} {h₀ h : List ℕ} {k q : ℕ} (c : Putting line p h₀ h k q) where
  put_all : numbers_at ((64 - k) / 4) line q ≡ record { values = []; end = q } → IsPut line p h₀ h k q
  unfolding put_numbers
  put_all e =
      record {
        long = sym (c.count ∙ rw e (omega arith));
        last = sym (c.end ∙ rw e);
        puts = sym (c.bytes ∙ rw e);
      }

  pub put-none : number_at line (skip_spaces line q) ≡ None → IsPut line p h₀ h k q
  put-none e = put_all (none_more ((64 - k) / 4) line q e)

  pub put_full : 64 < k + 4 → IsPut line p h₀ h k q
  unfolding numbers_at
  put_full l = let z : (64 - k) / 4 ≡ 0 = omega arith in put_all (rw z)

  put_next : (v e : ℕ) → k + 4 ≤ 64 → number_at line (skip_spaces line q) ≡ Some (v, e) → Putting line p h₀ (put_number k v h) (k + 4) e
  unfolding put_numbers
  put_next v e l w =
      let z : (64 - k) / 4 ≡ suc ((64 - (k + 4)) / 4) = omega arith in
      let y = ap (λ (m : ℕ). numbers_at m line q) z ∙ one_more ((64 - (k + 4)) / 4) line q v e w in
      record {
        high = l;
        bytes = c.bytes ∙ rw y;
        count = c.count ∙ rw y (omega arith);
        end = c.end ∙ rw y;
      }

  pub put_step : (v e j : ℕ) (h' : List ℕ) → j ≡ k + 4 → h' ≡ put_number k v h → k + 4 ≤ 64 → number_at line (skip_spaces line q) ≡ Some (v, e)
      → Putting line p h₀ h' j e
  put_step v e j h' y x l w = rw (x, y) (put_next v e l w)

pub head-put : (kind : ℕ) (ns : Numbers) (f : Record) (h h₁ h₂ : List ℕ) → f ≡ record_of ns → h₁ ≡ put_numbers 4 ns.values h
    → h₂ ≡ put_number 0 (f.length + 65536 * kind) h₁ → h₂ ≡ put_record kind ns.values h
head-put kind ns f h h₁ h₂ a b e = e ∙ rw (a, b)

-- ---- calls: m is the name that is found, f and h' are what its record gives

module _ (line : List ℕ) (p : ℕ) (h : List ℕ) (m : Named) (w : m ≡ named line p) (f : Record) (h' : List ℕ) (g : Bool)
    (x : f ≡ record_of (numbers_at 15 line m.end)) (y : h' ≡ put_record m.kind (numbers_at 15 line m.end).values h) (j : g ≡ end_at line f.end) where
  pub call-whole : g ≡ true → (Some f ≡ call_at line p) × (h' ≡ call_bytes line p h)
  unfolding call_of
  call-whole z =
      let t : end_at line (numbers_at 15 line m.end).end ≡ true = sym (sym z ∙ rw x at j) in
      rw (← w) (rw (t, x) refl, y)

  pub call-goes-on : g ≡ false → (None ≡ call_at line p) × (h' ≡ call_bytes line p h)
  unfolding call_of
  call-goes-on z =
      let t : end_at line (numbers_at 15 line m.end).end ≡ false = sym (sym z ∙ rw x at j) in
      rw (← w) (rw t refl, y)

-- ---- items

module _ (line : List ℕ) (p s : ℕ) (h : List ℕ) (w : s ≡ skip_from 59 line p) where
  pub item-end : length line ≤ s → (Ok None ≡ item_at line p) × (h ≡ item_bytes line p h)
  unfolding item_at item_bytes
  item-end l = rw (← w, le-leb (length line) s l) (refl, refl)

  module _ (l : s < length line) where
    pub item-none : number_at line s ≡ None → (malformed ≡ item_at line p) × (h ≡ item_bytes line p h)
    unfolding item_at item_bytes
    item-none e = rw (← w, lt-leb (length line) s l, e) (refl, refl)

    module _ (k e : ℕ) (n : number_at line s ≡ Some (k, e)) where
      pub item-large : 65535 < k → (malformed ≡ item_at line p) × (h ≡ item_bytes line p h)
      unfolding item_at item_bytes
      item-large t = rw (← w, lt-leb (length line) s l, n, lt-ltb 65535 k t) (refl, refl)

      module _ (t : k ≤ 65535) where
        item-bytes : item_bytes line p h ≡ put_record k (numbers_at 15 line e).values h
        unfolding item_bytes
        item-bytes = rw (← w, lt-leb (length line) s l, n, le-ltb 65535 k t)

        item-ends : (g : Bool) → g ≡ gap_at line (numbers_at 15 line e).end
            → item_at line p ≡ cond g (Ok (Some (record_of (numbers_at 15 line e)))) malformed
        unfolding item_at
        item-ends g j = rw (← w, lt-leb (length line) s l, n, le-ltb 65535 k t, j)

        -- f and h' are what the record gives
        module _ (f : Record) (h' : List ℕ) (g : Bool) (x : f ≡ record_of (numbers_at 15 line e))
            (y : h' ≡ put_record k (numbers_at 15 line e).values h) (j : g ≡ gap_at line f.end) where
          pub item-whole : g ≡ true → (Ok (Some f) ≡ item_at line p) × (h' ≡ item_bytes line p h)
          item-whole z = (rw x (sym (item-ends true (sym z ∙ rw x at j))), y ∙ sym item-bytes)

          pub item-goes-on : g ≡ false → (malformed ≡ item_at line p) × (h' ≡ item_bytes line p h)
          item-goes-on z = (sym (item-ends false (sym z ∙ rw x at j)), y ∙ sym item-bytes)

-- ---- as the code has them

pub stands : (line : List ℕ) (q s : ℕ) {r n : Option (ℕ × ℕ)} → s ≡ skip_spaces line q → r ≡ number_at line s → r ≡ n
    → number_at line (skip_spaces line q) ≡ n
stands line q s a b e = ap (number_at line) (sym a) ∙ sym b ∙ e

pub put-told : {line : List ℕ} {p : ℕ} {h₀ h : List ℕ} {k q : ℕ} → IsPut line p h₀ h k q → (n : ℕ) → n ≡ k → n ≤ 64
    → (◌≡◌ {A = Record} (record { length = n; end = q }) (record_of (numbers_at 15 line p))) × (n ≤ 64) × (h ≡ put_numbers 4 (numbers_at 15 line p).values h₀)
put-told w n e l = (rw (e, w.long, w.last), l, w.puts)

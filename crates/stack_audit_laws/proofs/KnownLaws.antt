-- Bytes of a block in two words: the primary bytes climb by 4, and the secondary bytes are those of a third. Assumes nothing.
use mathlib.Core.Path.{◌≡◌, sym, ap, ◌∙◌}
use mathlib.Core.Bool.{Bool, true, false, cond, ◌&&◌, ◌||◌}
use Prim.Native.Nat.{ℕ, ◌+◌, ◌-◌, ◌*◌, ◌/◌, ◌%◌, ◌^◌, ◌≤◌, ◌<◌, min, max}
use native.Mathlib.Omega.{arith}
use native.Mathlib.Nat.{zero-add, lt_of_le_of_lt, mod-lt}
use lib.Dec.{ltb, eqb, lit<}
use lib.Bits.{bit_and, bit_or, and_le_l, and_mask, or_step, or_zero_r}
use borrow.Author.Tests.{eq-eqb, ne_eqb, eqb-true, le-leb, lt-leb, lt-ltb, le-ltb}
use Rattle.number.specs.Little.{byte_of, word}
use Rattle.number.specs.Parts.{run_of}
use Rattle.number.proofs.TestLaws.{and-true, same_test}
use Rattle.number.proofs.BitLaws.{bit_test}
use Rattle.number.proofs.RunLaws.{run-at, run-same, run-all}
use Rattle.number.proofs.LittleLaws.{byte_of-lt, byte_of-zero, word_of, word_same}
use Rattle.number.proofs.WordLaws.{AllBytes, word_split, word_bytes, word-inj, word_and, byte_of-word, byte_of-or}
use Rattle.stack_layout.specs.Code.{short_code, piece_of, code_of, piece_byte, low_bits, primary_of, secondary_of}
use Rattle.stack_audit_laws.specs.Turn.{stands}
use Rattle.stack_audit_laws.specs.Runs.{first_byte, climbs, stands_in}

-- ---- bytes that climb

climb : (first : ℕ) → ℕ → ℕ
climb first j = min (first + 4 * j) 255

climb-lt : (first : ℕ) → AllBytes (climb first)
unfolding climb
climb-lt first j = omega arith

climb-word : (first : ℕ) → first ≤ 227 → word (climb first) 0 8 ≡ 2024390091656922112 + 72340172838076673 * first
unfolding climb word
climb-word first h =
    let e : word (climb first) 0 8 ≡ word (λ j. first + 4 * j) 0 8 = word_same (climb first) (λ j. first + 4 * j) 0 0 8 (λ j k. omega arith) in
    e ∙ omega arith

mark-byte : (x j : ℕ) → x < 256 ^ 8 → j < 8 → byte_of (bit_and x 72340172838076673) j ≡ byte_of x j % 2
unfolding word
mark-byte x j h k =
    let m : bit_and x 72340172838076673 ≡ word (λ i. bit_and (byte_of x i) 1) 0 8 =
    ap (λ (y : ℕ). bit_and y 72340172838076673) (sym (word_bytes 8 x h)) ∙ word_and (byte_of x) 1 (byte_of-lt x) (lit< tt) 8 0 0 0 in
    ap (λ (y : ℕ). byte_of y j) m
    ∙ byte_of-word (λ i. bit_and (byte_of x i) 1) (λ i. lt_of_le_of_lt (and_le_l (byte_of x i) 1) (byte_of-lt x i)) 8 0 j k
    ∙ rw (zero-add j) (and_mask (byte_of x j) 1)

module _ (x y n first pair : ℕ) (h : x < 256 ^ 8) (l : n ≤ 8) (c : first ≤ 227) where
  -- the bytes expected, with the written bits that x has
  abbrev bytes : ℕ
  bytes = bit_or (2024390091656922112 + 72340172838076673 * first) (bit_and x 72340172838076673)

  known-byte : (j : ℕ) → j < n → byte_of bytes j ≡ bit_or (first + 4 * j) (byte_of x j % 2)
  unfolding climb
  known-byte j k =
      let e : byte_of (2024390091656922112 + 72340172838076673 * first) j ≡ first + 4 * j =
      ap (λ (z : ℕ). byte_of z j) (sym (climb-word first c)) ∙ byte_of-word (climb first) (climb-lt first) 8 0 j (omega arith) ∙ omega arith in
      byte_of-or (2024390091656922112 + 72340172838076673 * first) (bit_and x 72340172838076673) j ∙ rw (e, mark-byte x j h (omega arith))

  -- two equal words and two more are bytes that climb
  pub held : (eqb (word (byte_of x) 0 n) (word (byte_of bytes) 0 n) && eqb (word (byte_of y) 0 n) (word (byte_of pair) 0 n))
      ≡ eqb (run_of (climbs x y first pair) 0 n) n
  unfolding climbs
  held =
      same_test (eqb (word (byte_of x) 0 n) (word (byte_of bytes) 0 n) && eqb (word (byte_of y) 0 n) (word (byte_of pair) 0 n)) (eqb (run_of (climbs x y first pair) 0 n) n) there back
    where
      there : (eqb (word (byte_of x) 0 n) (word (byte_of bytes) 0 n) && eqb (word (byte_of y) 0 n) (word (byte_of pair) 0 n)) ≡ true
          → eqb (run_of (climbs x y first pair) 0 n) n ≡ true
      there e = eq-eqb _ _ (run-all (climbs x y first pair) 0 n each)
        where
          each : (j : ℕ) → j < n → climbs x y first pair (0 + j) ≡ true
          each j k =
              let t = and-true (eqb (word (byte_of x) 0 n) (word (byte_of bytes) 0 n)) (eqb (word (byte_of y) 0 n) (word (byte_of pair) 0 n)) e in
              let a : byte_of x j ≡ byte_of bytes j = rw (zero-add j) at (word-inj (byte_of x) (byte_of bytes) (byte_of-lt _) (byte_of-lt _) n 0 0 j (eqb-true _ _ t.0) k) in
              let b : byte_of y j ≡ byte_of pair j = rw (zero-add j) at (word-inj (byte_of y) (byte_of pair) (byte_of-lt y) (byte_of-lt pair) n 0 0 j (eqb-true _ _ t.1) k) in
              rw (zero-add j, eq-eqb (byte_of y j) (byte_of pair j) b, eq-eqb (byte_of x j) (bit_or (first + 4 * j) (byte_of x j % 2)) (a ∙ known-byte j k))

      back : eqb (run_of (climbs x y first pair) 0 n) n ≡ true
          → (eqb (word (byte_of x) 0 n) (word (byte_of bytes) 0 n) && eqb (word (byte_of y) 0 n) (word (byte_of pair) 0 n)) ≡ true
      back e = rw (eq-eqb _ _ (word_same (byte_of x) (byte_of bytes) 0 0 n left), eq-eqb _ _ (word_same (byte_of y) (byte_of pair) 0 0 n right))
        where
          each : (j : ℕ) → j < n → (byte_of x j ≡ bit_or (first + 4 * j) (byte_of x j % 2)) × (byte_of y j ≡ byte_of pair j)
          each j k =
              let s : climbs x y first pair j ≡ true = rw (zero-add j) at (run-at (climbs x y first pair) 0 n j (omega (arith, eqb-true (run_of (climbs x y first pair) 0 n) n e))) in
              let t = and-true (eqb (byte_of x j) (bit_or (first + 4 * j) (byte_of x j % 2))) (eqb (byte_of y j) (byte_of pair j)) s in
              (eqb-true (byte_of x j) (bit_or (first + 4 * j) (byte_of x j % 2)) t.0, eqb-true (byte_of y j) (byte_of pair j) t.1)

          left : (j : ℕ) → j < n → byte_of x (0 + j) ≡ byte_of bytes (0 + j)
          left j k = rw (zero-add j) ((each j k).0 ∙ sym (known-byte j k))

          right : (j : ℕ) → j < n → byte_of y (0 + j) ≡ byte_of pair (0 + j)
          right j k = rw (zero-add j) (each j k).1

-- ---- the secondary bytes of a piece are its two numbers

piece_bytes : (L o : ℕ) → AllBytes (piece_byte L o)
unfolding piece_byte
piece_bytes L o j = go (ltb j 4) (ltb j 8)
  where
    go : (s t : Bool) → cond s (byte_of L j) (cond t (byte_of o (j - 4)) 0) < 256
    go true t = byte_of-lt L j
    go false true = byte_of-lt o (j - 4)
    go false false = lit< tt

piece-word : (L o : ℕ) → L < 256 ^ 4 → o < 256 ^ 4 → word (piece_byte L o) 0 8 ≡ L + 4294967296 * o
unfolding piece_byte
piece-word L o h k =
    let a : word (piece_byte L o) 0 4 ≡ L = word_of (piece_byte L o) 4 0 L (λ i x. rw (zero-add i, lt-ltb i 4 x)) h in
    let b : word (piece_byte L o) 4 4 ≡ o =
    word_of (piece_byte L o) 4 4 o (λ i x. let e : 4 + i - 4 ≡ i = omega arith in rw (le-ltb (4 + i) 4 (omega arith), lt-ltb (4 + i) 8 (omega arith), e)) k in
    omega (arith, word_split (piece_byte L o) 0 4 4, a, b)

-- ---- the bytes of a block from its byte i on

-- a written bit besides
or-mark : (e m : ℕ) → m < 2 → bit_or e m ≡ e / 2 * 2 + max (e % 2) m
or-mark e m h = let z : m / 2 ≡ 0 = omega arith in or_step e m ∙ rw z (omega (arith, or_zero_r (e / 2)))

-- the byte expected j codes above this one: in a literal its written bit is set already
known-mark : (b code j : ℕ) (t : Bool) → bit_or (first_byte code t + 4 * j) (b % 2) ≡ 4 * (code + j) + low_bits t (t || eqb (b % 2) 1)
unfolding low_bits
known-mark b code j true = or-mark (4 * code + 3 + 4 * j) (b % 2) (mod-lt b (lit< tt)) ∙ omega arith
known-mark b code j false =
    or-mark (4 * code + 4 * j) (b % 2) (mod-lt b (lit< tt)) ∙ rw (bit_test (b % 2) (mod-lt b (lit< tt))) (omega arith)

module _ (x y L i n code pair : ℕ) (t : Bool) (g : i < L) where
  climbs-stands : ((j : ℕ) → j < n → (code_of L (i + j) ≡ code + j) × (secondary_of L (i + j) ≡ byte_of pair j))
      → run_of (climbs x y (first_byte code t) pair) 0 n ≡ run_of (stands_in x y L i t) 0 n
  unfolding climbs stands_in stands primary_of
  climbs-stands h =
      run-same (climbs x y (first_byte code t) pair) (stands_in x y L i t) 0 0 n
      (λ j k. rw (zero-add j, ne_eqb L 0 (λ z. omega arith), (h j k).0, (h j k).1, known-mark (byte_of x j) code j t))

module _ (x y L i : ℕ) (t : Bool) (g : i < L) (r : i % 8 ≡ 0) where
  -- a whole short block
  pub short-run : (b : ℕ) → L ≤ 8 → b ≡ L * (L - 1) / 2 → run_of (climbs x y (first_byte (b + 1) t) 0) 0 (L - i) ≡ run_of (stands_in x y L i t) 0 (L - i)
  unfolding code_of secondary_of short_code
  short-run b h e =
      let z : i ≡ 0 = omega arith in
      climbs-stands x y L i (L - i) (b + 1) 0 t g (λ j k. (rw (le-leb L 8 h, ← e, z) (omega arith), rw (le-leb L 8 h) (sym (byte_of-zero j))))

  -- what is left after the first eight bytes of the last piece
  pub tail-run : 8 < L → L - i < 8 → run_of (climbs x y (first_byte 56 t) 0) 0 (L - i) ≡ run_of (stands_in x y L i t) 0 (L - i)
  unfolding code_of secondary_of piece_of piece_byte
  tail-run h f = climbs-stands x y L i (L - i) 56 0 t g here
    where
      here : (j : ℕ) → j < L - i → (code_of L (i + j) ≡ 56 + j) × (secondary_of L (i + j) ≡ byte_of 0 j)
      here j k =
          let o : 8 * min ((i + j) / 8) (L / 8 - 1) ≡ i - 8 = omega arith in
          let d : i + j - (i - 8) ≡ 8 + j = omega arith in (
            rw (lt-leb L 8 h, o, d) (omega arith),
            rw (lt-leb L 8 h, o, d, le-ltb (8 + j) 4 (omega arith), le-ltb (8 + j) 8 (omega arith)) (sym (byte_of-zero j)),
          )

  -- the first eight bytes of a piece
  pub piece-run : 8 < L → L < 256 ^ 4 → 8 ≤ L - i → run_of (climbs x y (first_byte 48 t) (L + 4294967296 * i)) 0 8 ≡ run_of (stands_in x y L i t) 0 8
  unfolding code_of secondary_of piece_of
  piece-run h l f = climbs-stands x y L i 8 48 (L + 4294967296 * i) t g here
    where
      here : (j : ℕ) → j < 8 → (code_of L (i + j) ≡ 48 + j) × (secondary_of L (i + j) ≡ byte_of (L + 4294967296 * i) j)
      here j k =
          let o : 8 * min ((i + j) / 8) (L / 8 - 1) ≡ i = omega arith in
          let d : i + j - i ≡ j = omega arith in
          let s : piece_byte L i j ≡ byte_of (L + 4294967296 * i) j =
          sym (ap (λ (z : ℕ). byte_of z j) (sym (piece-word L i l (omega arith))) ∙ byte_of-word (piece_byte L i) (piece_bytes L i) 8 0 j k ∙ ap (piece_byte L i) (zero-add j)) in
          (rw (lt-leb L 8 h, o, d), rw (lt-leb L 8 h, o, d) s)

-- The reading of the image of a placed list is the list's own. Assumes nothing.
use mathlib.Core.Path.{◌≡◌, refl, sym, ap, ◌∙◌, subst}
use mathlib.Core.Bool.{Bool, false, cond}
use mathlib.Core.List.{List}
use mathlib.Core.Option.{Option, none, some}
use Prim.Native.Nat.{ℕ, suc, ◌+◌, ◌*◌, ◌-◌, ◌/◌, ◌%◌, ◌≤◌, ◌<◌}
use native.Mathlib.Omega.{arith}
use native.Mathlib.Nat.{div-add-mod', mod-lt, mul-mod_left}
use lib.ListN.{get_or, take, drop}
use lib.Seq.{get_or-take, get_or-drop}
use lib.Dec.{leb}
use borrow.Author.Tests.{le-leb, lt-leb}
use Rattle.number.specs.Little.{word}
use Rattle.number.specs.Bits.{bit}
use Rattle.number.proofs.TestLaws.{Where, below, inside, above, locate, in-true, in-below, in-above}
use Rattle.plain.specs.Block.{Block, len, contains, is_written}
use Rattle.plain.specs.Blocks.{find, Has}
use Rattle.plain.specs.Rules.{Rules, Placed, Sound}
use Rattle.plain.specs.Areas.{segments, heap_rules}
use Rattle.plain.specs.Reading.{nothing, block, says, lookup}
use Rattle.plain.proofs.KeptLaws.{has-proper}
use Rattle.plain.proofs.AreaLaws.{heap-plain, heap-sound}
use Rattle.plain.proofs.FindLaws.{keep_if}
use Rattle.plain.proofs.ListLaws.{find-has}
use Rattle.plain.proofs.LayerLaws.{own_of, listed, find-cover, layer-find, layer-has}
use Rattle.heap_layout.specs.Image.{Cell, free, header, segment, covers, own, heap_byte}
use Rattle.heap_layout.specs.Reading.{written_bit, heap_reading}
use Rattle.heap_layout.proofs.SegmentLaws.{Sizes, some-segment, Stands, listed-stands, heap-foot, covers-in, covers-true, covers-holds, segments-lt}
use Rattle.heap_layout.proofs.ReadingLaws.{read_none, read_some}
use Rattle.heap_layout.proofs.CellLaws.{Part, at-header, at-segment, part, own-header, own-segment, Shows, image-shows, free-number, header-number, header-length, segment-number, segment-bit}

module _ {W G size : ℕ} (z : Sizes W G size) where
  g : 0 < G
  g = some-segment z

  abbrev R : Rules
  R = heap_rules G 0 size

  S : Sound R
  S = heap-sound G g 0 size

  module _ (bs : List Block) (P : Placed R 0 bs) where
    abbrev f : ℕ → ℕ
    f = heap_byte W G bs

    pub has-stands : {b : Block} → Has b bs → Stands G size b.base (len b)
    has-stands {b} h = listed-stands g size b 0 (listed R S 0 P h)

    -- a segment that a listed block covers shows what the block makes of it
    module _ {b : Block} (h : Has b bs) (t : Stands G size b.base (len b)) where
      own-shows : (s : ℕ) → t.head ≤ s → s < t.head + suc (segments G (len b)) → Shows W G (heap_byte W G bs) s (own G b s)
      own-shows s x y =
          subst (λ (c : Cell). Shows W G (heap_byte W G bs) s c)
          (layer-has R S (covers G) (λ s. s * G) (heap-foot g size) s (own G) free 0 P h
          (covers-in g size b t s ∙ in-true t.head (t.head + suc (segments G (len b))) s x y))
          (image-shows W G bs s)

      pub header-shows : Shows W G (heap_byte W G bs) t.head (header (len b))
      header-shows =
          subst (λ (c : Cell). Shows W G (heap_byte W G bs) t.head c) (own-header g size b t) (own-shows t.head (omega arith) (omega arith))

      pub segment-shows : (s j : ℕ) → s ≡ suc t.head + j → j < segments G (len b)
          → Shows W G (heap_byte W G bs) s (segment (j * G) (take G (drop (j * G) b.marks)))
      segment-shows s j e k =
          subst (λ (c : Cell). Shows W G (heap_byte W G bs) s c) (ap (own G b) e ∙ own-segment g size b t j) (own-shows s (omega arith) (omega arith))

    module _ (p : ℕ) where
      -- the block that holds p covers the segment of p
      look : find (contains p) bs ≡ keep_if (contains p) (find (λ c. covers G c (p / G)) bs)
      look =
          find-cover R S (covers G) (λ s. s * G) (heap-foot g size) (p / G) bs 0 (contains p) P
          (λ c l e. covers-holds g size c (listed-stands g size c 0 l) p e)

      at-free : find (λ c. covers G c (p / G)) bs ≡ none → heap_reading W G size (heap_byte W G bs) p ≡ lookup bs p
      at-free e =
          read_none W G size f p (free-number z f (p / G)
          (subst (λ (x : Cell). Shows W G f (p / G) x)
          (layer-find R S (covers G) (λ s. s * G) (heap-foot g size) (p / G) (own G) free bs ∙ ap (own_of (own G) free (p / G)) e)
          (image-shows W G bs (p / G))))
          ∙ sym (ap (says p) (look ∙ ap (keep_if (contains p)) e))

      module _ (b : Block) (h : Has b bs) (t : Stands G size b.base (len b)) where
        at_block : Part t.head (segments G (len b)) (p / G) → heap_reading W G size (heap_byte W G bs) p ≡ says p (keep_if (contains p) (some b))
        at_block (at-header e) =
            rw (in-below b.base (b.base + len b) p (omega (arith, div-add-mod' p G, mod-lt p g, ap (λ (x : ℕ). x * G) e)))
            (read_none W G size f p (ap (λ (x : ℕ). word f (x * G) W) e ∙ header-number z f t.head (len b) (header-shows h t)))
        at_block (at-segment j e k) =
            read_some W G size f p (j * G) b.base (len b)
            (segment-number z f (p / G) (j * G) ms (omega (arith, lt)) shows)
            at_base
            (ap (λ (x : ℕ). word f x W) at-header-length ∙ header-length z f t.head (len b) (omega arith) (header-shows h t))
            (mul-mod_left j G) (omega arith) t.some t.fits lt
            ∙ told (locate b.base (b.base + len b) p)
          where
            ms : List Bool
            ms = take G (drop (j * G) b.marks)

            lt : j * G < len b
            lt = segments-lt g (len b) j k

            at_base : p / G * G ≡ b.base + j * G
            at_base = omega (arith, ap (λ (x : ℕ). x * G) e)

            off : p - b.base ≡ j * G + p % G
            off = omega (arith, at_base, div-add-mod' p G)

            at-header-length : b.base - G + W ≡ t.head * G + W
            at-header-length = omega arith

            shows : Shows W G f (p / G) (segment (j * G) ms)
            shows = segment-shows h t (p / G) j e k

            written : written_bit W G f p ≡ bit (is_written b p)
            written =
                subst (λ (x : ℕ). written_bit W G f x ≡ bit (get_or ms (p % G) false)) (div-add-mod' p G)
                (segment-bit z f (p / G) (j * G) ms (p % G) (mod-lt p g) shows)
                ∙ ap bit (
                get_or-take G (drop (j * G) b.marks) (p % G) false (mod-lt p g) ∙ get_or-drop (j * G) b.marks (p % G) false
                ∙ ap (λ (x : ℕ). get_or b.marks x false) (sym off)
                )

            told : Where b.base (b.base + len b) p
                → cond (leb (len b) (p - b.base)) nothing (block b.base (len b) (p - b.base) (written_bit W G f p) false) ≡ says p (keep_if (contains p) (some b))
            told (below x) = absurd (omega (arith, at_base, div-add-mod' p G))
            told (inside x y) = rw (lt-leb (len b) (p - b.base) (omega arith), in-true b.base (b.base + len b) p x y, written, heap-plain G 0 size b (has-proper R 0 P h))
            told (above x y) = rw (le-leb (len b) (p - b.base) (omega arith), in-above b.base (b.base + len b) p x)

    -- the reading of an image is the list's own
    pub read-image : (p : ℕ) → heap_reading W G size (heap_byte W G bs) p ≡ lookup bs p
    read-image p = go (find (λ c. covers G c (p / G)) bs) refl
      where
        go : (o : Option Block) → find (λ c. covers G c (p / G)) bs ≡ o → heap_reading W G size (heap_byte W G bs) p ≡ lookup bs p
        go none e = at-free p e
        go (some b) e =
            let (h, c) = find-has (λ c. covers G c (p / G)) bs b e in
            let t = has-stands h in
            let u = covers-true g size b t (p / G) c in
            at_block p b h t (part t.head (segments G (len b)) (p / G) u.0 u.1)
            ∙ sym (ap (says p) (look p ∙ ap (keep_if (contains p)) e))

-- Two programs that do the same with every record: a turn of one is a turn of the other, and a file prints the same. Assumes nothing.
use mathlib.Core.Path.{◌≡◌, refl, ap, ◌∙◌}
use mathlib.Core.List.{List}
use mathlib.Core.Option.{Option, none, some}
use Prim.Native.Nat.{ℕ, zero, suc}
use lib.ListN.{length, drop}
use lib.Dec.{eqb}
use Rattle.number.proofs.TestLaws.{Test, is_true, is_false, test}
use Rattle.calls_format.specs.Program.{Program, request_line}
use Rattle.calls_window.specs.Window.{content}
use Rattle.calls_output.proofs.PendingLaws.{text-as}
use Rattle.calls_run.specs.declared.Run.{Run}
use Rattle.calls_file.specs.Turn.{Point, Does, Turned}
use Rattle.calls_file.specs.File.{printed_first, printed, printed_file}

-- `to`: a state of P, as Q has it
module _ (P Q : Program) (to : P.State → Q.State) where
  -- both decode a record, to requests that do the same, or neither does
  abbrev pub Same : Option P.Request → Option Q.Request → Type 0
  Same none none = Unit {0}
  Same none (some q) = ⊥
  Same (some r) none = ⊥
  Same (some r) (some q) =
      (P.size r ≡ Q.size q)
      × ((s : P.State) → (to (P.serve r s).0 ≡ (Q.serve q (to s)).0) × (request_line P r s ≡ request_line Q q (to s)))

  pub record Alike : Type 0 where
    pub first : to P.first ≡ Q.first
    pub each : (l : List ℕ) → Same (P.decode l) (Q.decode l)

-- where a run stands, by its parts
abbrev point : (P : Program) → Run → P.State → (bytes lines : List ℕ) → Point P
point P r s b l = record { run = r; state = s; bytes = b; lines = l }

module _ {P Q : Program} {to : P.State → Q.State} (A : Alike P Q to) where
  -- ---- a turn

  abbrev moved : Point P → Point Q
  moved p = point Q p.run (to p.state) p.bytes p.lines

  does-alike : (a b : Point P) (l : List ℕ) (o : Option P.Request) (o' : Option Q.Request) → Same P Q to o o'
      → Does a b l o → Does (moved a) (moved b) l o'
  does-alike a b l none none S d = (d.0, ap to d.1, d.2)
  does-alike a b l none (some q) S d = absurd S
  does-alike a b l (some r) none S d = absurd S
  does-alike a b l (some r) (some q) S d =
      let h = S.1 a.state in
      (d.0, ap to d.1 ∙ h.0, d.2 ∙ ap (λ (n : ℕ). drop n l) S.0, text-as _ _ h.1 d.3)

  pub turned-alike : {r r' : Run} {s s' : P.State} {b b' l l' : List ℕ}
      → Turned (point P r s b l) (point P r' s' b' l') → Turned (point Q r (to s) b l) (point Q r' (to s') b' l')
  turned-alike {r} {r'} {s} {s'} {b} {b'} {l} {l'} t =
      let w : List ℕ = content t.window b' in
      record {
        goes = t.goes;
        window = t.window;
        refilled = t.refilled;
        more = t.more;
        ends = λ z. let e = t.ends z in (e.0, ap to e.1, e.2, e.3);
        does = λ n. does-alike (point P r s b l) (point P r' s' b' l') w (P.decode w) (Q.decode w) (A.each w) (t.does n);
      }

  -- ---- a file

  first_alike : (n : ℕ) → ((s : P.State) (l : List ℕ) → printed P n s l ≡ printed Q n (to s) l)
      → (s : P.State) (l : List ℕ) (o : Option P.Request) (o' : Option Q.Request) → Same P Q to o o'
      → printed_first P (printed P n) s l o ≡ printed_first Q (printed Q n) (to s) l o'
  first_alike n ih s l none none S = refl
  first_alike n ih s l none (some q) S = absurd S
  first_alike n ih s l (some r) none S = absurd S
  first_alike n ih s l (some r) (some q) S = rw ((S.1 s).1, S.0, ih (P.serve r s).0 (drop (Q.size q) l), (S.1 s).0)

  printed-alike : (n : ℕ) (s : P.State) (l : List ℕ) → printed P n s l ≡ printed Q n (to s) l
  unfolding printed
  printed-alike zero s l = refl
  printed-alike (suc n) s l = go (test (eqb (length l) 0)) (first_alike n (printed-alike n) s l (P.decode l) (Q.decode l) (A.each l))
    where
      go : Test (eqb (length l) 0) → printed_first P (printed P n) s l (P.decode l) ≡ printed_first Q (printed Q n) (to s) l (Q.decode l)
          → printed P (suc n) s l ≡ printed Q (suc n) (to s) l
      go (is_true t) e = rw t
      go (is_false t) e = rw t e

  pub file-alike : (l : List ℕ) → printed_file P l ≡ printed_file Q l
  file-alike l = printed-alike (length l) P.first l ∙ ap (λ (s : Q.State). printed Q (length l) s l) A.first

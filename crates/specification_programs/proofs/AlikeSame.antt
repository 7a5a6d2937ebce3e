-- A program whose kinds, calls and answers are a form's is alike to the form's own program. Assumes nothing.
use mathlib.Core.Path.{◌≡◌, refl, sym, ap, ◌∙◌}
use mathlib.Core.Bool.{Bool, true, false, cond, ◌&&◌}
use mathlib.Core.List.{List, [], ◌∷◌, ◌++◌}
use mathlib.Core.Logic.{◌≢◌}
use mathlib.Core.Option.{Option, none, some}
use Prim.Native.Nat.{ℕ, zero, suc, ◌≤◌}
use native.Mathlib.Omega.{arith}
use lib.ListN.{length, drop}
use lib.Dec.{leb, eqb}
use borrow.Author.Tests.{ne_eqb, eqb-true, eqb-false}
use Rattle.number.specs.Parts.{Each}
use Rattle.number.proofs.TestLaws.{Test, is_true, is_false, test, and-true}
use Rattle.types.specs.Call.{Answer}
use Rattle.calls_format.specs.Decoded.{longest}
use Rattle.calls_format.specs.Lines as lines
use Rattle.calls_format.specs.Lines.{answer_fields}
use Rattle.calls_format.specs.Program.{Program, Whole, undecodable}
use Rattle.calls_format.proofs.RecordLaws.{word-front}
use Rattle.calls_file.specs.File as file
use Rattle.calls_file.specs.File.{printed_first}
use Rattle.calls_file.proofs.AlikeLaws.{Alike, Same}
use Rattle.specification_programs.specs.Records.{length_in, kind_in, field_in, Asks, Kind, find, whole, first_kind}
use Rattle.specification_programs.specs.Lines.{last_digits, line_of, nine}
use Rattle.specification_programs.specs.Programs.{Form, State, no_map, served, first, printed}
use Rattle.specification_programs.specs.Program.{request, program_of}
use Rattle.specification_programs.specs.Same.{OutputOf}
use Rattle.specification_programs.proofs.LineSame.{line_same}

-- ---- the kind of a number

-- what is so of each kind of a table is so of the one that is found, whose number it is; where none is, the number is none of them
abbrev Found : {C : Type 0} → (Kind C → Type 0) → List (Kind C) → (n : ℕ) → Option (Kind C) → Type 0
Found P ks n none = Each (λ k. n ≢ k.number) ks
Found P ks n (some k) = P k × (n ≡ k.number)

further : {C : Type 0} (P : Kind C → Type 0) (k : Kind C) (ks : List (Kind C)) (n : ℕ) (o : Option (Kind C)) → n ≢ k.number → Found P ks n o → Found P (k ∷ ks) n o
further P k ks n none h f = (h, f)
further P k ks n (some j) h f = f

found : {C : Type 0} (P : Kind C → Type 0) (ks : List (Kind C)) → Each P ks → (n : ℕ) → Found P ks n (find n ks)
unfolding find
found P [] e n = tt
found P (k ∷ ks) (p, e) n = go (test (eqb n k.number)) (found P ks e n)
  where
    go : Test (eqb n k.number) → Found P ks n (find n ks) → Found P (k ∷ ks) n (find n (k ∷ ks))
    go (is_true t) f = rw t (p, eqb-true n k.number t)
    go (is_false t) f = rw t (further P k ks n (find n ks) (eqb-false n k.number t) f)

-- ---- a file

nine-same : undecodable ≡ nine
unfolding last_digits line_of
nine-same = refl

module _ (F : Form) where
  first_of : (n : ℕ) → ((s : State F) (l : List ℕ) → file.printed (program_of F) n s l ≡ printed F n s l) → (s : State F) (l : List ℕ) (o : Option (Kind F.Calls))
      → printed_first (program_of F) (file.printed (program_of F) n) s l (request l o) ≡ first F (printed F n) s l o
  first_of n ih s l none = nine-same
  first_of n ih s l (some k) = rw (ih (served F (k.asks (field_in l)) s).0 (drop k.length l))

  printed-of : (n : ℕ) (s : State F) (l : List ℕ) → file.printed (program_of F) n s l ≡ printed F n s l
  unfolding printed file.printed
  printed-of zero s l = refl
  printed-of (suc n) s [] = refl
  printed-of (suc n) s (b ∷ l) = rw (ne_eqb (length (b ∷ l)) 0 (omega arith)) (first_of n (printed-of n) s (b ∷ l) (first_kind F.kinds (b ∷ l)))

pub output-of : OutputOf
output-of F l = printed-of F (length l) (no_map, F.first) l

-- ---- a program: what it is asked for, and its state, as the form has them

-- the bytes have a whole record of this kind, whose number they have
abbrev pub is_there : {C : Type 0} → Kind C → List ℕ → Bool
is_there k l = eqb (length_in l) k.length && leb k.length (length l)

module _ (F : Form) (P : Program) (asked : Asks F.Calls → P.Request) (to : P.State → State F) where
  -- bytes that begin with a kind of this number decode to what the kind asks for, or not at all
  pub record Known (k : Kind F.Calls) : Type 0 where
    pub decodes : (l : List ℕ) → kind_in l ≡ k.number → P.decode l ≡ cond (is_there k l) (some (asked (k.asks (field_in l)))) none
    pub told : answer_fields k.number ≡ k.answers

  pub record Has : Type 0 where
    pub kinds : Each Known F.kinds
    pub others : (l : List ℕ) → Each (λ (k : Kind F.Calls). kind_in l ≢ k.number) F.kinds → P.decode l ≡ none
    -- what is decoded has the length that its record begins with, and is told by the record's kind
    pub heads : (l : List ℕ) (r : P.Request) → P.decode l ≡ some r → (P.size r ≡ length_in l) × ((a : Answer) → P.line r a ≡ lines.line (kind_in l) a)
    pub serves : (a : Asks F.Calls) (s : P.State) → served F a (to s) ≡ (to (P.serve (asked a) s).0, (P.serve (asked a) s).1)
    pub begins : to P.first ≡ (no_map, F.first)

module _ {F : Form} {P : Program} {asked : Asks F.Calls → P.Request} {to : P.State → State F} (H : Has F P asked to) where
  alike-one : (l : List ℕ) (k : Kind F.Calls) → Known F P asked to k → kind_in l ≡ k.number → Test (is_there k l)
      → Same P (program_of F) to (P.decode l) (request l (whole l (some k)))
  alike-one l k K e (is_false t) = rw (K.decodes l e, t) tt
  alike-one l k K e (is_true t) =
      let a : Asks F.Calls = k.asks (field_in l) in
      let d : P.decode l ≡ some (asked a) = K.decodes l e ∙ rw t in
      let h = H.heads l (asked a) d in
      rw (d, t) (
        h.0 ∙ eqb-true (length_in l) k.length (and-true (eqb (length_in l) k.length) (leb k.length (length l)) t).0,
        λ s. (
          rw (H.serves a s),
          rw (H.serves a s, h.1 (P.serve (asked a) s).1, e) (sym (line_same k.number k.answers (P.serve (asked a) s).1 K.told)),
        ),
      )

  pub alike : Alike P (program_of F) to
  alike = record { first = H.begins; each = λ l. go l (find (kind_in l) F.kinds) (found (Known F P asked to) F.kinds H.kinds (kind_in l)) }
    where
      go : (l : List ℕ) (o : Option (Kind F.Calls)) → Found (Known F P asked to) F.kinds (kind_in l) o → Same P (program_of F) to (P.decode l) (request l (whole l o))
      go l none f = rw (H.others l f) tt
      go l (some k) (K, e) = alike-one l k K e (test (is_there k l))

  module _ (W : Whole P) (back : P.Request → Asks F.Calls) (same : (a : Asks F.Calls) → back (asked a) ≡ a) where
    sized : (l : List ℕ) (q : Kind F.Calls × Asks F.Calls) → request l (first_kind F.kinds l) ≡ some q → (1 ≤ q.0.length) × (q.0.length ≤ length l)
    sized l q e = go (P.decode l) refl (rw e at (alike.each l))
      where
        go : (o : Option P.Request) → P.decode l ≡ o → Same P (program_of F) to (P.decode l) (some q) → (1 ≤ q.0.length) × (q.0.length ≤ length l)
        go none d S = absurd (rw d at S)
        go (some r) d S = let z = (rw d at S).0 in (omega (arith, z, W.long l r d), omega (arith, z, W.there l r d))

    -- what is the same request to the program is the same to the form
    front-one : (k : Kind F.Calls) (l m : List ℕ) (t u : Bool)
        → cond t (some (asked (k.asks (field_in l)))) none ≡ cond u (some (asked (k.asks (field_in m)))) none
        → request l (cond t (some k) none) ≡ request m (cond u (some k) none)
    front-one k l m true true e =
        let (x, y) : Asks F.Calls × Asks F.Calls = (k.asks (field_in l), k.asks (field_in m)) in
        let z : asked x ≡ asked y = cc in
        ap (λ (a : Asks F.Calls). some (k, a)) (sym (same x) ∙ ap back z ∙ same y)
    front-one k l m true false e = absurd (let z : ◌≡◌ {A = ℕ} 0 1 = cc in omega arith)
    front-one k l m false true e = absurd (let z : ◌≡◌ {A = ℕ} 0 1 = cc in omega arith)
    front-one k l m false false e = refl

    pub whole_of : Whole (program_of F)
    whole_of = record { long = λ l q e. (sized l q e).0; there = λ l q e. (sized l q e).1; front = front }
      where
        front : (l m : List ℕ) → longest ≤ length l → request (l ++ m) (first_kind F.kinds (l ++ m)) ≡ request l (first_kind F.kinds l)
        front l m h = let n = word-front l m h 2 2 (omega arith) in rw n (go (find (kind_in l) F.kinds) n (found (Known F P asked to) F.kinds H.kinds (kind_in l)))
          where
            go : (o : Option (Kind F.Calls)) → kind_in (l ++ m) ≡ kind_in l → Found (Known F P asked to) F.kinds (kind_in l) o
                → request (l ++ m) (whole (l ++ m) o) ≡ request l (whole l o)
            go none n f = refl
            go (some k) n (K, e) = front-one k (l ++ m) l (is_there k (l ++ m)) (is_there k l) (sym (K.decodes (l ++ m) (n ∙ e)) ∙ W.front l m h ∙ K.decodes l e)

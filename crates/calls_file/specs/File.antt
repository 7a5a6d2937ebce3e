-- What a calls program writes for a whole file, by its turns. Assumes nothing.
use Rattle.std.specs.Prelude.{◌≡◌, true, false, cond, List, [], ◌∷◌, ◌++◌, ℕ, zero, suc, ◌+◌, ◌-◌, length, take, drop, leb, eqb}
use Rattle.std.proofs.Math.Option.{Option, none, some}
use Rattle.calls_format.specs.Program.{Program, undecodable, request_line}
use Rattle.calls_window.specs.Window.{content}
use Rattle.calls_file.specs.Turn.{Point, Turned}

-- ---- what a file prints

module _ (P : Program) where
  -- what the first record of the bytes l prints, and then the bytes after it, in the state after it
  abbrev pub printed_first : (rest : P.State → List ℕ → List ℕ) → P.State → List ℕ → Option P.Request → List ℕ
  printed_first rest s l none = undecodable
  printed_first rest s l (some r) = request_line P r s ++ rest (P.serve r s).0 (drop (P.size r) l)

  -- what the bytes l print, from the state s on, for at most n records
  unfoldable pub printed : (n : ℕ) → P.State → List ℕ → List ℕ
  printed zero s l = []
  printed (suc n) s l = cond (eqb (length l) 0) [] (printed_first (printed n) s l (P.decode l))

  -- a record has a byte at least, so a file has no more records than bytes
  abbrev pub printed_file : List ℕ → List ℕ
  printed_file l = printed (length l) P.first l

-- ---- the turns of a run

-- each turn begins where the one before ended, while the run is on; the input's buffer keeps its 64 KiB
abbrev pub Turns : {P : Program} → Point P → List (Point P) → Type 0
Turns p [] = Unit {0}
Turns p (q ∷ qs) =
    record {
      on : p.run.on ≡ true;
      turned : Turned p q;
      sized : length q.bytes ≡ 65536;
      later : Turns q qs;
    }

-- the bytes that a turn's reads brought
abbrev pub got : {P : Program} (p q : Point P) → Turned p q → List ℕ
got p q t = drop (p.run.window.end - p.run.window.at) (content t.window q.bytes)

abbrev pub came : {P : Program} (p : Point P) (ps : List (Point P)) → Turns p ps → List ℕ
came p [] t = []
came p (q ∷ qs) t = got p q t.turned ++ came q qs t.later

-- all that waits
abbrev pub waits : {P : Program} → Point P → List ℕ
waits p = take p.run.pending.filled p.lines

-- what waited before a turn and waits no more, since a text had no room behind it: it left the buffer; that it is written then is trusted
abbrev pub gone : {P : Program} (p q : Point P) → Turned p q → List ℕ
gone p q t =
    cond (eqb t.window.at t.window.end) [] (cond (leb (p.run.pending.filled + 64) (length p.lines)) [] (waits p))

-- all that is to go to the output: what left the buffer, turn by turn, and what waits after the last
abbrev pub put : {P : Program} (p : Point P) (ps : List (Point P)) → Turns p ps → List ℕ
put p [] t = waits p
put p (q ∷ qs) t = gone p q t.turned ++ put q qs t.later

abbrev pub final : {P : Program} → Point P → List (Point P) → Point P
final p [] = p
final p (q ∷ qs) = final q qs

-- before the first turn: the program's first state, nothing read, and nothing waits
abbrev pub Begins : {P : Program} → Point P → Type 0
Begins {P} p = (p.state ≡ P.first) × (p.run.pending.filled ≡ 0) × (p.run.window.at ≡ p.run.window.end)

-- the run has ended with its output open; `rest` of the input was not read: nothing, where a read has met its end
abbrev pub Stops : {P : Program} → Point P → (rest : List ℕ) → Type 0
Stops p rest = (p.run.on ≡ false) × (p.run.pending.open ≡ true) × (p.run.window.more ≡ false → rest ≡ [])

-- ---- what is proved (proofs/FileLaws.antt)

-- whatever bytes come into the window: all that is to go to the output is what these bytes, and any that were not read, print
abbrev pub WholeFile : Program → Type 0
WholeFile P =
    (p q : Point P) (qs : List (Point P)) (t : Turns p (q ∷ qs)) (rest : List ℕ) → Begins p → Stops (final q qs) rest
    → put p (q ∷ qs) t ≡ printed_file P (came p (q ∷ qs) t ++ rest)

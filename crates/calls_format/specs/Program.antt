-- What a calls program is: the plain one, and any other that reads records and writes a line for each. Assumes nothing.
use Rattle.std.specs.Prelude.{◌≡◌, List, [], ◌∷◌, ◌++◌, ℕ, ◌≤◌, length}
use Rattle.std.proofs.Math.Option.{Option, some}
use Rattle.plain.specs.Call.{Answer}
use Rattle.calls_format.specs.Records as records
use Rattle.calls_format.specs.Decoded.{kind_of, length_of, longest}
use Rattle.calls_format.specs.Lines.{line}
use Rattle.calls_format.specs.Running as running

-- what its records ask for, what it keeps between them, and what it begins with; what the first record of some bytes asks for, none where it is
-- undecodable; the length of a request's record; how a request is served; and the line that tells its answer
pub record Program : Type 1 where
  pub Request : Type 0
  pub State : Type 0
  pub first : State
  pub decode : List ℕ → Option Request
  pub size : Request → ℕ
  pub serve : Request → State → State × Answer
  pub line : Request → Answer → List ℕ

-- `9` and a line end: the line of an undecodable record, after which nothing is read
abbrev pub undecodable : List ℕ
undecodable = 57 ∷ 10 ∷ []

-- what a request prints
abbrev pub request_line : (P : Program) → P.Request → P.State → List ℕ
request_line P r s = P.line r (P.serve r s).1

-- a decoded record has a byte at least and is whole, and where the longest record is there, more bytes decode to the same. Interface of the
-- proofs: no promise rests on it
pub record Whole (P : Program) : Type 0 where
  pub long : (l : List ℕ) (r : P.Request) → P.decode l ≡ some r → 1 ≤ P.size r
  pub there : (l : List ℕ) (r : P.Request) → P.decode l ≡ some r → P.size r ≤ length l
  pub front : (l m : List ℕ) → longest ≤ length l → P.decode (l ++ m) ≡ P.decode l

-- the program of the plain form
abbrev pub plain_program : Program
plain_program =
    record {
      Request = records.Request;
      State = running.State;
      first = running.first_state;
      decode = records.decode;
      size = λ r. length_of (kind_of r);
      serve = running.serve;
      line = λ r. line (kind_of r);
    }

-- What is proved of the programs' output (proofs/Programs.antt). Assumes nothing.
use Rattle.std.specs.Prelude.{◌≡◌, List, ◌++◌, ℕ}
use Rattle.calls_format.specs.Program.{plain_program}
use Rattle.calls_origins_format.specs.Program.{origins_program}
use Rattle.calls_file.specs.Turn.{Point}
use Rattle.calls_file.specs.File.{printed_file, came, put, Stops, WholeFile}
use Rattle.calls_file.specs.Ran.{Ran}
use Rattle.specification_programs.specs.Programs.{Form, output, plain_form, origins_form}
use Rattle.specification_programs.specs.Program.{program_of}

-- for every file, the output is what the library's own definitions print
abbrev pub OutputSame : Type 0
OutputSame = (file : List ℕ) → (output plain_form file ≡ printed_file plain_program file) × (output origins_form file ≡ printed_file origins_program file)

-- and what the form's own program prints, by which the contracts of `turn` and `all` go
abbrev pub OutputOf : Type 1
OutputOf = (F : Form) (file : List ℕ) → printed_file (program_of F) file ≡ output F file

-- whatever bytes come into the window: all that is to go to the output is what these bytes, and any that were not read, print (calls_file, File.antt)
abbrev pub WholeFiles : Type 0
WholeFiles = WholeFile (program_of plain_form) × WholeFile (program_of origins_form)

-- the contract of a program's `all` says that there is a chain of turns from a first state to q (`Ran`). Where the run is off there with its output open,
-- what left the buffer of lines, and what waits, is the output for the bytes that came into the window, and any that were not read. That these came by
-- reads, and went by writes, no contract says
abbrev pub Outputs : Form → Type 0
Outputs F =
    (q : Point (program_of F)) (turns : ℕ) (R : Ran q turns) (unread : List ℕ) → Stops q unread
    → put R.from R.between R.each ≡ output F (came R.from R.between R.each ++ unread)

abbrev pub RunsOutput : Type 0
RunsOutput = Outputs plain_form × Outputs origins_form

-- What the two programs are proved against is what this crate says: turn by turn, and for a whole file. Assumes nothing.
use mathlib.Core.Path.{sym, ◌∙◌}
use mathlib.Core.List.{◌++◌}
use Rattle.calls_format.specs.Program.{Whole, plain_program}
use Rattle.calls_format.specs.Running as running
use Rattle.calls_format.proofs.ProgramLaws.{plain-whole}
use Rattle.calls_origins_format.specs.Program.{origins_program}
use Rattle.calls_origins_format.specs.Running as origins-running
use Rattle.calls_origins_format.proofs.RecordLaws as origins-laws
use Rattle.calls_file.specs.File.{came}
use Rattle.calls_file.proofs.AlikeLaws.{Alike, file-alike}
use Rattle.calls_file.proofs.FileLaws.{whole-file}
use Rattle.calls_file.proofs.RanLaws.{ran-prints}
use Rattle.specification_programs.specs.Programs.{plain_form, origins_form}
use Rattle.specification_programs.specs.Program.{program_of}
use Rattle.specification_programs.specs.Same.{OutputSame, WholeFiles, RunsOutput}
use Rattle.specification_programs.proofs.AlikeSame.{output-of, alike, whole_of}
use Rattle.specification_programs.proofs.PlainSame.{back, back-same, plain-has}
use Rattle.specification_programs.proofs.OriginsSame.{origins-has}

pub plain-alike : Alike plain_program (program_of plain_form) (λ (s : running.State). s)
plain-alike = alike plain-has

pub origins-alike : Alike origins_program (program_of origins_form) (λ (s : origins-running.State). s)
origins-alike = alike origins-has

pub plain-whole-of : Whole (program_of plain_form)
plain-whole-of = whole_of plain-has plain-whole back back-same

pub origins-whole-of : Whole (program_of origins_form)
origins-whole-of = whole_of origins-has origins-laws.origins-whole back back-same

pub output-same : OutputSame
output-same l = (sym (file-alike plain-alike l ∙ output-of plain_form l), sym (file-alike origins-alike l ∙ output-of origins_form l))

pub whole-files : WholeFiles
whole-files = (whole-file plain-whole-of, whole-file origins-whole-of)

pub runs_output : RunsOutput
runs_output = (
  λ q n R unread h. ran-prints plain-whole-of q n R unread h ∙ output-of plain_form (came R.from R.between R.each ++ unread),
  λ q n R unread h. ran-prints origins-whole-of q n R unread h ∙ output-of origins_form (came R.from R.between R.each ++ unread),
)

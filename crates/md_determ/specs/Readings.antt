-- What is read off the taken path of a node's program, and its first wide bases where it has none.
use Rattle.std.specs.Prelude.{ℕ, List, Option}
use Rattle.md_setting.specs.Setting.{GeneralSetting}
use Rattle.md_lp.specs.Program.{Program}
use Rattle.md_lp.specs.declared.wide.Wide.{Wide}
use Rattle.md_simplex.specs.declared.end.End.{End}
use Rattle.md_simplex.specs.declared.order.Order.TheVariants.{Forward, Backward}
use Rattle.md_simplex.specs.declared.simplex_error.SimplexError.{SimplexError}
use Rattle.md_simplex.specs.declared.simplex_error.SimplexError.TheVariants.{TooWide, Memory}
use Rattle.md_simplex.specs.Runs.{IsFirstWideOf, IsRun}
use Rattle.md_question_solve.specs.declared.reading.Reading.{Reading}
use Rattle.md_question_solve.specs.Readings.{TellsCertificate}
use Rattle.md_determ_node.specs.NodeProgram.{IsNodeProgram}

-- a path of the program of what is fixed at a node is taken, and the reading tells what is read off its last dictionary
pub record IsReadAt (s : GeneralSetting) (width : ℕ) (fixed : List (Option ℕ)) (reading : Reading) : Type 0 where
  pub program : Program
  pub is_program : IsNodeProgram s fixed program
  pub end : End
  pub run : IsRun program width end
  pub tells : TellsCertificate s end.certificate reading

-- each of the two paths of the node's program has a wide basis, and these are the first ones
pub record IsWideAt (s : GeneralSetting) (width : ℕ) (fixed : List (Option ℕ)) (first second : Wide) : Type 0 where
  pub program : Program
  pub is_program : IsNodeProgram s fixed program
  pub forward : IsFirstWideOf Forward program width first
  pub backward : IsFirstWideOf Backward program width second

-- there is no reading, since the node's program has no taken path; memory may run out at any time
abbrev pub IsLeftAt : GeneralSetting → ℕ → List (Option ℕ) → SimplexError → Type 0
IsLeftAt s width fixed (TooWide first second) = IsWideAt s width fixed first second
IsLeftAt s width fixed Memory = Unit {0}

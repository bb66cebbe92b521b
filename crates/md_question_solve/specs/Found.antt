-- What is found: what is read off the taken path of a question's program, with the value of the mechanism; or that program's first
-- wide bases, where it has no taken path.
use Rattle.std.specs.Prelude.{ℕ}
use Rattle.md_lp.specs.Program.{Program}
use Rattle.md_mech.specs.declared.mechanism.Mechanism.{Mechanism}
use Rattle.md_lp.specs.declared.wide.Wide.{Wide}
use Rattle.md_simplex.specs.declared.order.Order.TheVariants.{Forward, Backward}
use Rattle.md_simplex.specs.declared.simplex_error.SimplexError.{SimplexError}
use Rattle.md_simplex.specs.declared.simplex_error.SimplexError.TheVariants as errors
use Rattle.md_simplex.specs.declared.step.Step.{Step}
use Rattle.md_simplex.specs.declared.step.Step.TheVariants as steps
use Rattle.md_simplex.specs.Runs.{IsFirstWideOf, MeetsWideBasis}
use Rattle.md_question.specs.Findings.{ClaimsInfeasible, ClaimsOptimal, ClaimsUnbounded, WhereOptimal}
use Rattle.md_question.specs.Question.{IsProgramFor, Question}
use Rattle.md_question.specs.declared.finding.Finding.{Finding}
use Rattle.md_question.specs.declared.finding.Finding.TheVariants.{Optimal, Infeasible, Unbounded}
use Rattle.md_question_solve.specs.Readings.{IsOfBestPoint, TellsRun}
use Rattle.md_question_solve.specs.declared.reading.Reading.{Reading}
use Rattle.md_question_solve.specs.declared.reading.Reading.TheVariants as readings

-- the finding without the value
abbrev pub reading_in : Finding → Reading
reading_in (Optimal value m bound) = readings.Optimal m bound
reading_in (Infeasible face) = readings.Infeasible face
reading_in (Unbounded m ray) = readings.Unbounded m ray

-- the finding has the value of its mechanism
abbrev pub HasValueIn : Question → Finding → Type 0
HasValueIn q finding = WhereOptimal (λ value m bound. q.is_value m value) finding

-- the paths of the program give this
abbrev pub IsFoundBy : Question → Program → ℕ → Finding → Type 0
IsFoundBy q p width finding = TellsRun q.setting p width (reading_in finding) × HasValueIn q finding

-- so do those of the question's program
pub record IsFound (q : Question) (width : ℕ) (finding : Finding) : Type 0 where
  pub program : Program
  pub is_program : IsProgramFor q program
  pub found : IsFoundBy q program width finding

-- the mechanism is that of a best point of the question's program, with a number of at most 62 bits for each column
pub record IsOfPoint (q : Question) (m : Mechanism) : Type 0 where
  pub program : Program
  pub is_program : IsProgramFor q program
  pub of_best : IsOfBestPoint q.setting program m

-- the claim is that of the end of a path
abbrev pub ClaimsEnd : Step → Finding → Type 0
ClaimsEnd steps.Optimal finding = ClaimsOptimal finding
ClaimsEnd steps.Infeasible finding = ClaimsInfeasible finding
ClaimsEnd (steps.Unbounded column) finding = ClaimsUnbounded finding
ClaimsEnd (steps.Pivot p) finding = ⊥

-- each path of the question's program has a wide basis, and these are the first ones
pub record IsWideFor (q : Question) (width : ℕ) (first second : Wide) : Type 0 where
  pub program : Program
  pub is_program : IsProgramFor q program
  pub forward : IsFirstWideOf Forward program width first
  pub backward : IsFirstWideOf Backward program width second

-- each path of the question's program comes to a basis that is too wide, in whatever terms the program is written
pub record HasWidePaths (q : Question) (width : ℕ) : Type 0 where
  pub program : Program
  pub is_program : IsProgramFor q program
  pub forward : (p : Program) → IsProgramFor q p → MeetsWideBasis Forward p width
  pub backward : (p : Program) → IsProgramFor q p → MeetsWideBasis Backward p width

-- nothing is found, since the question's program has no taken path; memory may run out at any time
abbrev pub IsLeftFor : Question → ℕ → SimplexError → Type 0
IsLeftFor q width (errors.TooWide first second) = IsWideFor q width first second
IsLeftFor q width errors.Memory = Unit {0}

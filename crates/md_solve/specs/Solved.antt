-- The answer to a setting: what is found by the question that it asks by itself, or the first wide basis of each path of its
-- program.
use Rattle.std.specs.Prelude.{◌≡◌, ℕ, [], Option, None, Some}
use Rattle.md_setting.specs.Setting.{GeneralSetting}
use Rattle.md_lp.specs.Program.{Program}
use Rattle.md_lp.specs.declared.wide.Wide.{Wide}
use Rattle.md_rows.specs.ProgramOf.{IsProgramOf}
use Rattle.md_simplex.specs.declared.order.Order.TheVariants.{Forward, Backward}
use Rattle.md_simplex.specs.Runs.{IsFirstWideOf}
use Rattle.md_question.specs.Best.{best_question}
use Rattle.md_question.specs.declared.finding.Finding.{Finding}
use Rattle.md_question.specs.declared.finding.Finding.TheVariants as findings
use Rattle.md_question_solve.specs.Found.{IsFoundBy}
use Rattle.md_answer.specs.declared.answer.Answer.{Answer}
use Rattle.md_answer.specs.declared.answer.Answer.TheVariants.{Optimal, Infeasible, Unbounded, TooWide}

-- the answer that says what was found
abbrev pub answer_of : Finding → Answer
answer_of (findings.Optimal value m bound) = Optimal value m bound
answer_of (findings.Infeasible face) = Infeasible face
answer_of (findings.Unbounded m ray) = Unbounded m ray

-- the first wide basis of the backward path is told
abbrev pub IsSecondWide : Program → ℕ → Option Wide → Type 0
IsSecondWide p width (Some second) = IsFirstWideOf Backward p width second
IsSecondWide p width None = ⊥

-- the answer that the paths of the program give
abbrev pub IsSolvedBy : GeneralSetting → Program → ℕ → Answer → Type 0
IsSolvedBy s p width (Optimal value m bound) = IsFoundBy (best_question s) p width (findings.Optimal value m bound)
IsSolvedBy s p width (Infeasible face) = IsFoundBy (best_question s) p width (findings.Infeasible face)
IsSolvedBy s p width (Unbounded m ray) = IsFoundBy (best_question s) p width (findings.Unbounded m ray)
IsSolvedBy s p width (TooWide cuts first second) = (cuts ≡ []) × IsFirstWideOf Forward p width first × IsSecondWide p width second
IsSolvedBy s p width _ = ⊥

-- the answer that the paths of the setting's program give
pub record IsSolved (s : GeneralSetting) (width : ℕ) (answer : Answer) : Type 0 where
  pub program : Program
  pub is_program : IsProgramOf s program
  pub solved : IsSolvedBy s program width answer

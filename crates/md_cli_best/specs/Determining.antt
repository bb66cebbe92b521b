-- What `determ` says of a general setting: the best of its deterministic mechanisms, or why there is none.
use Rattle.std.specs.Prelude.{◌≡◌, ◌⊎◌, ℕ, Ok}
use Rattle.md_setting.specs.Setting.{GeneralSetting}
use Rattle.md_setting.specs.ByKind.{WhereGeneral}
use Rattle.md_setting.specs.declared.file.SettingFile.{SettingFile}
use Rattle.md_tree.specs.declared.answer.DetAnswer.{DetAnswer}
use Rattle.md_tree.specs.declared.answer.DetAnswer.TheVariants.{Optimal, Infeasible, Unbounded, TooWide}
use Rattle.md_tree.specs.declared.verdict.DetVerdict.TheVariants.{Valid}
use Rattle.md_tree.specs.Verdicts.{ClaimHolds, ClaimsNothing, IsVerdict}
use Rattle.md_tree.specs.AnswerText.{determ_answer_of}
use Rattle.md_tree.specs.Rows.{text_of_determ}
use Rattle.md_determ.specs.Search.{IsSearched}
use Rattle.md_cli_driver.specs.Saying.{Saying}

-- the status of each kind of answer
abbrev pub status_of_determ : DetAnswer → ℕ
status_of_determ (Optimal value mechanism tree) = 0
status_of_determ (Infeasible tree) = 10
status_of_determ (Unbounded mechanism ray) = 11
status_of_determ (TooWide fixed first second) = 12

-- The one answer of the search within a width, its status, and its text, which reads back as the answer. Unless it is too wide,
-- what it claims is so, over mechanisms of any denominator, with numbers of any size, and the checker finds it valid.
pub record IsDetermined (s : GeneralSetting) (width : ℕ) (saying : Saying) : Type 0 where
  pub answer : DetAnswer
  pub searched : IsSearched s width answer
  pub only : (other : DetAnswer) → IsSearched s width other → other ≡ answer
  pub claim : (¬ ClaimsNothing answer) → ClaimHolds s answer
  pub valid : (¬ ClaimsNothing answer) → IsVerdict s answer Valid
  pub status : saying.status ≡ status_of_determ answer
  pub text : saying.text ≡ text_of_determ s answer
  pub read_back : determ_answer_of s saying.text ≡ Ok answer

abbrev pub IsDeterm : ℕ → SettingFile → Saying → Type 0
IsDeterm width file saying = WhereGeneral (λ s. IsDetermined s width saying) file

-- the statuses of what is answered
abbrev pub IsDetermStatus : ℕ → Type 0
IsDetermStatus status = (status ≡ 0) ⊎ ((status ≡ 10) ⊎ ((status ≡ 11) ⊎ (status ≡ 12)))

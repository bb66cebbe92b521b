-- The verdict on an answer about the fairest mechanism: that on what it claims by the question of the fairest mechanism, by the
-- conditions of answers to questions. An answer that is too wide claims nothing that could be checked.
use Rattle.std.specs.Prelude.{◌≡◌}
use Rattle.md_setting.specs.Setting.{GeneralSetting}
use Rattle.md_question.specs.Shown.{IsSo}
use Rattle.md_question_check.specs.declared.verdict.Verdict.{Verdict}
use Rattle.md_question_check.specs.declared.verdict.Verdict.TheVariants.{Undecided}
use Rattle.md_question_check.specs.Verdicts.{IsVerdictOn}
use Rattle.md_fair.specs.declared.answer.FairAnswer.{FairAnswer}
use Rattle.md_fair.specs.declared.answer.FairAnswer.TheVariants.{Found, TooWide}
use Rattle.md_fair.specs.FairQuestion.{fair_question}

abbrev pub IsFairVerdict : GeneralSetting → FairAnswer → Verdict → Type 0
IsFairVerdict s (Found finding) verdict = IsVerdictOn (fair_question s) finding verdict
IsFairVerdict s (TooWide first second) verdict = verdict ≡ Undecided

abbrev pub ClaimsNothing : FairAnswer → Type 0
ClaimsNothing (Found finding) = ⊥
ClaimsNothing (TooWide first second) = Unit {0}

-- the claim of an answer is so, over mechanisms of any denominator, with numbers of any size
abbrev pub ClaimHolds : GeneralSetting → FairAnswer → Type 0
ClaimHolds s (Found finding) = IsSo (fair_question s) finding
ClaimHolds s (TooWide first second) = ⊥

-- What is told of the answer that a text says of the deterministic mechanisms of a setting.
use Rattle.std.specs.Prelude.{◌≡◌, ◌↔◌, ℕ, List, Ok}
use Rattle.md_setting.specs.Setting.{GeneralSetting}
use Rattle.md_tree.specs.declared.answer.DetAnswer.{DetAnswer}
use Rattle.md_tree.specs.declared.verdict.DetVerdict.{DetVerdict}
use Rattle.md_tree.specs.declared.verdict.DetVerdict.TheVariants.{Valid, Undecided}
use Rattle.md_tree.specs.Verdicts.{ClaimHolds, ClaimsNothing, IsVerdict}
use Rattle.md_tree.specs.AnswerText.{determ_answer_of}

-- the text says an answer
pub record IsReadText (s : GeneralSetting) (bytes : List ℕ) : Type 0 where
  pub answer : DetAnswer
  pub reads : determ_answer_of s bytes ≡ Ok answer

-- The text says an answer, and this is the one verdict on it. Where the answer is valid, what it claims is so, over mechanisms of
-- any denominator, with numbers of any size; it stays undecided exactly where it claims nothing.
pub record IsCheckedText (s : GeneralSetting) (bytes : List ℕ) (verdict : DetVerdict) : Type 0 where
  pub answer : DetAnswer
  pub reads : determ_answer_of s bytes ≡ Ok answer
  pub is_verdict : IsVerdict s answer verdict
  pub only : (other : DetVerdict) → IsVerdict s answer other → other ≡ verdict
  pub claim : verdict ≡ Valid → ClaimHolds s answer
  pub undecided : (verdict ≡ Undecided) ↔ ClaimsNothing answer

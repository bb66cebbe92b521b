-- What is known of the one answer of a search.
use Rattle.std.proofs.Common.{ℕ, refl}
use Rattle.md_setting.specs.Setting.{GeneralSetting}
use Rattle.md_tree.specs.Verdicts.{ClaimHolds, ClaimsNothing}
use Rattle.md_tree.specs.declared.answer.DetAnswer.{DetAnswer}
use Rattle.md_tree.specs.declared.verdict.DetVerdict.TheVariants.{Valid}
use Rattle.md_tree.proofs.AnswerLaws.{if_valid}
use Rattle.md_determ.specs.Way.{IsTold}
use Rattle.md_determ.proofs.SoundLaws.{searched-valid}

-- what is claimed is so
pub told-claim : (s : GeneralSetting) (width : ℕ) (answer : DetAnswer) → IsTold s width answer → (¬ ClaimsNothing answer) → ClaimHolds s answer
told-claim s width answer h claims = if_valid s answer Valid h.writable (searched-valid s width answer h.searched claims) refl

-- What `run` says of a sale and of an answer about it, at a profile of reports and by two draws.
use Rattle.std.specs.Prelude.{◌≡◌, ◌⊎◌, ℕ, ℤ, List}
use Rattle.md_setting.specs.Setting.{GeneralSetting}
use Rattle.md_setting.specs.Meaning.{sizes_of}
use Rattle.md_setting.specs.declared.file.SettingFile.TheVariants.{General}
use Rattle.md_space.specs.Profiles.{IsProfile}
use Rattle.md_records.specs.Written.{text_of_records}
use Rattle.md_asym.specs.declared.asym_answer.AsymAnswer.{AsymAnswer}
use Rattle.md_run.specs.OfMechanism.{IsDraw}
use Rattle.md_run.specs.OfSale.{AreSaleLotteries, IsSaleDrawn, cap_for}
use Rattle.md_run.specs.Refusals.{IsRefusedBy}
use Rattle.md_run.specs.declared.drawn.Drawn.{Drawn}
use Rattle.md_run.specs.declared.refusal.DrawRefusal.TheVariants as draws
use Rattle.md_cli_driver.specs.declared.refusal.Refusal.TheVariants as refusal
use Rattle.md_cli_driver.specs.Refused.{refused}
use Rattle.md_cli_driver.specs.Saying.{Saying}
use Rattle.md_cli_tell.specs.Drawing.{AreNamesOf, IsNoProfile, drawn_rows, parts_of}
use Rattle.md_cli_tell.specs.SaleAnswers.{IsSaidOfTable}

-- Who gets the item by two draws at the profile that the text names, and what each agent pays. Over all first draws that may be,
-- each agent gets it as often as its mass says, so that it is the mechanism of the masses that is drawn.
pub record IsSaleDrawnSaying (s : GeneralSetting) (answer : AsymAnswer) (profile : List ℕ) (first second : ℤ) (saying : Saying) : Type 0 where
  pub reports : List ℕ
  pub named : AreNamesOf (General s) (parts_of profile) reports
  pub drawn : Drawn
  pub is_drawn : IsSaleDrawn s answer.interim answer.masses reports first second drawn
  pub lotteries : AreSaleLotteries s answer.interim.den answer.masses
  pub status : saying.status ≡ 0
  pub text : saying.text ≡ text_of_records (drawn_rows (General s) drawn)

-- the text names a profile, and a draw is out of its range there
pub record IsNoSaleDraw (s : GeneralSetting) (answer : AsymAnswer) (profile : List ℕ) (first second : ℤ) (saying : Saying) : Type 0 where
  pub reports : List ℕ
  pub named : AreNamesOf (General s) (parts_of profile) reports
  pub out : IsRefusedBy (IsProfile (sizes_of s) reports) (IsDraw (cap_for s answer.interim.den reports) first second) draws.Draw
  pub said : saying ≡ refused refusal.Draw

abbrev pub IsSaleDrawing : List ℕ → ℤ → ℤ → GeneralSetting → AsymAnswer → Saying → Type 0
IsSaleDrawing profile first second s answer saying =
    IsSaleDrawnSaying s answer profile first second saying ⊎ (IsNoProfile (General s) profile saying ⊎ IsNoSaleDraw s answer profile first second saying)

-- of a text that names another kind of answer than those with one lottery for each profile
abbrev pub IsOtherDrawing : List ℕ → ℤ → ℤ → GeneralSetting → List ℕ → Saying → Type 0
IsOtherDrawing profile first second = IsSaidOfTable (IsSaleDrawing profile first second)

-- What `run` says of an auction and an answer about several units, at a profile of reports and by two draws.
use Rattle.std.specs.Prelude.{◌≡◌, ◌⊎◌, ◌++◌, ◌∷◌, [], ℕ, ℤ, Bool, false, List, length, codes, slice_index_or}
use Rattle.md_math.specs.Lists.{up_to}
use Rattle.md_setting.specs.Auction.{SymmetricAuction}
use Rattle.md_setting.specs.ByKind.{WhereAuction}
use Rattle.md_setting.specs.declared.file.SettingFile.{SettingFile}
use Rattle.md_setting.specs.declared.file.SettingFile.TheVariants.{Auction}
use Rattle.md_records.specs.Written.{text_of_records}
use Rattle.md_parts.specs.Rows.{number_row}
use Rattle.md_answer.specs.declared.answer.Answer.{Answer}
use Rattle.md_run.specs.DrawnUnits.{AreUnitsDrawn, AreUnitsLotteries, AreUnitsRefused}
use Rattle.md_run.specs.declared.refusal.DrawRefusal.TheVariants as draws
use Rattle.md_run.specs.declared.units_drawn.UnitsDrawn.{UnitsDrawn}
use Rattle.md_cli_driver.specs.declared.refusal.Refusal.TheVariants as refusal
use Rattle.md_cli_driver.specs.Refused.{refused}
use Rattle.md_cli_driver.specs.Saying.{Saying}
use Rattle.md_cli_tell.specs.AwardTexts.{win_rows}
use Rattle.md_cli_tell.specs.Drawing.{AreNamesOf, IsNoProfile, parts_of}

-- ---- the records

-- a record for each bidder that gets a unit, in their order, counted from 1
abbrev pub winner_rows : List Bool → List (List (List ℕ))
winner_rows wins = up_to (length wins) (λ i. win_rows i (slice_index_or wins i false))

-- and then the denominator of the payments, and what each bidder pays
abbrev pub units_drawn_rows : UnitsDrawn → List (List (List ℕ))
units_drawn_rows drawn = winner_rows drawn.wins.items ++ number_row (codes "pays") (drawn.den ∷ drawn.pays) ∷ []

-- ---- what is said

-- Who gets a unit by two draws at the profile that the text names, and what each bidder pays. Over all first draws that may be,
-- each bidder wins as often as its part of the mass of its value says, never more bidders than there are units, and each set of
-- winners comes as often as its chance says: it is the mechanism of the masses that is drawn.
pub record IsUnitsDrawnSaying (a : SymmetricAuction) (units : ℕ) (answer : Answer) (profile : List ℕ) (first second : ℤ) (saying : Saying) : Type 0 where
  pub reports : List ℕ
  pub named : AreNamesOf (Auction a) (parts_of profile) reports
  pub drawn : UnitsDrawn
  pub is_drawn : AreUnitsDrawn a answer reports first second drawn
  pub lotteries : AreUnitsLotteries a units answer
  pub status : saying.status ≡ 0
  pub text : saying.text ≡ text_of_records (units_drawn_rows drawn)

-- the text names a profile, and a draw is out of its range there
pub record IsNoUnitsDraw (a : SymmetricAuction) (answer : Answer) (profile : List ℕ) (first second : ℤ) (saying : Saying) : Type 0 where
  pub reports : List ℕ
  pub named : AreNamesOf (Auction a) (parts_of profile) reports
  pub out : AreUnitsRefused a answer reports first second draws.Draw
  pub said : saying ≡ refused refusal.Draw

abbrev pub IsUnitDrawing : ℕ → List ℕ → ℤ → ℤ → SymmetricAuction → Answer → Saying → Type 0
IsUnitDrawing units profile first second a answer saying =
    IsUnitsDrawnSaying a units answer profile first second saying ⊎ (IsNoProfile (Auction a) profile saying ⊎ IsNoUnitsDraw a answer profile first second saying)

abbrev pub IsUnitRun : ℕ → List ℕ → ℤ → ℤ → SettingFile → Answer → Saying → Type 0
IsUnitRun units profile first second file answer saying = WhereAuction (λ a. IsUnitDrawing units profile first second a answer saying) file

-- What `award` says of an auction of several units, at a profile of reports and by a draw.
use Rattle.std.specs.Prelude.{◌≡◌, ◌⊎◌, ℕ, ℤ, List}
use Rattle.md_setting.specs.Auction.{SymmetricAuction}
use Rattle.md_setting.specs.ByKind.{WhereAuction}
use Rattle.md_setting.specs.declared.file.SettingFile.{SettingFile}
use Rattle.md_setting.specs.declared.file.SettingFile.TheVariants.{Auction}
use Rattle.md_threshold.specs.Awards.{IsAward, IsOutOfDraws}
use Rattle.md_threshold.specs.declared.refusal.AwardRefusal.{AwardRefusal}
use Rattle.md_threshold.specs.declared.refusal.AwardRefusal.TheVariants as awards
use Rattle.md_threshold.specs.declared.shares.Award.{Award}
use Rattle.md_cli_driver.specs.declared.refusal.Refusal.{Refusal}
use Rattle.md_cli_driver.specs.declared.refusal.Refusal.TheVariants as refusal
use Rattle.md_cli_driver.specs.Refused.{refused}
use Rattle.md_cli_driver.specs.Saying.{Saying}
use Rattle.md_cli_tell.specs.AwardTexts.{text_of_award}
use Rattle.md_cli_tell.specs.Drawing.{AreNamesOf, IsNoProfile, parts_of}

-- a refusal to award
abbrev pub award_refused : AwardRefusal → Refusal
award_refused (awards.Draw draws) = refusal.Draw
award_refused awards.Memory = refusal.Memory

-- What each bidder has of the best auction in which only winners pay, at the profile that the text names, and who wins at the draw.
-- Over all draws each bidder wins as often as its chance says, so that it is the mechanism of the pools that is drawn.
pub record IsAwardedSaying (a : SymmetricAuction) (units : ℕ) (profile : List ℕ) (draw : ℤ) (saying : Saying) : Type 0 where
  pub reports : List ℕ
  pub named : AreNamesOf (Auction a) (parts_of profile) reports
  pub award : Award
  pub is_award : IsAward a units reports draw award
  pub status : saying.status ≡ 0
  pub text : saying.text ≡ text_of_award award.shares.items

-- the text names a profile, and the draw is none of as many as tell who wins there
pub record IsNoAward (a : SymmetricAuction) (units : ℕ) (profile : List ℕ) (draw : ℤ) (saying : Saying) : Type 0 where
  pub reports : List ℕ
  pub named : AreNamesOf (Auction a) (parts_of profile) reports
  pub draws : ℕ
  pub out : IsOutOfDraws a units reports draw draws
  pub said : saying ≡ refused refusal.Draw

abbrev pub IsAwarding : ℕ → List ℕ → ℤ → SymmetricAuction → Saying → Type 0
IsAwarding units profile draw a saying =
    IsAwardedSaying a units profile draw saying ⊎ (IsNoProfile (Auction a) profile saying ⊎ IsNoAward a units profile draw saying)

abbrev pub IsAwardOf : ℕ → List ℕ → ℤ → SettingFile → Saying → Type 0
IsAwardOf units profile draw file saying = WhereAuction (λ a. IsAwarding units profile draw a saying) file

-- the statuses of what is said
abbrev pub IsAwardStatus : ℕ → Type 0
IsAwardStatus status = (status ≡ 0) ⊎ (status ≡ 67)

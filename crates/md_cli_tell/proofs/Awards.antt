-- What is said where nothing is awarded.
use Rattle.std.proofs.Common.{◌≡◌, ℕ, ℤ, List, refl, inl, inr}
use Rattle.std.specs.Prelude.{◌⊎◌}
use Rattle.md_setting.specs.Auction.{SymmetricAuction}
use Rattle.md_setting.specs.declared.file.SettingFile.TheVariants.{Auction}
use Rattle.md_threshold.specs.Awards.{IsAwardRefused}
use Rattle.md_threshold.specs.declared.refusal.AwardRefusal.{AwardRefusal}
use Rattle.md_threshold.specs.declared.refusal.AwardRefusal.TheVariants.{Draw, Memory}
use Rattle.md_cli_driver.specs.declared.refusal.Refusal.TheVariants as refusal
use Rattle.md_cli_driver.specs.Refused.{refused, status_of}
use Rattle.md_cli_tell.specs.Awarding.{IsAwarding, award_refused}
use Rattle.md_cli_tell.specs.Drawing.{AreNamesOf, parts_of}

-- a draw out of range belongs to what is said of the auction, and want of memory does not
pub refused-award : (a : SymmetricAuction) (units : ℕ) (profile : List ℕ) (draw : ℤ) (reports : List ℕ) (e : AwardRefusal)
    → AreNamesOf (Auction a) (parts_of profile) reports → IsAwardRefused a units reports draw e
    → (award_refused e ≡ refusal.Memory) ⊎ (IsAwarding units profile draw a (refused (award_refused e)) × (status_of (award_refused e) ≡ 67))
refused-award a units profile draw reports (Draw draws) named out = inr (inr (inr (record { reports = reports; named = named; draws = draws; out = out; said = refl })), refl)
refused-award a units profile draw reports Memory named out = inl refl

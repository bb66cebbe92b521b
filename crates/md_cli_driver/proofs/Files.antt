-- The setting that a file says, by its kind.
use Rattle.std.proofs.Common.{◌≡◌, true, refl, inl, inr}
use Rattle.std.specs.Prelude.{◌⊎◌}
use Rattle.md_setting.specs.Auction.{SymmetricAuction}
use Rattle.md_setting.specs.Setting.{GeneralSetting}
use Rattle.md_setting.specs.ByKind.{has_no_groups, IsGeneral}
use Rattle.md_setting.specs.declared.file.SettingFile.{SettingFile}
use Rattle.md_setting.specs.declared.file.SettingFile.TheVariants.{General, Auction, Bidders}
use Rattle.md_cli_driver.specs.Reading.{is_auction, is_general}

pub general_of : (file : SettingFile) → IsGeneral file → (s : GeneralSetting) × (file ≡ General s)
general_of (General s) h = (s, refl)
general_of (Auction a) h = absurd h
general_of (Bidders a) h = absurd h

-- one without groups of bidders is of one kind or the other
pub by_kind : (file : SettingFile) → has_no_groups file ≡ true → ((s : GeneralSetting) × (file ≡ General s)) ⊎ ((a : SymmetricAuction) × (file ≡ Auction a))
by_kind (General s) h = inl (s, refl)
by_kind (Auction a) h = inr (a, refl)
by_kind (Bidders a) h = absurd (let e = h in cc)

-- the test says it
pub from_test : (file : SettingFile) → is_general file ≡ true → IsGeneral file
from_test (General s) h = tt
from_test (Auction a) h = absurd (let e = h in cc)
from_test (Bidders a) h = absurd (let e = h in cc)

pub auction_of : (file : SettingFile) → is_auction file ≡ true → (a : SymmetricAuction) × (file ≡ Auction a)
auction_of (General s) h = absurd (let e = h in cc)
auction_of (Auction a) h = (a, refl)
auction_of (Bidders a) h = absurd (let e = h in cc)

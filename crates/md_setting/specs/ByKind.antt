-- What is said of a setting file by the kind of setting that it holds.
use Rattle.std.specs.Prelude.{Bool, true, false}
use Rattle.md_setting.specs.Setting.{GeneralSetting}
use Rattle.md_setting.specs.Auction.{SymmetricAuction}
use Rattle.md_setting.specs.Grouped.{GroupedAuction}
use Rattle.md_setting.specs.declared.file.SettingFile.{SettingFile}
use Rattle.md_setting.specs.declared.file.SettingFile.TheVariants.{General, Auction, Bidders}

-- it holds a general setting
abbrev pub IsGeneral : SettingFile → Type 0
IsGeneral (General s) = Unit {0}
IsGeneral (Auction a) = ⊥
IsGeneral (Bidders a) = ⊥

-- it holds an auction with groups of bidders
abbrev pub IsBidders : SettingFile → Type 0
IsBidders (General s) = ⊥
IsBidders (Auction a) = ⊥
IsBidders (Bidders a) = Unit {0}

-- it has no groups of bidders: it is a general setting or a symmetric auction
abbrev pub has_no_groups : SettingFile → Bool
has_no_groups (General s) = true
has_no_groups (Auction a) = true
has_no_groups (Bidders a) = false

-- a fact of the general setting, where it holds one
abbrev pub WhereGeneral : (GeneralSetting → Type 0) → SettingFile → Type 0
WhereGeneral P (General s) = P s
WhereGeneral P (Auction a) = Unit {0}
WhereGeneral P (Bidders a) = Unit {0}

-- a fact of the auction, where it holds one
abbrev pub WhereAuction : (SymmetricAuction → Type 0) → SettingFile → Type 0
WhereAuction P (General s) = Unit {0}
WhereAuction P (Auction a) = P a
WhereAuction P (Bidders a) = Unit {0}

-- a fact of the auction with groups of bidders, where it holds one
abbrev pub WhereBidders : (GroupedAuction → Type 0) → SettingFile → Type 0
WhereBidders P (General s) = Unit {0}
WhereBidders P (Auction a) = Unit {0}
WhereBidders P (Bidders a) = P a

-- The setting file that a number stands for: an auction where the number is odd, a general setting where it is even.
use Rattle.std.specs.Prelude.{◌≡◌, ℕ, ◌%◌}
use Rattle.md_setting.specs.Auction.{auction_of}
use Rattle.md_setting.specs.declared.file.SettingFile.{SettingFile}
use Rattle.md_setting.specs.declared.file.SettingFile.TheVariants.{General, Auction, Bidders}
use Rattle.md_gen.specs.GeneratedAuction.{generated_auction}
use Rattle.md_gen.specs.GeneratedSetting.{generated_setting}

abbrev pub IsGenerated : ℕ → SettingFile → Type 0
IsGenerated number (General s) = (number % 2 ≡ 0) × (s ≡ generated_setting number)
IsGenerated number (Auction a) = (number % 2 ≡ 1) × (a ≡ auction_of (generated_auction number))
IsGenerated number (Bidders a) = ⊥

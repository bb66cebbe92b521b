-- What `rows` says of a setting: its linear program, for an auction its reduced program with a cut for each value alone.
use Rattle.std.specs.Prelude.{◌≡◌, ℕ, List}
use Rattle.md_setting.specs.declared.file.SettingFile.{SettingFile}
use Rattle.md_setting.specs.declared.file.SettingFile.TheVariants.{General, Auction, Bidders}
use Rattle.md_cli_lp.specs.ProgramTexts.{IsListing}
use Rattle.md_cli_lp.specs.ReducedTexts.{IsReducedListing}
use Rattle.md_cli_driver.specs.Saying.{Saying}

-- the text lists the program
abbrev pub IsListingOf : SettingFile → List ℕ → Type 0
IsListingOf (General s) text = IsListing s text
IsListingOf (Auction a) text = IsReducedListing a text
IsListingOf (Bidders a) text = ⊥

pub record IsRows (file : SettingFile) (saying : Saying) : Type 0 where
  pub status : saying.status ≡ 0
  pub text : IsListingOf file saying.text

-- the status of what is answered
abbrev pub IsRowsStatus : ℕ → Type 0
IsRowsStatus status = status ≡ 0

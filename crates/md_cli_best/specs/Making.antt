-- What `make` says of a number: the file of the setting that it stands for.
use Rattle.std.specs.Prelude.{◌≡◌, ◌⊎◌, ℕ, ℤ, Ok}
use Rattle.md_setting.specs.declared.file.SettingFile.{SettingFile}
use Rattle.md_toml.specs.File.{setting_of}
use Rattle.md_gen.specs.Generated.{IsGenerated}
use Rattle.md_cli_best.specs.Numbers.{IsSaidOfNumber}
use Rattle.md_cli_driver.specs.Saying.{Saying}

-- the text, read back as a setting file, says the setting of the number
pub record IsMade (number : ℕ) (saying : Saying) : Type 0 where
  pub file : SettingFile
  pub generated : IsGenerated number file
  pub status : saying.status ≡ 0
  pub read_back : setting_of saying.text ≡ Ok file

abbrev pub IsMake : ℤ → Saying → Type 0
IsMake number saying = IsSaidOfNumber IsMade number saying

-- the statuses of both
abbrev pub IsMakeStatus : ℕ → Type 0
IsMakeStatus status = (status ≡ 0) ⊎ (status ≡ 67)

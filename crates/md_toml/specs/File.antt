-- What the bytes of a setting file say: a setting, or the first reason to refuse them.
use Rattle.std.specs.Prelude.{ℕ, List, Ok, Err, None, Some}
use Rattle.md_setting.specs.declared.file.SettingFile.{SettingFile}
use Rattle.md_setting.specs.declared.file.SettingFile.TheVariants.{General, Auction, Bidders}
use Rattle.md_setting.specs.Setting.{GeneralSetting}
use Rattle.md_setting.specs.Refusals.{refusal_of}
use Rattle.md_setting.specs.Auction.{SymmetricAuction, WrittenAuction, auction_of}
use Rattle.md_setting.specs.AuctionRefusals.{auction_refusal_of}
use Rattle.md_setting.specs.Grouped.{GroupedAuction, WrittenGroupedAuction, grouped_of}
use Rattle.md_setting.specs.GroupedRefusals.{grouped_refusal_of}
use Rattle.toml.specs.Data.{Members}
use Rattle.md_toml.specs.declared.document.Kind.{Kind}
use Rattle.md_toml.specs.declared.document.Kind.TheVariants as kind
use Rattle.md_toml.specs.AuctionText.{auction_in}
use Rattle.md_toml.specs.declared.refusal.SettingRefusal.TheVariants.{Build}
use Rattle.md_toml.specs.Reading.{Reading, ◌>>=◌}
use Rattle.md_toml.specs.Document.{document_of, kind_of}
use Rattle.md_toml.specs.General.{general_of}
use Rattle.md_toml.specs.GroupedText.{grouped_in}

-- a setting as written, where nothing in it is refused
abbrev pub built : GeneralSetting → Reading GeneralSetting
built written = elim (refusal_of written) [
  | None ↦ Ok written
  | Some refusal ↦ Err (Build refusal)
]

-- an auction as written, where nothing in it is refused
abbrev pub built_auction : WrittenAuction → Reading SymmetricAuction
built_auction written = elim (auction_refusal_of written) [
  | None ↦ Ok (auction_of written)
  | Some refusal ↦ Err (Build refusal)
]

-- an auction with groups as written, where nothing in it is refused
abbrev pub built_grouped : WrittenGroupedAuction → Reading GroupedAuction
built_grouped written = elim (grouped_refusal_of written) [
  | None ↦ Ok (grouped_of written)
  | Some refusal ↦ Err (Build refusal)
]

-- what the document says of its kind of setting
abbrev pub file_of : Kind → Members → Reading SettingFile
file_of (kind.General version) members = do
  written ← general_of version members
  setting ← built written
  Ok (General setting)
file_of kind.Auction members = do
  written ← auction_in members
  auction ← built_auction written
  Ok (Auction auction)
file_of kind.Bidders members = do
  written ← grouped_in members
  auction ← built_grouped written
  Ok (Bidders auction)

abbrev pub setting_of : List ℕ → Reading SettingFile
setting_of bytes = do
  members ← document_of bytes
  kind ← kind_of members
  file_of kind members

-- What must be so for a report to have records.
use Rattle.std.specs.Prelude.{◌<◌, length, Option, None, Some, IfSome, slice_index}
use Rattle.std.specs.List.{All}
use Rattle.md_space.specs.Profiles.{profile_count}
use Rattle.md_setting.specs.Setting.{GeneralSetting}
use Rattle.md_setting.specs.Meaning.{agent_count, sizes_of}
use Rattle.md_mech.specs.Conditions.{IsInside}
use Rattle.md_mech.specs.Rows.{conditions_of}
use Rattle.md_report.specs.declared.report.Report.{Report}
use Rattle.md_report.specs.declared.type_numbers.TypeNumbers.{TypeNumbers}
use Rattle.md_report.specs.declared.worst.Worst.{Worst}

-- the condition is about agents, types and profiles of the setting
abbrev pub IsTold : GeneralSetting → Option Worst → Type 0
IsTold s None = Unit {0}
IsTold s (Some worst) = IsInside s worst.condition

-- the type is there
pub record IsTypeIn (s : GeneralSetting) (told : TypeNumbers) : Type 0 where
  pub agent_in : told.agent < agent_count s
  pub kind_in : told.kind < slice_index (sizes_of s) told.agent

-- all that is told is about the setting
pub record IsAbout (s : GeneralSetting) (report : Report) : Type 0 where
  pub types : All (IsTypeIn s) report.types.items
  pub gains : All (IsTold s) report.gains.items
  pub losses : All (IsTold s) report.losses.items
  pub deficit : IfSome report.deficit (λ told. told.rank < profile_count (sizes_of s))
  pub tight : All (λ r. r < length (conditions_of s)) report.tight.items

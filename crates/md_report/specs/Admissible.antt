-- When a report shows a mechanism to be admissible, and which of its parts it tells.
use Rattle.std.specs.Prelude.{◌≡◌, ◌<◌, ◌↔◌, ℕ, pos, ◌≤ℤ◌, false, Option, None, Some, IsNone, slice_index, slice_index_or}
use Rattle.std.specs.List.{All}
use Rattle.md_setting.specs.declared.kinds.Rational.TheVariants.{None as Free}
use Rattle.md_setting.specs.Setting.{GeneralSetting}
use Rattle.md_setting.specs.Meaning.{agent_count, sizes_of}
use Rattle.md_report.specs.declared.deficit.Deficit.{Deficit}
use Rattle.md_report.specs.declared.report.Report.{Report}
use Rattle.md_report.specs.declared.worst.Worst.{Worst}

-- what is missed is at most 0
abbrev pub IsNoneMissed : Option Worst → Type 0
IsNoneMissed None = Unit {0}
IsNoneMissed (Some worst) = worst.shortfall.num ≤ℤ pos 0

-- what is paid is at least 0
abbrev pub IsNoDeficit : Option Deficit → Type 0
IsNoDeficit None = Unit {0}
IsNoDeficit (Some deficit) = pos 0 ≤ℤ deficit.payments.num

-- no gain and no loss is above 0, and no deficit below
pub record MissesNothing (report : Report) : Type 0 where
  pub gains : All IsNoneMissed report.gains.items
  pub losses : All IsNoneMissed report.losses.items
  pub deficit : IsNoDeficit report.deficit

-- a gain is told of each agent with more than one type, a loss of each agent where the setting asks for rationality, and a
-- deficit where the setting allows none
pub record IsToldWhole (s : GeneralSetting) (report : Report) : Type 0 where
  pub gains : (i : ℕ) → i < agent_count s → IsNone (slice_index_or report.gains.items i None) ↔ (slice_index (sizes_of s) i ≡ 1)
  pub losses : (i : ℕ) → i < agent_count s → IsNone (slice_index_or report.losses.items i None) ↔ (s.rational ≡ Free)
  pub deficit : IsNone report.deficit ↔ (s.no_deficit ≡ false)

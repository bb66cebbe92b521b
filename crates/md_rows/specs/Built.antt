-- A program with the columns of a setting, and maybe more, that grows condition by condition.
use Rattle.std.specs.Prelude.{ℕ, ◌≤◌, List, length, take}
use Rattle.md_setting.specs.Setting.{GeneralSetting}
use Rattle.md_setting.specs.Rows.{column_count}
use Rattle.md_mech.specs.Rows.{Condition}
use Rattle.md_lp.specs.Program.{Program}
use Rattle.md_forms.specs.Built.{HasRoom as HasRoomFor, Extends as ExtendsBy}
use Rattle.md_rows.specs.ProgramOf.{forms_of}

-- the program has the setting's columns, and room for a row for each of these conditions
pub record HasRoom (s : GeneralSetting) (conditions : List Condition) (p : Program) : Type 0 where
  pub columns : column_count s ≤ p.columns
  pub room : HasRoomFor (forms_of s conditions) p

-- the rows of these conditions were added at its end
abbrev pub Extends : GeneralSetting → List Condition → Program → Program → Type 0
Extends s conditions old new = ExtendsBy (forms_of s conditions) old new

-- the rows of the first of these conditions were added at its end
pub record ExtendsInPart (s : GeneralSetting) (conditions : List Condition) (old new : Program) : Type 0 where
  pub count : ℕ
  pub few : count ≤ length conditions
  pub first : Extends s (take count conditions) old new

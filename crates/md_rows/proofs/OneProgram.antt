-- A setting has one program: two that are written down differently have the same numbers at the same places.
use Rattle.md_setting.specs.Setting.{GeneralSetting}
use Rattle.md_setting.specs.Rows.{column_count}
use Rattle.md_mech.specs.Rows.{conditions_of}
use Rattle.md_lp.specs.Program.{Program}
use Rattle.md_lp.proofs.SamePrograms.{IsSameProgram}
use Rattle.md_forms.proofs.OneProgram as forms
use Rattle.md_rows.specs.Sides.{cost_in}
use Rattle.md_rows.specs.ProgramOf.{forms_of, IsProgramOf}

pub same_program : (s : GeneralSetting) (p q : Program) → IsProgramOf s p → IsProgramOf s q → IsSameProgram p q
same_program s p q a b = forms.same_program (column_count s) (forms_of s (conditions_of s)) (cost_in s) p q a b

-- The cost of the fair program, column by column.
use Rattle.std.specs.Prelude.{ℤ, pos, neg_ℤ, List, [], ◌∷◌, ◌++◌}
use Rattle.md_math.specs.Lists.{list_to}
use Rattle.md_setting.specs.Setting.{GeneralSetting}
use Rattle.md_setting.specs.Rows.{column_count}

-- nothing at the setting's columns, and then both parts of the level
abbrev pub written_cost : GeneralSetting → List ℤ
written_cost s = list_to (column_count s) (λ _. pos 0) ++ pos 1 ∷ neg_ℤ (pos 1) ∷ []

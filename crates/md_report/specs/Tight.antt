-- Which conditions hold with equality.
use Rattle.std.specs.Prelude.{ℕ, ◌-ℤ◌, Bool, false, List, [], ◌∷◌, Option, None, Some, length, slice_get, unsigned_abs, ◌==◌, if◌then◌else◌}
use Rattle.md_math.specs.Lists.{up_to}
use Rattle.md_setting.specs.Setting.{GeneralSetting}
use Rattle.md_mech.specs.declared.mechanism.Mechanism.{Mechanism}
use Rattle.md_mech.specs.Rows.{Condition, left_of, right_of, demand_rows}

-- the two sides of a condition are the same
abbrev pub is_tight : GeneralSetting → Mechanism → Option Condition → Bool
is_tight s m None = false
is_tight s m (Some c) = unsigned_abs (left_of s m c -ℤ right_of s m c) == 0

-- the row, if the condition with its number holds with equality
abbrev pub tight_at : GeneralSetting → Mechanism → ℕ → List ℕ
tight_at s m r = if is_tight s m (slice_get (demand_rows s) r) then r ∷ [] else []

-- the numbers of the conditions on truth, rationality and the deficit that hold with equality, ascending
abbrev pub tight_rows : GeneralSetting → Mechanism → List ℕ
tight_rows s m = up_to (length (demand_rows s)) (tight_at s m)

-- Whether the program of conditions can be made: tests for what md_require demands of them.
use Rattle.std.specs.Prelude.{ℕ, ◌^◌, ℤ, pos, ◌*ℤ◌, unsigned_abs, nat_le, Bool, ◌&&◌, List, length, if◌then◌else◌}
use Rattle.std.specs.List.{list_all}
use Rattle.md_space.specs.Profiles.{profile_count}
use Rattle.md_setting.specs.Setting.{GeneralSetting}
use Rattle.md_setting.specs.Meaning.{agent_count, outcome_count, sizes_of, total_of}
use Rattle.md_setting.specs.Refusals.{all_below}
use Rattle.md_require.specs.declared.condition.Condition.{Condition}
use Rattle.md_require.specs.declared.condition.Measured.{Measured}
use Rattle.md_require.specs.declared.condition.Measured.TheVariants as measured
use Rattle.md_require.specs.Amounts.{Amount, amounts_of, whole_of}
use Rattle.md_require.specs.Parts.{chance_part, pay_part}
use Rattle.md_require.specs.RequireQuestion.{require_rows}
use Rattle.md_conditions_text.specs.declared.kind.Kind.{Kind}
use Rattle.md_conditions_text.specs.ConditionFields.{denominator_place, numerator_place}

-- a number is at most 2^44 in size
abbrev pub is_narrow : ℤ → Bool
is_narrow z = nat_le (unsigned_abs z) (2 ^ 44)

-- so is each number of the row of an amount: those of the chances and of the payments of a rank
abbrev pub has_narrow_chances : GeneralSetting → ℤ → Amount → ℕ → Bool
has_narrow_chances s den amount r = all_below (outcome_count s) (λ o. is_narrow (den *ℤ chance_part s amount r o))

abbrev pub has_narrow_pays : GeneralSetting → ℤ → Amount → ℕ → Bool
has_narrow_pays s den amount r = all_below (agent_count s) (λ i. is_narrow (den *ℤ pay_part s amount r i))

abbrev pub has_narrow_parts : GeneralSetting → ℤ → Amount → Bool
has_narrow_parts s den amount = all_below (profile_count (sizes_of s)) (λ r. has_narrow_chances s den amount r && has_narrow_pays s den amount r)

-- and its right side
abbrev pub has_narrow_row : GeneralSetting → Condition → Amount → Bool
has_narrow_row s c amount = has_narrow_parts s c.den amount && is_narrow (c.num *ℤ whole_of s amount)

-- the row of each amount of a condition
abbrev pub has_narrow_rows : GeneralSetting → Condition → Bool
has_narrow_rows s c = list_all (has_narrow_row s c) (amounts_of s c.measured)

-- the weight of all profiles, where an average over them is measured
abbrev pub whole_by : GeneralSetting → Measured → ℤ
whole_by s measured.Revenue = total_of s
whole_by s measured.Welfare = total_of s
whole_by s (measured.Utility agent) = total_of s
whole_by s (measured.Chance outcome) = total_of s
whole_by s (measured.ChanceAt rank outcome) = pos 1
whole_by s (measured.Payment agent) = pos 1
whole_by s (measured.PaymentAs agent kind) = pos 1

-- the right side of each of its rows is small enough
abbrev pub has_narrow_right : GeneralSetting → Condition → Bool
has_narrow_right s c = is_narrow (c.num *ℤ whole_by s c.measured)

-- the field that makes a number of its rows too large: the numerator of the bound, where the right side is; else the denominator
abbrev pub wide_place : GeneralSetting → Kind → Condition → ℕ
wide_place s kind c = if has_narrow_right s c then denominator_place kind else numerator_place kind

-- at most 1,000 conditions, with at most 4,096 rows together with those of the setting
abbrev pub are_few : GeneralSetting → List Condition → Bool
are_few s conditions = nat_le (length conditions) 1000 && nat_le (require_rows s conditions) 4096

-- What is told of the best mechanism under conditions, and what it must be to be written.
use Rattle.std.specs.Prelude.{◌≡◌, ℕ, pos, ◌≤ℤ◌, List, length, All, Option, None, Some}
use Rattle.md_math.specs.Sizes.{IsWithin}
use Rattle.md_num.specs.declared.frac.Frac.{Frac}
use Rattle.md_setting.specs.Setting.{GeneralSetting}
use Rattle.md_mech.specs.Accepted.{IsAccepted, number_limit}
use Rattle.md_parts.specs.Fitting.{AreMultipliers, IsBoundOver, IsFraction, IsRayFor}
use Rattle.md_question.specs.declared.finding.Finding.{Finding}
use Rattle.md_question.specs.declared.finding.Finding.TheVariants.{Optimal, Infeasible, Unbounded}
use Rattle.md_question.specs.Shown.{IsFindingTo}
use Rattle.md_require.specs.declared.condition.Condition.{Condition}
use Rattle.md_require.specs.Limits.{AreConditionsFor}
use Rattle.md_require.specs.RequireQuestion.{require_question}

-- the conditions, what was found, and the shadow of each condition where it is told
pub record Told : Type 0 where
  pub conditions : List Condition
  pub finding : Finding
  pub shadows : List (Option Frac)

-- what was found has the sizes of the setting and of a program of so many rows, and its numbers are in their ranges
abbrev pub IsFindingOver : GeneralSetting → ℕ → Finding → Type 0
IsFindingOver s rows (Optimal value mechanism bound) = IsFraction value.num value.den × IsAccepted s mechanism × IsBoundOver rows bound
IsFindingOver s rows (Infeasible face) = AreMultipliers rows face
IsFindingOver s rows (Unbounded mechanism ray) = IsAccepted s mechanism × IsRayFor s ray

-- a number over a denominator of at least 1, both of at most 62 bits
pub record IsShadowFraction (shadow : Frac) : Type 0 where
  pub positive : pos 1 ≤ℤ shadow.den
  pub num_size : IsWithin number_limit shadow.num
  pub den_size : IsWithin number_limit shadow.den

-- a shadow that is told is such a fraction
abbrev pub IsFractionIfTold : Option Frac → Type 0
IsFractionIfTold None = Unit {0}
IsFractionIfTold (Some shadow) = IsShadowFraction shadow

-- shadows may be told of a best mechanism alone: one for each condition
abbrev pub shadow_count : Finding → ℕ → ℕ
shadow_count (Optimal value mechanism bound) count = count
shadow_count (Infeasible face) count = 0
shadow_count (Unbounded mechanism ray) count = 0

-- so many shadows, of which those that are told are fractions
pub record AreShadowsFor (count : ℕ) (shadows : List (Option Frac)) : Type 0 where
  pub one_each : length shadows ≡ count
  pub each : All IsFractionIfTold shadows

-- the conditions fit the setting, and what was found and the shadows have its sizes, with numbers in their ranges
pub record IsRequiredAnswer (s : GeneralSetting) (answer : Told) : Type 0 where
  pub conditions : AreConditionsFor s answer.conditions
  pub finding : IsFindingTo (require_question s answer.conditions) answer.finding
  pub shadows : AreShadowsFor (shadow_count answer.finding (length answer.conditions)) answer.shadows

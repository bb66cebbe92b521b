-- By how much a mechanism misses a condition.
use Rattle.std.specs.Prelude.{ℤ, pos, ◌≤ℤ◌, ◌<ℤ◌, ◌*ℤ◌, neg_ℤ}
use Rattle.md_num.specs.declared.frac.Frac.{Frac}
use Rattle.md_setting.specs.Setting.{GeneralSetting}
use Rattle.md_setting.specs.Meaning.{marginal_of}
use Rattle.md_mech.specs.declared.mechanism.Mechanism.{Mechanism}
use Rattle.md_mech.specs.Rows.{Condition, dominant_row, bayes_row, ex_post_row, interim_row, deficit_row, profile_row}
use Rattle.md_report.specs.Ratio.{IsRatio}
use Rattle.md_report.specs.Regret.{regret_at, regret_given, missing_at, missing_given, payments_at}

-- what is missed, in units of one over the scale: the regret of a report, the shortfall of an agent, and what is paid less
-- than nothing. It is negative where there is room. The chances of a mechanism always add up.
abbrev pub missed : GeneralSetting → Mechanism → Condition → ℤ
missed s m (dominant_row i t b) = regret_at s m i t b
missed s m (bayes_row i a b) = regret_given s m i a b
missed s m (ex_post_row i t) = missing_at s m i t
missed s m (interim_row i a) = missing_given s m i a
missed s m (deficit_row t) = neg_ℤ (payments_at s m t)
missed s m (profile_row t) = pos 0

-- the denominator, and where a condition is about a type on average, times the weight of the type
abbrev pub scale_of : GeneralSetting → Mechanism → Condition → ℤ
scale_of s m (dominant_row i t b) = m.den
scale_of s m (bayes_row i a b) = m.den *ℤ marginal_of s i a
scale_of s m (ex_post_row i t) = m.den
scale_of s m (interim_row i a) = m.den *ℤ marginal_of s i a
scale_of s m (deficit_row t) = m.den
scale_of s m (profile_row t) = m.den

-- the fraction is what is missed of the condition, at its profile or given its type
abbrev pub IsShortfall : GeneralSetting → Mechanism → Condition → Frac → Type 0
IsShortfall s m c value = IsRatio (missed s m c) (scale_of s m c) value

-- no more is missed of the condition c than of d, and less
abbrev pub MissesAtMost : GeneralSetting → Mechanism → Condition → Condition → Type 0
MissesAtMost s m c d = (missed s m c *ℤ scale_of s m d) ≤ℤ (missed s m d *ℤ scale_of s m c)

abbrev pub MissesLess : GeneralSetting → Mechanism → Condition → Condition → Type 0
MissesLess s m c d = (missed s m c *ℤ scale_of s m d) <ℤ (missed s m d *ℤ scale_of s m c)

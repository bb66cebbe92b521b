-- What a value of the code measures of an agent at a profile, and of all agents.
use Rattle.std.specs.Prelude.{ℕ, ℤ, ◌<◌, List, slice_index}
use Rattle.md_setting.specs.Setting.{GeneralSetting}
use Rattle.md_setting.specs.Meaning.{sizes_of}
use Rattle.md_mech.specs.declared.mechanism.Mechanism.{Mechanism}
use Rattle.md_mech.specs.Mechanism.{pay_of}
use Rattle.md_mech.specs.Utility.{expected_utility}
use Rattle.md_report.specs.declared.amount.Amount.{Amount}
use Rattle.md_report.specs.declared.amount.Amount.TheVariants.{Utility, Payment, Regret, Missing}
use Rattle.md_report.specs.declared.amount.Sum.{Sum}
use Rattle.md_report.specs.declared.amount.Sum.TheVariants.{Payments, Welfare}
use Rattle.md_report.specs.Regret.{regret_at, missing_at, payments_at, welfare_at}

-- of agent i at the profile t, in units of one over the denominator
abbrev pub amount_of : GeneralSetting → Mechanism → ℕ → Amount → List ℕ → ℤ
amount_of s m i Utility t = expected_utility s m i t t
amount_of s m i Payment t = pay_of s m i t
amount_of s m i (Regret b) t = regret_at s m i t b
amount_of s m i Missing t = missing_at s m i t

-- a report is a type of the agent
abbrev pub IsAmount : GeneralSetting → ℕ → Amount → Type 0
IsAmount s i Utility = Unit {0}
IsAmount s i Payment = Unit {0}
IsAmount s i (Regret b) = b < slice_index (sizes_of s) i
IsAmount s i Missing = Unit {0}

-- of all agents
abbrev pub sum_of : GeneralSetting → Mechanism → Sum → List ℕ → ℤ
sum_of s m Payments t = payments_at s m t
sum_of s m Welfare t = welfare_at s m t

-- What the agent that gets least gets of a mechanism on average.
use Rattle.std.specs.Prelude.{◌≡◌, ℕ, ◌<◌, ℤ, ◌≤ℤ◌, ◌*ℤ◌, fold}
use Rattle.std.specs.Int.{int_min}
use Rattle.md_math.specs.Divisors.{IsLeastTerms}
use Rattle.md_math.specs.Lists.{list_to}
use Rattle.md_num.specs.declared.frac.Frac.{Frac}
use Rattle.md_setting.specs.Setting.{GeneralSetting}
use Rattle.md_setting.specs.Meaning.{agent_count, total_of}
use Rattle.md_mech.specs.declared.mechanism.Mechanism.{Mechanism}
use Rattle.md_fair.specs.Mean.{mean_of}

-- the number is at most what each agent gets, and one of the agents gets it
pub record IsLeast (s : GeneralSetting) (m : Mechanism) (least : ℤ) : Type 0 where
  pub at_most : (i : ℕ) → i < agent_count s → least ≤ℤ mean_of s m i
  pub agent : ℕ
  pub inside : agent < agent_count s
  pub reached : least ≡ mean_of s m agent

-- the least number of what agent 0 gets and what each agent gets
abbrev pub least_of : GeneralSetting → Mechanism → ℤ
least_of s m = fold int_min (mean_of s m 0) (list_to (agent_count s) (mean_of s m))

-- there is such a number
pub record HasLeast (s : GeneralSetting) (m : Mechanism) : Type 0 where
  pub least : ℤ
  pub is : IsLeast s m least

-- the fraction is the least over the denominator times the weight of all profiles, in least terms
pub record IsLeastValueOf (s : GeneralSetting) (m : Mechanism) (value : Frac) : Type 0 where
  pub least : ℤ
  pub is : IsLeast s m least
  pub is_value : value.num *ℤ (m.den *ℤ total_of s) ≡ least *ℤ value.den
  pub least_terms : IsLeastTerms value.num value.den

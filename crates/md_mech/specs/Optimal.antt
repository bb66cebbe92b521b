-- Which admissible mechanisms are best, and when there is none or no best one.
use Rattle.std.specs.Prelude.{ℕ, ℤ, pos, ◌≤ℤ◌, ◌+ℤ◌, ◌*ℤ◌, List, length}
use Rattle.md_math.specs.Lists.{list_to, number_at}
use Rattle.md_math.specs.Sums.{sum_to, total_by}
use Rattle.md_space.specs.AllProfiles.{profiles_of}
use Rattle.md_setting.specs.Setting.{GeneralSetting}
use Rattle.md_setting.specs.Meaning.{agent_count, outcome_count, sizes_of, value_of, weight_of}
use Rattle.md_mech.specs.declared.mechanism.Mechanism.{Mechanism}
use Rattle.md_mech.specs.Mechanism.{chance_of, pay_of}
use Rattle.md_mech.specs.Admissible.{IsAdmissible}

-- what the designer gets at the report t, in units of one over the denominator
abbrev pub objective_at : GeneralSetting → Mechanism → List ℕ → ℤ
objective_at s m t =
    sum_to (outcome_count s) (λ o. chance_of s m t o *ℤ value_of s t o)
    +ℤ (s.revenue *ℤ sum_to (agent_count s) (λ i. pay_of s m i t))

-- what the designer gets over all profiles by weight, in units of one over the denominator; the expected
-- objective is this over the denominator times the weight of all profiles
abbrev pub worth_of : GeneralSetting → Mechanism → ℤ
worth_of s m = total_by (λ t. weight_of s t *ℤ objective_at s m t) (profiles_of (sizes_of s))

-- it is admissible, and no admissible mechanism, with any denominator, has a greater objective
pub record IsOptimal (s : GeneralSetting) (m : Mechanism) : Type 0 where
  pub admissible : IsAdmissible s m
  pub best : (other : Mechanism) → IsAdmissible s other → (worth_of s other *ℤ m.den) ≤ℤ (worth_of s m *ℤ other.den)

-- no mechanism is admissible
abbrev pub IsInfeasible : GeneralSetting → Type 0
IsInfeasible s = (m : Mechanism) → ¬ IsAdmissible s m

-- the mechanism with k times the ray, which is listed as payments are, added to its payments
abbrev pub raised : Mechanism → ℕ → List ℤ → Mechanism
raised m k ray = record m { pays = list_to (length m.pays) (λ j. number_at m.pays j +ℤ (pos k *ℤ number_at ray j)) }

-- however often the ray is added, the mechanism stays admissible, and gains at least 1 each time
abbrev pub Grows : GeneralSetting → Mechanism → List ℤ → Type 0
Grows s m ray =
    (k : ℕ) → IsAdmissible s (raised m k ray) × ((worth_of s m +ℤ pos k) ≤ℤ worth_of s (raised m k ray))

-- The conditions of one agent.
use Rattle.std.specs.Prelude.{ℕ, List, [], length}
use Rattle.md_math.specs.Lists.{up_to}
use Rattle.md_setting.specs.declared.kinds.Truth.{Truth}
use Rattle.md_setting.specs.declared.kinds.Truth.TheVariants.{Dominant, Bayes}
use Rattle.md_setting.specs.declared.kinds.Rational.{Rational}
use Rattle.md_setting.specs.declared.kinds.Rational.TheVariants.{None as Free, ExPost, Interim}
use Rattle.md_setting.specs.Setting.{GeneralSetting}
use Rattle.md_setting.specs.Meaning.{agent_count}
use Rattle.md_mech.specs.Rows.{Condition, dominant_rows, bayes_rows, ex_post_rows, interim_rows}
use Rattle.md_report.specs.declared.demand.Demand.{Demand}
use Rattle.md_report.specs.declared.demand.Demand.TheVariants.{Truthful, Willing}

-- that no report is better than the true type
abbrev pub truth_of : Truth → GeneralSetting → ℕ → List Condition
truth_of Dominant s i = dominant_rows s i
truth_of Bayes s i = bayes_rows s i

-- that the agent gets what it has outside
abbrev pub rational_of : Rational → GeneralSetting → ℕ → List Condition
rational_of Free s i = []
rational_of ExPost s i = ex_post_rows s i
rational_of Interim s i = interim_rows s i

-- the one or the other
abbrev pub rows_of : GeneralSetting → Demand → ℕ → List Condition
rows_of s Truthful i = truth_of s.truth s i
rows_of s Willing i = rational_of s.rational s i

-- those of all agents, one agent after another, and the number of the first of them
abbrev pub all_rows : GeneralSetting → Demand → List Condition
all_rows s demand = up_to (agent_count s) (rows_of s demand)

abbrev pub start_of : GeneralSetting → Demand → ℕ
start_of s Truthful = 0
start_of s Willing = length (all_rows s Truthful)

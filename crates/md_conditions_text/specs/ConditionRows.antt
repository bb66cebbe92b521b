-- The records that conditions are written as.
use Rattle.std.specs.Prelude.{ℕ, List, [], ◌∷◌, ◌++◌, map, codes}
use Rattle.md_num.specs.WholeText.{text_of}
use Rattle.md_setting.specs.Setting.{GeneralSetting}
use Rattle.md_mech.specs.RowName.{agent_name, type_name}
use Rattle.md_require.specs.declared.condition.Condition.{Condition}
use Rattle.md_require.specs.declared.condition.Measured.{Measured}
use Rattle.md_require.specs.declared.condition.Measured.TheVariants as measured
use Rattle.md_require.specs.declared.condition.Side.{Side}
use Rattle.md_require.specs.declared.condition.Side.TheVariants.{Least, Most}
use Rattle.md_conditions_text.specs.Kinds.{kind_in, word_of}
use Rattle.md_conditions_text.specs.Names.{name_at, outcome_name}

-- the fields that say what is measured
abbrev pub measure_texts : GeneralSetting → Measured → List (List ℕ)
measure_texts s measured.Revenue = []
measure_texts s measured.Welfare = []
measure_texts s (measured.Utility agent) = agent_name s agent ∷ []
measure_texts s (measured.Chance outcome) = outcome_name s outcome ∷ []
measure_texts s (measured.ChanceAt rank outcome) = name_at s rank ∷ outcome_name s outcome ∷ []
measure_texts s (measured.Payment agent) = agent_name s agent ∷ []
measure_texts s (measured.PaymentAs agent type) = agent_name s agent ∷ type_name s agent type ∷ []

abbrev pub side_text : Side → List ℕ
side_text Least = codes "least"
side_text Most = codes "most"

-- the side on which the measure is to stay, and the fraction
abbrev pub bound_texts : Condition → List (List ℕ)
bound_texts c = side_text c.side ∷ text_of c.num ∷ text_of c.den ∷ []

abbrev pub condition_row : GeneralSetting → Condition → List (List ℕ)
condition_row s c = word_of (kind_in c.measured) ∷ (measure_texts s c.measured ++ bound_texts c)

abbrev pub condition_rows : GeneralSetting → List Condition → List (List (List ℕ))
condition_rows s conditions = map (condition_row s) conditions

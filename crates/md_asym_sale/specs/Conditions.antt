-- The conditions on the interim odds and payments of the pairs of a sale one by one, in the order of the rows of its program.
use Rattle.std.specs.Prelude.{ℕ, ◌<◌, ◌≡◌, ◌≢◌, ◌^◌, List, [], ◌∷◌, ◌++◌, map, slice_get, slice_index, Option, Some, None}
use Rattle.md_setting.specs.Setting.{GeneralSetting}
use Rattle.md_setting.specs.Meaning.{agent_count, sizes_of}
use Rattle.md_mech.specs.declared.condition.Condition.{Condition as Code}
use Rattle.md_mech.specs.declared.condition.Condition.TheVariants.{Dominant, Bayes, ExPost, Interim, Deficit, Profile}
use Rattle.md_mech.specs.Rows.{by_agent, by_type, by_report}
use Rattle.md_asym_sale.specs.declared.condition.SaleCondition.{SaleCondition}
use Rattle.md_asym_sale.specs.declared.condition.SaleCondition.TheVariants.{Truth, Rational, Cut}
use Rattle.md_asym_sale.specs.Values.{pairs_of}

-- that an agent with a type does not gain by telling another one: of a type, of an agent, and all
abbrev pub truths_at : GeneralSetting → ℕ → ℕ → List SaleCondition
truths_at s i a = by_report (slice_index (sizes_of s) i) a (Truth i a)

abbrev pub truths_of : GeneralSetting → ℕ → List SaleCondition
truths_of s i = by_type s i (truths_at s i)

abbrev pub truths : GeneralSetting → List SaleCondition
truths s = by_agent s (truths_of s)

-- that it does not lose by taking part: of an agent, and all
abbrev pub rationals_of : GeneralSetting → ℕ → List SaleCondition
rationals_of s i = by_type s i (λ a. Rational i a ∷ [])

abbrev pub rationals : GeneralSetting → List SaleCondition
rationals s = by_agent s (rationals_of s)

-- the conditions of the agents
abbrev pub own_conditions : GeneralSetting → List SaleCondition
own_conditions s = truths s ++ rationals s

-- all conditions: those of the agents, and for each set of pairs how often the item can go to one of them
abbrev pub conditions_of : GeneralSetting → List ℕ → List SaleCondition
conditions_of s cuts = own_conditions s ++ map Cut cuts

-- the agent, the types and the set of a condition are there
abbrev pub IsInside : GeneralSetting → SaleCondition → Type 0
IsInside s (Truth i a b) = (i < agent_count s) × (a < slice_index (sizes_of s) i) × (b < slice_index (sizes_of s) i) × (b ≢ a)
IsInside s (Rational i a) = (i < agent_count s) × (a < slice_index (sizes_of s) i)
IsInside s (Cut set) = set < 2 ^ pairs_of s

-- the condition of an agent that one of the setting is
abbrev pub agent_condition : Code → Option SaleCondition
agent_condition (Bayes i a b) = Some (Truth i a b)
agent_condition (Interim i a) = Some (Rational i a)
agent_condition (Dominant i r b) = None
agent_condition (ExPost i r) = None
agent_condition (Deficit r) = None
agent_condition (Profile r) = None

-- of the conditions of the agents, the one with this number
pub record IsOwnAt (s : GeneralSetting) (number : ℕ) (condition : SaleCondition) : Type 0 where
  pub is : slice_get (own_conditions s) number ≡ Some condition
  pub inside : IsInside s condition

-- of all conditions, the one with this number
pub record IsAt (s : GeneralSetting) (cuts : List ℕ) (number : ℕ) (condition : SaleCondition) : Type 0 where
  pub is : slice_get (conditions_of s cuts) number ≡ Some condition
  pub inside : IsInside s condition

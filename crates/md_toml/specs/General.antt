-- What a document says of a general setting.
use Rattle.std.specs.Prelude.{ℕ, ℤ, pos, Bool, true, false, List, [], length, replicate, Ok, Err, Option, None, Some, codes, is_some, if◌then◌else◌}
use Rattle.std.specs.Str.{bytes_eq}
use Rattle.toml.specs.Data.{Data, Members, no_members}
use Rattle.md_setting.specs.declared.kinds.Truth.{Truth}
use Rattle.md_setting.specs.declared.kinds.Truth.TheVariants as truth
use Rattle.md_setting.specs.declared.kinds.Rational.{Rational}
use Rattle.md_setting.specs.declared.kinds.Rational.TheVariants as rational
use Rattle.md_setting.specs.Setting.{Agent, GeneralSetting}
use Rattle.md_toml.specs.declared.document.Version.{Version}
use Rattle.md_toml.specs.declared.general.Demands.{Demands}
use Rattle.md_toml.specs.declared.general.Objective.{Objective as Written}
use Rattle.md_toml.specs.declared.key.Key.{Key}
use Rattle.md_toml.specs.declared.key.Key.TheVariants as key
use Rattle.md_toml.specs.declared.refusal.SettingRefusal.TheVariants.{UnknownWord}
use Rattle.md_toml.specs.Known.{has_at, has_known_keys, known_only}
use Rattle.md_toml.specs.Reading.{Reading, ◌>>=◌}
use Rattle.md_toml.specs.Values.{text_in, integer_in, truth_value_in, table_in, list_in, read_each, required, defaulted}

-- the kind of truth that a word stands for
abbrev pub truth_in : Key → Data → Reading Truth
truth_in k value = do
  word ← text_in k value
  if bytes_eq word (codes "dominant") then Ok truth.Dominant
      else (if bytes_eq word (codes "bayes") then Ok truth.Bayes
      else Err (UnknownWord k))

-- the kind of rationality that a word stands for
abbrev pub rational_in : Key → Data → Reading Rational
rational_in k value = do
  word ← text_in k value
  if bytes_eq word (codes "none") then Ok rational.None
      else (if bytes_eq word (codes "ex-post") then Ok rational.ExPost
      else (if bytes_eq word (codes "interim") then Ok rational.Interim
      else Err (UnknownWord k)))

-- what is demanded of a mechanism
abbrev pub demands_of : Members → Reading Demands
demands_of members = do
  truth ← required truth_in key.Truth members
  rational ← required rational_in key.Rational members
  payments ← required truth_value_in key.Payments members
  no_deficit ← defaulted truth_value_in false key.NoDeficit members
  Ok record { truth = truth; rational = rational; payments = payments; no_deficit = no_deficit }

-- what the designer maximises
pub record Objective : Type 0 where
  pub welfare : ℤ
  pub revenue : ℤ
  pub values : List ℤ

-- a list of as many zeros as another list is long
abbrev pub zeros_for : {T : Type 0} → List T → List ℤ
zeros_for list = replicate (length list) (pos 0)

abbrev pub said_objective : Written → Objective
said_objective o = record { welfare = o.welfare; revenue = o.revenue; values = o.values.items }

abbrev pub objective_of : List (List ℕ) → Members → Reading Objective
objective_of outcomes members = do
  welfare ← defaulted integer_in (pos 0) key.ObjectiveWelfare members
  revenue ← defaulted integer_in (pos 0) key.ObjectiveRevenue members
  values ← defaulted (list_in integer_in) (zeros_for outcomes) key.ObjectiveValue members
  Ok record { welfare = welfare; revenue = revenue; values = values }

-- the weights of an agent's types, which are not read beside a joint prior
abbrev pub weights_of : Option (List ℤ) → Members → Reading (List ℤ)
weights_of (Some _) _ = Ok []
weights_of None table = required (list_in integer_in) key.AgentWeights table

-- lists of numbers, one for each outcome
abbrev pub rows_in : Key → Data → Reading (List (List ℤ))
rows_in key value = list_in (list_in integer_in) key value

-- an agent's utilities by its own type, which must stand where there are none that depend on all types
abbrev pub utility_of : Bool → Members → Reading (List (List ℤ))
utility_of true members = defaulted rows_in [] key.AgentUtility members
utility_of false members = required rows_in key.AgentUtility members

-- its utilities where they depend on all types
abbrev pub at_of : Bool → Members → Reading (Option (List (List ℤ)))
at_of true members = required rows_in key.AgentUtilityAt members >>= λ rows. Ok (Some rows)
at_of false _ = Ok None

abbrev pub agent_of : Version → Option (List ℤ) → Members → Reading Agent
agent_of version prior members = do
  name ← required text_in key.AgentName members
  types ← required (list_in text_in) key.AgentTypes members
  weights ← weights_of prior members
  outside ← defaulted (list_in integer_in) (zeros_for types) key.AgentOutside members
  utility ← utility_of (has_at version members) members
  at ← at_of (has_at version members) members
  Ok record { name = name; types = types; weights = weights; outside = outside; utility = utility; at = at }

-- the joint weights, where the key stands
abbrev pub prior_of : Members → Reading (Option (List ℤ))
prior_of members = defaulted (λ k value. list_in integer_in k value >>= λ weights. Ok (Some weights)) None key.Prior members

-- a general setting as its document says it
abbrev pub general_of : Version → Members → Reading GeneralSetting
general_of version members = do
  demands ← demands_of members
  outcomes ← required (list_in text_in) key.Outcomes members
  objective_members ← defaulted table_in no_members key.Objective members
  objective ← objective_of outcomes objective_members
  prior ← prior_of members
  tables ← required (list_in table_in) key.Agent members
  agents ← read_each (agent_of version prior) tables
  _ ← known_only (has_known_keys version members objective_members tables (is_some prior))
  Ok record {
    agents = agents;
    outcomes = outcomes;
    prior = prior;
    values = objective.values;
    welfare = objective.welfare;
    revenue = objective.revenue;
    truth = demands.truth;
    rational = demands.rational;
    payments = demands.payments;
    no_deficit = demands.no_deficit;
  }

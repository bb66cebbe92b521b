-- What a general setting says: its agents with their types, its outcomes, and its numbers.
-- Every list runs over the agents, types, outcomes or profiles in their order of appearance; names are their bytes.
use Rattle.std.specs.Prelude.{ℕ, ℤ, Bool, List, map, Option, option_map, Vec, String, string_bytes}
use Rattle.std.specs.declared.alloc.Global.{Global}
use Rattle.md_setting.specs.declared.kinds.Truth.{Truth}
use Rattle.md_setting.specs.declared.kinds.Rational.{Rational}
use Rattle.md_setting.specs.declared.raw.RawAgent.{RawAgent}
use Rattle.md_setting.specs.declared.raw.RawSetting.{RawSetting}

-- an agent: weights, outside utilities and utilities are listed by type, each list of utilities by outcome; where its utility
-- depends on the types of all agents, it is listed by the rank of the true profile, then by outcome, and there is no list by type
pub record Agent : Type 0 where
  pub name : List ℕ
  pub types : List (List ℕ)
  pub weights : List ℤ
  pub outside : List ℤ
  pub utility : List (List ℤ)
  pub at : Option (List (List ℤ))

-- a general setting: a prior is listed by the rank of a profile, and values by outcome
pub record GeneralSetting : Type 0 where
  pub agents : List Agent
  pub outcomes : List (List ℕ)
  pub prior : Option (List ℤ)
  pub values : List ℤ
  pub welfare : ℤ
  pub revenue : ℤ
  pub truth : Truth
  pub rational : Rational
  pub payments : Bool
  pub no_deficit : Bool

-- the names of some texts
abbrev pub names_of : List (String Global) → List (List ℕ)
names_of texts = map string_bytes texts

-- the numbers of some lists
abbrev pub lists_of : List (Vec ℤ Global) → List (List ℤ)
lists_of rows = map (λ row. row.items) rows

-- what an agent as written says
abbrev pub written_agent : RawAgent → Agent
written_agent a = record {
  name = string_bytes a.name;
  types = names_of a.types.items;
  weights = a.weights.items;
  outside = a.outside.items;
  utility = lists_of a.utility.items;
  at = option_map (λ rows. lists_of rows.items) a.at;
}

-- what a setting as written says
abbrev pub written : RawSetting → GeneralSetting
written raw = record {
  agents = map written_agent raw.agents.items;
  outcomes = names_of raw.outcomes.items;
  prior = option_map (λ weights. weights.items) raw.prior;
  values = raw.values.items;
  welfare = raw.welfare;
  revenue = raw.revenue;
  truth = raw.truth;
  rational = raw.rational;
  payments = raw.payments;
  no_deficit = raw.no_deficit;
}

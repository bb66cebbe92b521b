-- What each type of each agent gets and pays.
use Rattle.std.specs.Prelude.{◌≡◌, ℕ, ◌<◌, List, [], ◌∷◌, map, slice_index}
use Rattle.std.specs.List.{All}
use Rattle.md_setting.specs.Setting.{GeneralSetting}
use Rattle.md_setting.specs.Meaning.{agent_count, sizes_of}
use Rattle.md_mech.specs.declared.mechanism.Mechanism.{Mechanism}
use Rattle.md_mech.specs.Rows.{by_agent, by_type}
use Rattle.md_report.specs.declared.type_numbers.TypeNumbers.{TypeNumbers}
use Rattle.md_report.specs.Averages.{IsUtilityGiven, IsPaymentGiven}

-- an agent and one of its types
pub record TypeOf : Type 0 where
  pub agent : ℕ
  pub kind : ℕ

abbrev pub types_of : GeneralSetting → ℕ → List TypeOf
types_of s i = by_type s i (λ a. record { agent = i; kind = a } ∷ [])

-- the types of each agent, in their order
abbrev pub all_types : GeneralSetting → List TypeOf
all_types s = by_agent s (types_of s)

abbrev pub type_told : TypeNumbers → TypeOf
type_told told = record { agent = told.agent; kind = told.kind }

-- what it gets and pays, given the type
pub record IsToldOf (s : GeneralSetting) (m : Mechanism) (told : TypeNumbers) : Type 0 where
  pub agent_in : told.agent < agent_count s
  pub kind_in : told.kind < slice_index (sizes_of s) told.agent
  pub utility : IsUtilityGiven s m told.agent told.kind told.utility
  pub payment : IsPaymentGiven s m told.agent told.kind told.payment

-- these types are told, one after the other
pub record AreTold (s : GeneralSetting) (m : Mechanism) (types : List TypeOf) (told : List TypeNumbers) : Type 0 where
  pub are : map type_told told ≡ types
  pub each : All (IsToldOf s m) told

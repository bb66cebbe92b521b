-- What is drawn of a profile table of a sale, at a profile of reports.
use Rattle.std.specs.Prelude.{◌≡◌, ℕ, zero, suc, ◌+◌, ◌<◌, ℤ, pos, ◌-ℤ◌, ◌*ℤ◌, List, slice_index, unsigned_abs}
use Rattle.md_math.specs.Lists.{list_to, number_at}
use Rattle.md_math.specs.Sums.{sum_to}
use Rattle.md_space.specs.Profiles.{IsProfile, rank_of}
use Rattle.md_setting.specs.Setting.{GeneralSetting}
use Rattle.md_setting.specs.Meaning.{agent_count, sizes_of, weight_of}
use Rattle.md_border.specs.declared.interim.Interim.{Interim}
use Rattle.md_asym_sale.specs.Pairs.{pair_number}
use Rattle.md_asym_tables.specs.Mechanisms.{mechanism_of}
use Rattle.md_asym_tables.specs.Tables.{mass_at}
use Rattle.md_run.specs.Counting.{HasCountBelow}
use Rattle.md_run.specs.Lottery.{IsDrawnPlace, IsNoPlace}
use Rattle.md_run.specs.OfMasses.{HasChance}
use Rattle.md_run.specs.OfMechanism.{IsDraw}
use Rattle.md_run.specs.declared.drawn.Drawn.{Drawn}

-- the mass of agent i, counted from 0, at the profile t
abbrev pub mass_for : GeneralSetting → List ℤ → List ℕ → ℕ → ℤ
mass_for s y t i = mass_at s y (rank_of (sizes_of s) t) i

-- what there is to give at the profile t: its weight, in units of one over the denominator
abbrev pub cap_for : GeneralSetting → ℤ → List ℕ → ℤ
cap_for s den t = den *ℤ weight_of s t

-- the outcome: 0, where no agent is drawn and the item is kept; i + 1, where agent i is
abbrev pub IsSaleOutcome : GeneralSetting → List ℤ → List ℕ → ℤ → ℕ → Type 0
IsSaleOutcome s y t d1 zero = IsNoPlace (agent_count s) (mass_for s y t) d1
IsSaleOutcome s y t d1 (suc i) = IsDrawnPlace (agent_count s) (mass_for s y t) d1 i

-- what is drawn: who gets the item, and each agent pays what its type pays on average
pub record IsSaleDrawn (s : GeneralSetting) (interim : Interim) (y : List ℤ) (t : List ℕ) (d1 d2 : ℤ) (drawn : Drawn) : Type 0 where
  pub profile : IsProfile (sizes_of s) t
  pub draw : IsDraw (cap_for s interim.den t) d1 d2
  pub outcome : IsSaleOutcome s y t d1 drawn.outcome
  pub pays : drawn.pays ≡ list_to (agent_count s) (λ i. number_at interim.pays (pair_number (sizes_of s) i (slice_index t i)))
  pub den : drawn.den ≡ interim.den

-- Each agent is drawn by as many of the first draws as its mass at the profile has units, and none by as many as are left. So
-- it is the mechanism of the profile table that is drawn, whatever agents pay: agent i gets the item at outcome i + 1 with the
-- chance of its mass, and else it is kept.
pub record IsSaleLottery (s : GeneralSetting) (den : ℤ) (y : List ℤ) (t : List ℕ) : Type 0 where
  pub agent : (i : ℕ) → i < agent_count s → HasCountBelow (unsigned_abs (cap_for s den t)) (λ d. IsDrawnPlace (agent_count s) (mass_for s y t) (pos d) i) (unsigned_abs (mass_for s y t i))
  pub kept : HasCountBelow (unsigned_abs (cap_for s den t)) (λ d. IsNoPlace (agent_count s) (mass_for s y t) (pos d)) (unsigned_abs (cap_for s den t -ℤ sum_to (agent_count s) (mass_for s y t)))
  pub wins : (pays : List ℤ) (i : ℕ) → i < agent_count s → HasChance s (mechanism_of s den y pays) t (i + 1) (mass_for s y t i) (cap_for s den t)
  pub keeps : (pays : List ℤ) → HasChance s (mechanism_of s den y pays) t 0 (cap_for s den t -ℤ sum_to (agent_count s) (mass_for s y t)) (cap_for s den t)

-- at each profile the draws make the lottery that the masses say
abbrev pub AreSaleLotteries : GeneralSetting → ℤ → List ℤ → Type 0
AreSaleLotteries s den y = (t : List ℕ) → IsProfile (sizes_of s) t → IsSaleLottery s den y t

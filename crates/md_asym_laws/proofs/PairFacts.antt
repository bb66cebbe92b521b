-- The pairs of a sale's agents and types by their numbers: what their types weigh, and what they have of a function.
use Rattle.std.proofs.Common.{◌≡◌, ℕ, ◌<◌, ℤ, pos, ◌<ℤ◌, List, ap₂, subst}
use Rattle.std.specs.Prelude.{slice_index}
use Rattle.md_setting.specs.Setting.{GeneralSetting}
use Rattle.md_setting.specs.Meaning.{agent_count, sizes_of, marginal_of}
use Rattle.md_setting.specs.Shaped.{IsShaped}
use Rattle.md_mech.specs.Utility.{weighted_given}
use Rattle.md_mech.proofs.CountLaws.{agents-length}
use Rattle.md_asym_sale.specs.Pairs.{pair_number, agent_of, kind_of}
use Rattle.md_asym_sale.specs.Values.{pairs_of, marginal_at, surplus_at, surplus_of}
use Rattle.md_asym_sale.proofs.PairLaws.{number-below, agent-of, kind-of, pair-in}
use Rattle.md_asym_sale.proofs.SaleLaws.{in-sizes}
use Rattle.md_asym_laws.specs.Averages.{given_at}

-- an agent, and one of its types
pub record IsPairIn (s : GeneralSetting) (i a : ℕ) : Type 0 where
  pub agent : i < agent_count s
  pub kind : a < slice_index (sizes_of s) i

pub number-in : (s : GeneralSetting) (i a : ℕ) → i < agent_count s → a < slice_index (sizes_of s) i → pair_number (sizes_of s) i a < pairs_of s
number-in s i a h l = number-below (sizes_of s) i a (in-sizes s i h) l

pub marginal-at : (s : GeneralSetting) (i a : ℕ) → i < agent_count s → a < slice_index (sizes_of s) i → marginal_at s (pair_number (sizes_of s) i a) ≡ marginal_of s i a
marginal-at s i a h l = ap₂ (marginal_of s) (agent-of (sizes_of s) i a (in-sizes s i h) l) (kind-of (sizes_of s) i a (in-sizes s i h) l)

pub surplus-at : (s : GeneralSetting) (i a : ℕ) → i < agent_count s → a < slice_index (sizes_of s) i → surplus_at s (pair_number (sizes_of s) i a) ≡ surplus_of s i a
surplus-at s i a h l = ap₂ (surplus_of s) (agent-of (sizes_of s) i a (in-sizes s i h) l) (kind-of (sizes_of s) i a (in-sizes s i h) l)

pub given-at : (s : GeneralSetting) (f : ℕ → List ℕ → ℤ) (i a : ℕ) → i < agent_count s → a < slice_index (sizes_of s) i → given_at s f (pair_number (sizes_of s) i a) ≡ weighted_given s i a (f i)
given-at s f i a h l = ap₂ (λ j b. weighted_given s j b (f j)) (agent-of (sizes_of s) i a (in-sizes s i h) l) (kind-of (sizes_of s) i a (in-sizes s i h) l)

-- the agent and the type of a number are there
pub pair-of : (s : GeneralSetting) (p : ℕ) → p < pairs_of s → IsPairIn s (agent_of (sizes_of s) p) (kind_of (sizes_of s) p)
pair-of s p h =
    let (agent, kind) = pair-in (sizes_of s) p h in
    record { agent = subst (λ n. agent_of (sizes_of s) p < n) (agents-length s) agent; kind = kind }

pub marginal-positive : (s : GeneralSetting) (p : ℕ) → IsShaped s → p < pairs_of s → pos 0 <ℤ marginal_at s p
marginal-positive s p shaped h = (let in_it = pair-of s p h in shaped.marginal (agent_of (sizes_of s) p) (kind_of (sizes_of s) p) in_it.agent in_it.kind)

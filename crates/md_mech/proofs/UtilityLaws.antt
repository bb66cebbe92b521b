-- Chances and payments by ranks, and how large an expected value can become.
use Rattle.std.proofs.Common.{◌≡◌, ◌<◌, ◌+◌, ◌*◌, ℕ, ◌*ℤ◌, List, length, sym, ap, ◌∙◌}
use Rattle.std.proofs.lemmas.Int.{to_z-of_z}
use Rattle.std.proofs.lemmas.List.{length-map}
use Rattle.md_math.specs.Lists.{number_at}
use Rattle.md_math.specs.Sizes.{IsWithin}
use Rattle.md_math.specs.Sums.{sum_to}
use Rattle.md_math.proofs.SizeLaws.{AllWithin-number_at, dot-within, sum_to-within}
use Rattle.md_space.specs.Profiles.{profile_count, profile_at}
use Rattle.md_space.proofs.Ranks.{rank_of-profile_at}
use Rattle.md_setting.specs.Setting.{GeneralSetting}
use Rattle.md_setting.specs.Meaning.{agent_count, outcome_count, sizes_of, utility_of}
use Rattle.md_setting.specs.Shaped.{IsShaped}
use Rattle.md_mech.specs.Accepted.{IsAccepted, number_limit}
use Rattle.md_mech.specs.declared.mechanism.Mechanism.{Mechanism}
use Rattle.md_mech.specs.Mechanism.{chance_of, pay_of}

pub chance-at_rank : (s : GeneralSetting) (m : Mechanism) (r o : ℕ) → r < profile_count (sizes_of s)
    → number_at m.chances (r * outcome_count s + o) ≡ chance_of s m (profile_at (sizes_of s) r) o
chance-at_rank s m r o below = ap (λ k. number_at m.chances (k * outcome_count s + o)) (sym (rank_of-profile_at (sizes_of s) r below))

pub payment-at_rank : (s : GeneralSetting) (m : Mechanism) (r i : ℕ) → r < profile_count (sizes_of s)
    → number_at m.pays (r * agent_count s + i) ≡ pay_of s m i (profile_at (sizes_of s) r)
payment-at_rank s m r i below = ap (λ k. number_at m.pays (k * agent_count s + i)) (sym (rank_of-profile_at (sizes_of s) r below))

-- what an agent expects of the first outcomes of a lottery
pub expected-within : (s : GeneralSetting) (m : Mechanism) (i k : ℕ) (t r : List ℕ) → IsAccepted s m → IsShaped s
    → IsWithin (k * (number_limit * 1000000)) (sum_to k (λ o. chance_of s m r o *ℤ utility_of s i t o))
expected-within s m i k t r accepted shaped =
    dot-within k number_limit 1000000 (chance_of s m r) (utility_of s i t)
    (λ o _. AllWithin-number_at number_limit m.chances _ accepted.chance_size) (λ o _. shaped.small.utility i t o)

pub ruleset by_rank = (to_z-of_z, chance-at_rank, payment-at_rank)

-- the number of agents, as a space tells it
pub agents_are : (s : GeneralSetting) (n : ℕ) (sizes : List ℕ) → n ≡ length sizes → sizes ≡ sizes_of s → n ≡ agent_count s
agents_are s n sizes count same = count ∙ ap length same ∙ length-map s.agents (λ agent. length agent.types)

-- what the first agents pay together
pub payments-within : (s : GeneralSetting) (m : Mechanism) (k : ℕ) (t : List ℕ) → IsAccepted s m → IsWithin (k * number_limit) (sum_to k (λ i. pay_of s m i t))
payments-within s m k t accepted = sum_to-within k number_limit (λ i. pay_of s m i t) (λ i _. AllWithin-number_at number_limit m.pays _ accepted.pay_size)

-- What is measured of agents at a profile, and how large it can become.
use Rattle.std.proofs.Common.{ℕ, ◌+◌, ◌*◌, ◌^◌, ◌≤◌, ◌*ℤ◌, List, length, slice_index, arith, mul-le-mul, le_refl, lit≤}
use Rattle.std.proofs.lemmas.Int.{to_z-of_z}
use Rattle.std.proofs.lemmas.List.{length-map}
use Rattle.md_math.specs.Sizes.{IsWithin}
use Rattle.md_math.specs.Sums.{sum_to}
use Rattle.md_math.proofs.SizeLaws.{AllWithin-number_at, IsWithin-wider, IsWithin-sub, IsWithin-*ℤ, dot-within, sum_to-within}
use Rattle.md_setting.specs.Setting.{GeneralSetting}
use Rattle.md_setting.specs.Meaning.{agent_count, outcome_count, outside_of, utility_of}
use Rattle.md_setting.specs.Shaped.{IsShaped}
use Rattle.md_mech.specs.Accepted.{number_limit}
use Rattle.md_mech.specs.declared.mechanism.Mechanism.{Mechanism}
use Rattle.md_mech.specs.Mechanism.{chance_of, pay_of}
use Rattle.md_mech.specs.Utility.{expected_utility}
use Rattle.md_mech.proofs.UtilityLaws.{chance-at_rank, payment-at_rank}
use Rattle.md_mech.proofs.UtilitySizes.{partial_small}
use Rattle.md_report.specs.declared.amount.Amount.{Amount}
use Rattle.md_report.specs.declared.amount.Amount.TheVariants.{Utility, Payment, Regret, Missing}
use Rattle.md_report.specs.declared.amount.Sum.{Sum}
use Rattle.md_report.specs.declared.amount.Sum.TheVariants.{Payments, Welfare}
use Rattle.md_report.specs.Amounts.{amount_of, sum_of}
use Rattle.md_report.specs.Numbers.{AreNumbers}
use Rattle.md_report.specs.Regret.{lottery_at, payments_at, welfare_at}
use Rattle.md_space.specs.Profiles.{replaced}

pub ruleset by_rank = (to_z-of_z, chance-at_rank, payment-at_rank)

pub few_agents : (s : GeneralSetting) → IsShaped s → agent_count s ≤ 6
few_agents s shaped = omega (arith, shaped.listed.space.few_agents, length-map s.agents (λ a. length a.types))

pub pay-within : (s : GeneralSetting) (m : Mechanism) (i : ℕ) (t : List ℕ) → AreNumbers s m → IsWithin (2 ^ 62) (pay_of s m i t)
pay-within s m i t numbers = IsWithin-wider number_limit (2 ^ 62) (pay_of s m i t) (lit≤ tt) (AllWithin-number_at number_limit m.pays _ numbers.pay_size)

-- what an agent expects of the first outcomes of a lottery
pub expected-within : (s : GeneralSetting) (m : Mechanism) (i k : ℕ) (t r : List ℕ) → AreNumbers s m → IsShaped s
    → IsWithin (k * (number_limit * 1000000)) (sum_to k (λ o. chance_of s m r o *ℤ utility_of s i t o))
expected-within s m i k t r numbers shaped =
    dot-within k number_limit 1000000 (chance_of s m r) (utility_of s i t)
    (λ o _. AllWithin-number_at number_limit m.chances _ numbers.chance_size) (λ o _. shaped.small.utility i t o)

-- and of all
pub all-within : (s : GeneralSetting) (m : Mechanism) (i : ℕ) (t r : List ℕ) → AreNumbers s m → IsShaped s
    → IsWithin (2 ^ 86) (sum_to (outcome_count s) (λ o. chance_of s m r o *ℤ utility_of s i t o))
all-within s m i t r numbers shaped = partial_small (outcome_count s) _ shaped.listed.few_outcomes (expected-within s m i (outcome_count s) t r numbers shaped)

pub utility-within : (s : GeneralSetting) (m : Mechanism) (i : ℕ) (t r : List ℕ) → AreNumbers s m → IsShaped s → IsWithin (2 ^ 90) (expected_utility s m i t r)
utility-within s m i t r numbers shaped =
    IsWithin-wider (2 ^ 86 + number_limit) (2 ^ 90) (expected_utility s m i t r) (lit≤ tt)
    (IsWithin-sub (2 ^ 86) number_limit _ _ (all-within s m i t r numbers shaped) (AllWithin-number_at number_limit m.pays _ numbers.pay_size))

pub lottery-within : (s : GeneralSetting) (m : Mechanism) (i : ℕ) (t : List ℕ) → AreNumbers s m → IsShaped s → IsWithin (2 ^ 86) (lottery_at s m i t)
lottery-within s m i t numbers shaped = all-within s m i t t numbers shaped

-- of the first agents
pub welfare-within : (s : GeneralSetting) (m : Mechanism) (k : ℕ) (t : List ℕ) → AreNumbers s m → IsShaped s → k ≤ agent_count s
    → IsWithin (6 * 2 ^ 86) (sum_to k (λ i. lottery_at s m i t))
welfare-within s m k t numbers shaped fits =
    IsWithin-wider (k * 2 ^ 86) (6 * 2 ^ 86) (sum_to k (λ i. lottery_at s m i t)) (mul-le-mul (few_of (few_agents s shaped) fits) (le_refl (2 ^ 86)))
    (sum_to-within k (2 ^ 86) (λ i. lottery_at s m i t) (λ i l. lottery-within s m i t numbers shaped))
  where
    few_of : {n : ℕ} → n ≤ 6 → k ≤ n → k ≤ 6
    few_of few fits = omega (arith, few, fits)

pub paid-within : (s : GeneralSetting) (m : Mechanism) (k : ℕ) (t : List ℕ) → AreNumbers s m → k ≤ 6 → IsWithin (6 * 2 ^ 62) (sum_to k (λ i. pay_of s m i t))
paid-within s m k t numbers few =
    IsWithin-wider (k * 2 ^ 62) (6 * 2 ^ 62) (sum_to k (λ i. pay_of s m i t)) (mul-le-mul few (le_refl (2 ^ 62)))
    (sum_to-within k (2 ^ 62) (λ i. pay_of s m i t) (λ i l. pay-within s m i t numbers))

pub outside-within : (s : GeneralSetting) (m : Mechanism) (i a : ℕ) → AreNumbers s m → IsShaped s → IsWithin (2 ^ 82) (m.den *ℤ outside_of s i a)
outside-within s m i a numbers shaped =
    IsWithin-wider (number_limit * 1000000) (2 ^ 82) (m.den *ℤ outside_of s i a) (lit≤ tt)
    (IsWithin-*ℤ number_limit 1000000 m.den (outside_of s i a) numbers.den_size (shaped.small.outside i a))

pub amount-within : (s : GeneralSetting) (m : Mechanism) (i : ℕ) (measure : Amount) (t : List ℕ) → AreNumbers s m → IsShaped s → IsWithin (2 ^ 91) (amount_of s m i measure t)
amount-within s m i Utility t numbers shaped = IsWithin-wider (2 ^ 90) (2 ^ 91) (expected_utility s m i t t) (lit≤ tt) (utility-within s m i t t numbers shaped)
amount-within s m i Payment t numbers shaped = IsWithin-wider (2 ^ 62) (2 ^ 91) (pay_of s m i t) (lit≤ tt) (pay-within s m i t numbers)
amount-within s m i (Regret b) t numbers shaped =
    IsWithin-wider (2 ^ 90 + 2 ^ 90) (2 ^ 91) (amount_of s m i (Regret b) t) (lit≤ tt)
    (IsWithin-sub (2 ^ 90) (2 ^ 90) (expected_utility s m i t (replaced t i b)) (expected_utility s m i t t) (utility-within s m i t (replaced t i b) numbers shaped) (utility-within s m i t t numbers shaped))
amount-within s m i Missing t numbers shaped =
    IsWithin-wider (2 ^ 82 + 2 ^ 90) (2 ^ 91) (amount_of s m i Missing t) (lit≤ tt)
    (IsWithin-sub (2 ^ 82) (2 ^ 90) (m.den *ℤ outside_of s i (slice_index t i)) (expected_utility s m i t t) (outside-within s m i (slice_index t i) numbers shaped) (utility-within s m i t t numbers shaped))

pub sum-within : (s : GeneralSetting) (m : Mechanism) (measure : Sum) (t : List ℕ) → AreNumbers s m → IsShaped s → IsWithin (2 ^ 94) (sum_of s m measure t)
sum-within s m Payments t numbers shaped =
    IsWithin-wider (6 * 2 ^ 62) (2 ^ 94) (payments_at s m t) (lit≤ tt) (paid-within s m (agent_count s) t numbers (few_agents s shaped))
sum-within s m Welfare t numbers shaped =
    IsWithin-wider (6 * 2 ^ 86) (2 ^ 94) (welfare_at s m t) (lit≤ tt) (welfare-within s m (agent_count s) t numbers shaped (le_refl (agent_count s)))

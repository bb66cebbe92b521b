-- How large an amount of a mechanism and its parts can become.
use Rattle.std.proofs.Common.{ℕ, ◌+◌, ◌*◌, ◌^◌, ◌<◌, ◌≤◌, ℤ, ◌*ℤ◌, arith, unsigned_abs, length, mul-le-mul, le_refl}
use Rattle.std.proofs.lemmas.List.{length-map}
use Rattle.md_math.specs.Sizes.{IsWithin}
use Rattle.md_math.specs.Sums.{sum_to}
use Rattle.md_math.proofs.SizeLaws.{AllWithin-number_at, IsWithin-*ℤ, IsWithin-+ℤ, IsWithin-wider, sum_to-within}
use Rattle.md_space.specs.Profiles.{profile_at, profile_count, rank_of}
use Rattle.md_setting.specs.Setting.{GeneralSetting}
use Rattle.md_setting.specs.Meaning.{agent_count, outcome_count, sizes_of}
use Rattle.md_setting.specs.Shaped.{IsShaped}
use Rattle.md_mech.specs.declared.mechanism.Mechanism.{Mechanism}
use Rattle.md_mech.specs.Accepted.{IsAccepted, number_limit}
use Rattle.md_mech.specs.Mechanism.{chance_of, pay_of}
use Rattle.md_require.specs.Amounts.{Amount}
use Rattle.md_require.specs.Parts.{IsNarrow, chance_part, chances_add, pay_part, pays_add, rank_adds}

-- a sum of at most 16 products of a part and a number of a mechanism, and one more
pub step-fits : (sum part number : ℤ) (k : ℕ) → IsWithin (k * (2 ^ 44 * number_limit)) sum → k ≤ 16 → IsWithin (2 ^ 44) part → IsWithin (2 ^ 62) number
    → unsigned_abs sum + unsigned_abs part * unsigned_abs number < 2 ^ 126
step-fits sum part number k s few p n =
    let more : unsigned_abs part * unsigned_abs number ≤ 2 ^ 44 * 2 ^ 62 = mul-le-mul p.within n.within in
    let before : k * (2 ^ 44 * number_limit) ≤ 16 * (2 ^ 44 * number_limit) = mul-le-mul few (le_refl _) in
    omega (arith, s.within)

-- a sum of at most 16 such products
pub partial-fits : (sum : ℤ) (k : ℕ) → k ≤ 16 → IsWithin (k * (2 ^ 44 * number_limit)) sum → IsWithin (2 ^ 110) sum
partial-fits sum k few s =
    let before : k * (2 ^ 44 * number_limit) ≤ 16 * (2 ^ 44 * number_limit) = mul-le-mul few (le_refl _) in
    record { within = omega (arith, s.within) }

agents-few : (s : GeneralSetting) → IsShaped s → agent_count s ≤ 16
agents-few s shaped = omega (arith, shaped.listed.space.few_agents, length-map s.agents (λ a. length a.types))

module _ (s : GeneralSetting) (m : Mechanism) (scale : ℤ) (amount : Amount) (narrow : IsNarrow s scale amount) (accepted : IsAccepted s m) where
  pub chances-within : (r k : ℕ) → r < profile_count (sizes_of s) → k ≤ outcome_count s
      → IsWithin (k * (2 ^ 44 * number_limit)) (sum_to k (λ o. (scale *ℤ chance_part s amount r o) *ℤ chance_of s m (profile_at (sizes_of s) r) o))
  chances-within r k below few =
      sum_to-within k (2 ^ 44 * number_limit) (λ o. (scale *ℤ chance_part s amount r o) *ℤ chance_of s m (profile_at (sizes_of s) r) o)
      (λ o l. IsWithin-*ℤ (2 ^ 44) number_limit (scale *ℤ chance_part s amount r o) (chance_of s m (profile_at (sizes_of s) r) o)
      (narrow.chances r o below (omega arith)) (AllWithin-number_at number_limit m.chances (rank_of (sizes_of s) (profile_at (sizes_of s) r) * outcome_count s + o) accepted.chance_size))

  pub pays-within : (r k : ℕ) → r < profile_count (sizes_of s) → k ≤ agent_count s
      → IsWithin (k * (2 ^ 44 * number_limit)) (sum_to k (λ i. (scale *ℤ pay_part s amount r i) *ℤ pay_of s m i (profile_at (sizes_of s) r)))
  pays-within r k below few =
      sum_to-within k (2 ^ 44 * number_limit) (λ i. (scale *ℤ pay_part s amount r i) *ℤ pay_of s m i (profile_at (sizes_of s) r))
      (λ i l. IsWithin-*ℤ (2 ^ 44) number_limit (scale *ℤ pay_part s amount r i) (pay_of s m i (profile_at (sizes_of s) r))
      (narrow.pays r i below (omega arith)) (AllWithin-number_at number_limit m.pays (rank_of (sizes_of s) (profile_at (sizes_of s) r) * agent_count s + i) accepted.pay_size))

  rank-within : (r : ℕ) → r < profile_count (sizes_of s) → IsShaped s → IsWithin (2 ^ 111) (rank_adds s m scale amount r)
  rank-within r below shaped =
      IsWithin-wider (2 ^ 110 + 2 ^ 110) (2 ^ 111) (rank_adds s m scale amount r) (omega arith)
      (IsWithin-+ℤ (2 ^ 110) (2 ^ 110) (chances_add s m scale amount r) (pays_add s m scale amount r)
      (partial-fits (chances_add s m scale amount r) (outcome_count s) shaped.listed.few_outcomes (chances-within r (outcome_count s) below (le_refl (outcome_count s))))
      (partial-fits (pays_add s m scale amount r) (agent_count s) (agents-few s shaped) (pays-within r (agent_count s) below (le_refl (agent_count s)))))

  -- the first ranks together
  pub ranks-within : (k : ℕ) → k ≤ profile_count (sizes_of s) → IsShaped s → IsWithin (2 ^ 121) (sum_to k (rank_adds s m scale amount))
  ranks-within k few shaped =
      let ranks : k ≤ 1024 = omega (arith, few, shaped.listed.space.few_profiles) in
      let most : k * 2 ^ 111 ≤ 1024 * 2 ^ 111 = mul-le-mul ranks (le_refl (2 ^ 111)) in
      IsWithin-wider (k * 2 ^ 111) (2 ^ 121) (sum_to k (rank_adds s m scale amount)) (omega (arith, most))
      (sum_to-within k (2 ^ 111) (rank_adds s m scale amount) (λ r l. rank-within r (omega arith) shaped))

-- What the designer gets, added up profile by profile, and how large it can become.
use Rattle.std.proofs.Common.{◌≡◌, ◌<◌, ◌≤◌, ◌+◌, ◌*◌, ◌^◌, ℕ, ℤ, ◌*ℤ◌, arith, unsigned_abs, mul-le-mul, le_refl, length}
use Rattle.std.proofs.lemmas.List.{length-map}
use Rattle.md_math.specs.Sizes.{IsWithin}
use Rattle.md_math.specs.Sums.{sum_to}
use Rattle.md_math.proofs.SizeLaws.{AllWithin-number_at, dot-within, sum_to-within, IsWithin-+ℤ, IsWithin-*ℤ, IsWithin-wider}
use Rattle.md_space.specs.Profiles.{profile_count, profile_at}
use Rattle.md_space.proofs.Ranks.{profile_at-IsProfile}
use Rattle.md_space.proofs.InOrder.{total_by-profiles}
use Rattle.md_setting.specs.Setting.{GeneralSetting}
use Rattle.md_setting.specs.Meaning.{agent_count, outcome_count, sizes_of, weight_of, value_of}
use Rattle.md_setting.specs.Shaped.{IsShaped}
use Rattle.md_mech.specs.Accepted.{IsAccepted, number_limit}
use Rattle.md_mech.specs.declared.mechanism.Mechanism.{Mechanism}
use Rattle.md_mech.specs.Mechanism.{chance_of, pay_of}
use Rattle.md_mech.specs.Optimal.{objective_at, worth_of}
use Rattle.md_mech.proofs.UtilityLaws.{payments-within}

pub worth-by_rank : (s : GeneralSetting) (m : Mechanism) →
    worth_of s m ≡ sum_to (profile_count (sizes_of s)) (λ r. weight_of s (profile_at (sizes_of s) r) *ℤ objective_at s m (profile_at (sizes_of s) r))
worth-by_rank s m = total_by-profiles (sizes_of s) (λ t. weight_of s t *ℤ objective_at s m t)

-- a sum with one product more, whose numbers have limits
pub step_fits : (sum a b : ℤ) (limit x y : ℕ) → IsWithin limit sum → IsWithin x a → IsWithin y b → limit + x * y < 2 ^ 126 →
    unsigned_abs sum + unsigned_abs a * unsigned_abs b < 2 ^ 126
step_fits sum a b limit x y s p q h =
    let part : unsigned_abs a * unsigned_abs b ≤ x * y = mul-le-mul p.within q.within in
    omega (arith, s.within, part, h)

pub step_size : (z sum a b : ℤ) (limit x y wide : ℕ) → unsigned_abs z ≤ unsigned_abs sum + unsigned_abs a * unsigned_abs b
    → IsWithin limit sum → IsWithin x a → IsWithin y b → limit + x * y ≤ wide → IsWithin wide z
step_size z sum a b limit x y wide size s p q h =
    let part : unsigned_abs a * unsigned_abs b ≤ x * y = mul-le-mul p.within q.within in
    record { within = omega (arith, size, s.within, part, h) }

pub lottery-within : (s : GeneralSetting) (m : Mechanism) (r k : ℕ) → IsAccepted s m → IsShaped s → r < profile_count (sizes_of s) → k ≤ outcome_count s →
    IsWithin (2 ^ 90) (sum_to k (λ o. chance_of s m (profile_at (sizes_of s) r) o *ℤ value_of s (profile_at (sizes_of s) r) o))
lottery-within s m r k accepted shaped below fits =
    let t = profile_at (sizes_of s) r in
    let few : k ≤ 16 = omega (arith, fits, shaped.listed.few_outcomes) in
    IsWithin-wider (k * (number_limit * 10000000)) (2 ^ 90) _ (le_of_few k few)
    (dot-within k number_limit 10000000 (chance_of s m t) (value_of s t)
    (λ o _. AllWithin-number_at number_limit m.chances _ accepted.chance_size)
    (λ o l. shaped.value t o (profile_at-IsProfile (sizes_of s) r below) (omega (arith, l, fits))))
  where
    le_of_few : (k : ℕ) → k ≤ 16 → k * (number_limit * 10000000) ≤ 2 ^ 90
    le_of_few k few = omega (arith, mul-le-mul few (le_refl (number_limit * 10000000)))

pub objective-within : (s : GeneralSetting) (m : Mechanism) (r : ℕ) → IsAccepted s m → IsShaped s → r < profile_count (sizes_of s) →
    IsWithin (2 ^ 91) (objective_at s m (profile_at (sizes_of s) r))
objective-within s m r accepted shaped below =
    let t = profile_at (sizes_of s) r in
    let agents : agent_count s ≤ 6 = omega (arith, shaped.listed.space.few_agents, length-map s.agents (λ a. length a.types)) in
    let pays : IsWithin (6 * number_limit) (sum_to (agent_count s) (λ i. pay_of s m i t)) =
    IsWithin-wider (agent_count s * number_limit) (6 * number_limit) _ (mul-le-mul agents (le_refl number_limit)) (payments-within s m (agent_count s) t accepted) in
    IsWithin-wider (2 ^ 90 + 1000 * (6 * number_limit)) (2 ^ 91) _ (omega arith)
    (IsWithin-+ℤ (2 ^ 90) (1000 * (6 * number_limit)) _ _ (lottery-within s m r (outcome_count s) accepted shaped below (le_refl (outcome_count s)))
    (IsWithin-*ℤ 1000 (6 * number_limit) s.revenue (sum_to (agent_count s) (λ i. pay_of s m i t)) shaped.small.revenue pays))

pub worth-within : (s : GeneralSetting) (m : Mechanism) (k : ℕ) → IsAccepted s m → IsShaped s → k ≤ profile_count (sizes_of s) →
    IsWithin (2 ^ 121) (sum_to k (λ r. weight_of s (profile_at (sizes_of s) r) *ℤ objective_at s m (profile_at (sizes_of s) r)))
worth-within s m k accepted shaped fits =
    let few : k ≤ 1024 = omega (arith, fits, shaped.listed.space.few_profiles) in
    IsWithin-wider (k * (1000000 * 2 ^ 91)) (2 ^ 121) _ (omega (arith, mul-le-mul few (le_refl (1000000 * 2 ^ 91))))
    (sum_to-within k (1000000 * 2 ^ 91) (λ r. weight_of s (profile_at (sizes_of s) r) *ℤ objective_at s m (profile_at (sizes_of s) r))
    (λ r l. IsWithin-*ℤ 1000000 (2 ^ 91) (weight_of s (profile_at (sizes_of s) r)) (objective_at s m (profile_at (sizes_of s) r))
    (shaped.weight (profile_at (sizes_of s) r) (profile_at-IsProfile (sizes_of s) r (omega (arith, l, fits)))).within
    (objective-within s m r accepted shaped (omega (arith, l, fits)))))

-- Sums over all profiles as sums over ranks, and how large they can become.
use Rattle.std.proofs.Common.{◌≡◌, ◌<◌, ◌≤◌, ◌+◌, ◌*◌, ◌^◌, ℕ, ◌*ℤ◌, List, slice_index, inl, inr, arith, mul-le-mul, le_refl, refl}
use Rattle.std.specs.Prelude.{◌==◌}
use Rattle.std.proofs.lemmas.Bool.{cases_Bool, eq-eqb}
use Rattle.md_math.specs.Sizes.{IsWithin}
use Rattle.md_math.specs.Sums.{sum_to}
use Rattle.md_math.proofs.SizeLaws.{AllWithin-number_at, IsWithin-wider, IsWithin-zero, IsWithin-sub, IsWithin-*ℤ, sum_to-within}
use Rattle.md_space.specs.Profiles.{profile_count, profile_at, replaced}
use Rattle.md_space.proofs.InOrder.{total_by-profiles}
use Rattle.md_space.proofs.Ranks.{profile_at-IsProfile}
use Rattle.md_setting.specs.Setting.{GeneralSetting}
use Rattle.md_setting.specs.Meaning.{outcome_count, sizes_of, weight_of}
use Rattle.md_setting.specs.Shaped.{IsShaped}
use Rattle.md_mech.specs.Accepted.{IsAccepted, number_limit}
use Rattle.md_mech.specs.declared.mechanism.Mechanism.{Mechanism}
use Rattle.md_mech.specs.Utility.{expected_utility, weighted_given, average_term}
use Rattle.md_mech.proofs.RowLaws.{given-same}
use Rattle.md_mech.proofs.UtilityLaws.{expected-within}
use Rattle.md_mech.proofs.UtilitySizes.{partial_small}

-- an average is a sum over ranks
pub average-by_rank : (s : GeneralSetting) (m : Mechanism) (i a b : ℕ)
    → weighted_given s i a (λ t. expected_utility s m i t (replaced t i b)) ≡ sum_to (profile_count (sizes_of s)) (λ r. average_term s m i a b (profile_at (sizes_of s) r))
average-by_rank s m i a b = total_by-profiles (sizes_of s) (average_term s m i a b)

-- what an agent gets
pub utility-within : (s : GeneralSetting) (m : Mechanism) (i : ℕ) (t r : List ℕ) → IsAccepted s m → IsShaped s → IsWithin (2 ^ 90) (expected_utility s m i t r)
utility-within s m i t r accepted shaped =
    let lottery : IsWithin (2 ^ 86) _ = partial_small (outcome_count s) _ shaped.listed.few_outcomes (expected-within s m i (outcome_count s) t r accepted shaped) in
    IsWithin-wider (2 ^ 86 + number_limit) (2 ^ 90) _ (omega arith)
    (IsWithin-sub (2 ^ 86) number_limit _ _ lottery (AllWithin-number_at number_limit m.pays _ accepted.pay_size))

-- what one profile adds to an average
pub term-within : (s : GeneralSetting) (m : Mechanism) (i a b r : ℕ) → IsAccepted s m → IsShaped s → r < profile_count (sizes_of s)
    → IsWithin (1000000 * 2 ^ 90) (average_term s m i a b (profile_at (sizes_of s) r))
term-within s m i a b r accepted shaped below =
    let t = profile_at (sizes_of s) r in
    let here : IsWithin (1000000 * 2 ^ 90) (weight_of s t *ℤ expected_utility s m i t (replaced t i b)) =
    IsWithin-*ℤ 1000000 (2 ^ 90) (weight_of s t) (expected_utility s m i t (replaced t i b)) (shaped.weight t (profile_at-IsProfile (sizes_of s) r below)).within
    (utility-within s m i t (replaced t i b) accepted shaped) in
    elim (cases_Bool (slice_index t i == a)) [
      | inl same ↦ rw same here
      | inr other ↦ rw other (IsWithin-zero (1000000 * 2 ^ 90))
    ]

-- what the first profiles add to it
pub average-within : (s : GeneralSetting) (m : Mechanism) (i a b k : ℕ) → IsAccepted s m → IsShaped s → k ≤ profile_count (sizes_of s)
    → IsWithin (1024 * (1000000 * 2 ^ 90)) (sum_to k (λ r. average_term s m i a b (profile_at (sizes_of s) r)))
average-within s m i a b k accepted shaped fits =
    IsWithin-wider (k * (1000000 * 2 ^ 90)) (1024 * (1000000 * 2 ^ 90)) _ (mul-le-mul (le_of (shaped.listed.space.few_profiles) fits) (le_refl (1000000 * 2 ^ 90)))
    (sum_to-within k (1000000 * 2 ^ 90) (λ r. average_term s m i a b (profile_at (sizes_of s) r)) (λ r below. term-within s m i a b r accepted shaped (omega (arith, fits, below))))
  where
    le_of : {n : ℕ} → n ≤ 1024 → k ≤ n → k ≤ 1024
    le_of few short = omega (arith, few, short)

-- the average of the truth
pub truth-is : (s : GeneralSetting) (m : Mechanism) (i a : ℕ)
    → weighted_given s i a (λ t. expected_utility s m i t (replaced t i a)) ≡ weighted_given s i a (λ t. expected_utility s m i t t)
truth-is s m i a = given-same s m i a a (eq-eqb a a refl)

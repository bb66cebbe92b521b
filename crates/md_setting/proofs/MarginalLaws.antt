-- The weight of a type, and of all profiles.
use Rattle.std.proofs.Common.{◌≡◌, ℕ, ◌*◌, ◌<◌, ◌≤◌, pos, ◌≤ℤ◌, ◌<ℤ◌, length, inl, inr, arith, mul-le-mul, le_refl}
use Rattle.std.specs.Prelude.{slice_index, ◌==◌}
use Rattle.std.proofs.lemmas.Int.{ints}
use Rattle.std.proofs.lemmas.Bool.{cases_Bool}
use Rattle.std.proofs.lemmas.List.{length-map}
use Rattle.md_math.specs.Sizes.{IsWithin}
use Rattle.md_math.specs.Sums.{sum_to}
use Rattle.md_math.proofs.Order.{chosen-nonneg, chosen-le}
use Rattle.md_math.proofs.SizeLaws.{IsWithin-from_bounds, IsWithin-high, IsWithin-wider, IsWithin-zero, sum_to-within}
use Rattle.md_math.proofs.TotalLaws.{total_by-le, total_by-nonneg}
use Rattle.md_space.specs.AllProfiles.{profiles_of}
use Rattle.md_space.specs.ByType.{where_type}
use Rattle.md_space.specs.Profiles.{profile_count, profile_at}
use Rattle.md_space.proofs.InOrder.{total_by-profiles, All-profiles_of}
use Rattle.md_space.proofs.Ranks.{profile_at-IsProfile}
use Rattle.md_setting.specs.Setting.{GeneralSetting}
use Rattle.md_setting.specs.Meaning.{agent_count, sizes_of, weight_of, total_of, marginal_of}
use Rattle.md_setting.specs.Shaped.{IsShaped}

pub marginal-by_rank : (s : GeneralSetting) (i a : ℕ) → marginal_of s i a ≡ sum_to (profile_count (sizes_of s)) (λ r. where_type i a (weight_of s) (profile_at (sizes_of s) r))
marginal-by_rank s i a = total_by-profiles (sizes_of s) (where_type i a (weight_of s))

-- the weight of a type is at most that of all profiles
pub marginal-at_most : (s : GeneralSetting) (i a : ℕ) → IsShaped s → marginal_of s i a ≤ℤ total_of s
marginal-at_most s i a shaped =
    total_by-le (where_type i a (weight_of s)) (weight_of s) (profiles_of (sizes_of s))
    (λ k d h. chosen-le _ (weight_of s _) (shaped.weight _ (All-profiles_of (sizes_of s) k d h)).nonneg)

pub marginal-small : (s : GeneralSetting) (i a : ℕ) → IsShaped s → IsWithin 1000000 (marginal_of s i a)
marginal-small s i a shaped =
    let above : pos 0 ≤ℤ marginal_of s i a =
    total_by-nonneg (where_type i a (weight_of s)) (profiles_of (sizes_of s)) (λ k d h. chosen-nonneg _ (weight_of s _) (shaped.weight _ (All-profiles_of (sizes_of s) k d h)).nonneg) in
    let below : marginal_of s i a ≤ℤ total_of s = marginal-at_most s i a shaped in
    let high : total_of s ≤ℤ pos 1000000 = IsWithin-high 1000000 (total_of s) shaped.total.within in
    IsWithin-from_bounds 1000000 (marginal_of s i a) (omega (arith, ints, above)) (omega (arith, ints, below, high))

-- what one profile adds to it, and the first ones
pub weight_given-small : (s : GeneralSetting) (i a r : ℕ) → IsShaped s → r < profile_count (sizes_of s) → IsWithin 1000000 (where_type i a (weight_of s) (profile_at (sizes_of s) r))
weight_given-small s i a r shaped below = elim (cases_Bool (slice_index (profile_at (sizes_of s) r) i == a)) [
  | inl same ↦ rw same (shaped.weight (profile_at (sizes_of s) r) (profile_at-IsProfile (sizes_of s) r below)).within
  | inr other ↦ rw other (IsWithin-zero 1000000)
]

pub marginal-within : (s : GeneralSetting) (i a k : ℕ) → IsShaped s → k ≤ profile_count (sizes_of s)
    → IsWithin (1024 * 1000000) (sum_to k (λ r. where_type i a (weight_of s) (profile_at (sizes_of s) r)))
marginal-within s i a k shaped fits =
    let few : k ≤ 1024 = omega (arith, fits, shaped.listed.space.few_profiles) in
    IsWithin-wider (k * 1000000) (1024 * 1000000) _ (mul-le-mul few (le_refl 1000000))
    (sum_to-within k 1000000 (λ r. where_type i a (weight_of s) (profile_at (sizes_of s) r)) (λ r below. weight_given-small s i a r shaped (omega (arith, fits, below))))

-- the weight of all profiles is positive
pub total-positive : (s : GeneralSetting) → IsShaped s → pos 0 <ℤ total_of s
total-positive s shaped =
    let some : 0 < agent_count s = omega (arith, shaped.listed.space.some_agent, length-map s.agents (λ a. length a.types)) in
    let part : pos 0 <ℤ marginal_of s 0 0 = shaped.marginal 0 0 some (shaped.listed.space.some_type 0 0 shaped.listed.space.some_agent) in
    let whole : marginal_of s 0 0 ≤ℤ total_of s = marginal-at_most s 0 0 shaped in
    omega (arith, ints, part, whole)

-- How large the masses of a pair are together.
use Rattle.std.proofs.Common.{◌≡◌, ℕ, ◌+◌, ◌*◌, ◌^◌, ◌<◌, ◌≤◌, ℤ, pos, Bool, true, false, if◌then◌else◌, List, length, arith, mul-le-mul, le_refl}
use Rattle.md_math.specs.Sizes.{IsWithin, AllWithin}
use Rattle.md_math.specs.Sums.{sum_to}
use Rattle.md_math.proofs.SizeLaws.{AllWithin-number_at, IsWithin-wider, IsWithin-zero, sum_to-within}
use Rattle.md_space.specs.Profiles.{profile_count}
use Rattle.md_setting.specs.Setting.{GeneralSetting}
use Rattle.md_setting.specs.Meaning.{agent_count, sizes_of}
use Rattle.md_setting.specs.Shaped.{IsShaped}
use Rattle.md_asym_sale.specs.Pairs.{agent_of}
use Rattle.md_asym_tables.specs.PairNets.{has_at}
use Rattle.md_asym_tables.specs.Tables.{mass_at, mass_where}

pub where-within : (s : GeneralSetting) (y : List ℤ) (p r : ℕ) → AllWithin (2 ^ 82) y → IsWithin (2 ^ 82) (mass_where s y p r)
where-within s y p r small = either (has_at s r p) (mass_at s y r (agent_of (sizes_of s) p)) (AllWithin-number_at (2 ^ 82) y (r * agent_count s + agent_of (sizes_of s) p) small)
  where
    either : (b : Bool) (z : ℤ) → IsWithin (2 ^ 82) z → IsWithin (2 ^ 82) (if b then z else pos 0)
    either true z h = h
    either false z h = IsWithin-zero (2 ^ 82)

pub sums-within : (s : GeneralSetting) (y : List ℤ) (p k : ℕ) → IsShaped s → AllWithin (2 ^ 82) y → k ≤ profile_count (sizes_of s) → IsWithin (2 ^ 92) (sum_to k (mass_where s y p))
sums-within s y p k shaped small l =
    IsWithin-wider (k * 2 ^ 82) (2 ^ 92) _ (of_few (few shaped.listed.space.few_profiles)) (sum_to-within k (2 ^ 82) (mass_where s y p) (λ r b. where-within s y p r small))
  where
    few : profile_count (sizes_of s) ≤ 1024 → k ≤ 1024
    few m = omega (arith, l, m)

    of_few : k ≤ 1024 → k * 2 ^ 82 ≤ 2 ^ 92
    of_few m = (let most : k * 2 ^ 82 ≤ 1024 * 2 ^ 82 = mul-le-mul m (le_refl (2 ^ 82)) in omega (arith, most))

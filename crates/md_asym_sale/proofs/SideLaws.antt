-- Which profiles have some pair in a set, and what they weigh.
use Rattle.std.proofs.Common.{◌≡◌, ℕ, zero, suc, ◌+◌, ◌*◌, ◌<◌, ◌≤◌, ◌^◌, ◌||◌, ℤ, pos, Bool, true, false, if◌then◌else◌, refl, sym, ap, ◌∙◌, subst, arith, add-one, mul-le-mul, le_refl}
use Rattle.md_math.specs.Sizes.{IsWithin}
use Rattle.md_math.specs.Sums.{sum_to}
use Rattle.md_math.proofs.BoundedTests.{true_or_false}
use Rattle.md_math.proofs.SizeLaws.{IsWithin-wider, IsWithin-zero, sum_to-within}
use Rattle.md_space.specs.Profiles.{profile_count, profile_at}
use Rattle.md_space.proofs.Ranks.{profile_at-IsProfile}
use Rattle.md_space.proofs.InOrder.{total_by-profiles}
use Rattle.md_setting.specs.Setting.{GeneralSetting}
use Rattle.md_setting.specs.Meaning.{sizes_of, weight_of}
use Rattle.md_setting.specs.Shaped.{IsShaped}
use Rattle.md_flow.specs.Over.{any_below}
use Rattle.md_asym_sale.specs.Sides.{has_some, right_of}

pub any_below-next : (n : ℕ) (test : ℕ → Bool) → any_below n test ≡ false → test n ≡ false → any_below (n + 1) test ≡ false
any_below-next n test h e = rw add-one (rw (h, e) refl)

-- the weight of a profile with some pair in the set
abbrev pub weight_where : GeneralSetting → ℕ → ℕ → ℤ
weight_where s set r = if has_some s set (profile_at (sizes_of s) r) then weight_of s (profile_at (sizes_of s) r) else pos 0

pub right-by_rank : (s : GeneralSetting) (set : ℕ) → right_of s set ≡ sum_to (profile_count (sizes_of s)) (weight_where s set)
right-by_rank s set = total_by-profiles (sizes_of s) (λ t. if has_some s set t then weight_of s t else pos 0)

weight-within : (s : GeneralSetting) (set r : ℕ) → IsShaped s → r < profile_count (sizes_of s) → IsWithin 1000000 (weight_where s set r)
weight-within s set r shaped h = chosen (has_some s set (profile_at (sizes_of s) r)) (weight_of s (profile_at (sizes_of s) r)) (shaped.weight (profile_at (sizes_of s) r) (profile_at-IsProfile (sizes_of s) r h)).within
  where
    chosen : (b : Bool) (z : ℤ) → IsWithin 1000000 z → IsWithin 1000000 (if b then z else pos 0)
    chosen true z h = h
    chosen false z h = IsWithin-zero 1000000

-- what the first profiles weigh
pub weights-within : (s : GeneralSetting) (set k : ℕ) → IsShaped s → k ≤ profile_count (sizes_of s) → IsWithin (1024 * 1000000) (sum_to k (weight_where s set))
weights-within s set k shaped h =
    let few : k ≤ 1024 = omega (arith, h, shaped.listed.space.few_profiles) in
    let most : k * 1000000 ≤ 1024 * 1000000 = mul-le-mul few (le_refl 1000000) in
    IsWithin-wider (k * 1000000) (1024 * 1000000) (sum_to k (weight_where s set)) most
    (sum_to-within k 1000000 (weight_where s set) (λ j b. weight-within s set j shaped (omega (arith, b, h))))

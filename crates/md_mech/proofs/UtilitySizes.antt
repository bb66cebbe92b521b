-- How large sums of products of a chance and a utility are.
use Rattle.std.proofs.Common.{ℕ, ◌+◌, ◌*◌, ◌^◌, ◌<◌, ◌≤◌, ℤ, arith, unsigned_abs, mul-le-mul, le_refl}
use Rattle.md_math.specs.Sizes.{IsWithin}
use Rattle.md_mech.specs.Accepted.{number_limit}

-- a sum of at most 16 products of a chance and a utility, and one more
pub step_fits : (sum chance utility : ℤ) (k : ℕ) → IsWithin (k * (number_limit * 1000000)) sum → k ≤ 16 → IsWithin (2 ^ 62) chance → IsWithin 1000000 utility
    → unsigned_abs sum + unsigned_abs chance * unsigned_abs utility < 2 ^ 126
step_fits sum chance utility k s few c u =
    let part : unsigned_abs chance * unsigned_abs utility ≤ 2 ^ 62 * 1000000 = mul-le-mul c.within u.within in
    let before : k * (number_limit * 1000000) ≤ 16 * (number_limit * 1000000) = mul-le-mul few (le_refl _) in
    omega (arith, s.within)

-- a sum of at most 16 such products
pub partial_small : (k : ℕ) (sum : ℤ) → k ≤ 16 → IsWithin (k * (number_limit * 1000000)) sum → IsWithin (2 ^ 86) sum
partial_small k sum few s =
    let before : k * (number_limit * 1000000) ≤ 16 * (number_limit * 1000000) = mul-le-mul few (le_refl _) in
    record { within = omega (arith, s.within) }

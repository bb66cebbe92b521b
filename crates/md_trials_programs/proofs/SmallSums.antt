-- Sums of a few numbers that are not too large.
use Rattle.std.proofs.Common.{ℕ, zero, suc, ◌*◌, ◌^◌, ◌<◌, ◌≤◌, ℤ, pos, ◌≤ℤ◌, ◌<ℤ◌, arith}
use Rattle.std.proofs.lemmas.Int.{ints}
use Rattle.md_math.specs.Sums.{sum_to}

sum_le : (n : ℕ) (f : ℕ → ℤ) → ((k : ℕ) → k < n → f k ≤ℤ pos (2 ^ 122)) → sum_to n f ≤ℤ pos (2 ^ 122 * n)
sum_le zero f h = omega (arith, ints)
sum_le (suc n) f h =
    let rest = sum_le n f (λ k b. h k (omega arith)) in
    let last = h n (omega arith) in
    omega (arith, ints, rest, last)

pub small_sum : (n : ℕ) (f : ℕ → ℤ) → n ≤ 12 → ((k : ℕ) → k < n → f k ≤ℤ pos (2 ^ 122)) → sum_to n f <ℤ pos (2 ^ 126)
small_sum n f l h = (let most = sum_le n f h in omega (arith, ints, most, l))

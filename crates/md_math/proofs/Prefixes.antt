-- Sums over the first places of a sum whose terms are not negative.
use Rattle.std.proofs.Common.{◌≡◌, ℕ, ◌+◌, ◌-◌, ◌<◌, ◌≤◌, ℤ, pos, ◌≤ℤ◌, ap, ◌∙◌, arith}
use Rattle.std.specs.Prelude.{◌+ℤ◌}
use Rattle.std.proofs.lemmas.Int.{ints}
use Rattle.md_math.specs.Sums.{sum_to}
use Rattle.md_math.proofs.SumLaws.{sum_to-join, sum_to-nonneg}

pub sum_to-prefix : (n k : ℕ) (f : ℕ → ℤ) → k ≤ n → ((j : ℕ) → j < n → pos 0 ≤ℤ f j) → sum_to k f ≤ℤ sum_to n f
sum_to-prefix n k f h p =
    let e : n ≡ k + (n - k) = omega arith in
    let rest : pos 0 ≤ℤ sum_to (n - k) (λ j. f (k + j)) = sum_to-nonneg (n - k) (λ j. f (k + j)) (λ j l. p (k + j) (omega arith)) in
    let whole : sum_to n f ≡ sum_to k f +ℤ sum_to (n - k) (λ j. f (k + j)) = ap (λ m. sum_to m f) e ∙ sum_to-join k (n - k) f in
    omega (arith, ints, rest, whole)

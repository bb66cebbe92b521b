use Rattle.std.proofs.Common.{◌≡◌, ℕ, ◌<◌, ◌^◌, ◌⊎◌, pos, ◌*ℤ◌, ◌≤ℤ◌, length, unsigned_abs}
use Rattle.md_math.specs.Lists.{number_at}
use Rattle.md_dict.proofs.sizes.greatest_product.Given as goal

abbrev pub invariant-loop-row : goal.invariant-loop-row
invariant-loop-row l =
    (unsigned_abs l.greatest < 2 ^ 126) × (l.least ≤ℤ l.greatest)
    × ((k : ℕ) → k < l.row → (number_at l.shares k *ℤ pos (unsigned_abs (number_at l.sizes k))) ≤ℤ l.greatest)
    × ((l.greatest ≡ l.least) ⊎ ((k : ℕ) × (k < length l.sizes) × (number_at l.shares k *ℤ pos (unsigned_abs (number_at l.sizes k)) ≡ l.greatest)))

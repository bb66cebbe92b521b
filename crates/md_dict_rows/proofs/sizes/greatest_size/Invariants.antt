use Rattle.std.proofs.Common.{◌≡◌, ℕ, ◌<◌, ◌≤◌, ◌^◌, ◌⊎◌, length, unsigned_abs}
use Rattle.md_math.specs.Lists.{number_at}
use Rattle.md_dict_rows.proofs.sizes.greatest_size.Given as goal

abbrev pub invariant-loop-x : goal.invariant-loop-x
invariant-loop-x l =
    ((k : ℕ) → k < l.x-index → unsigned_abs (number_at l.numbers k) ≤ l.greatest)
    × ((l.greatest ≡ 0) ⊎ ((k : ℕ) × (k < length l.numbers) × (unsigned_abs (number_at l.numbers k) ≡ l.greatest)))
    × (l.greatest ≤ 2 ^ 62)

use Rattle.std.proofs.Common.{◌≡◌, ℕ, ◌+◌, ◌*◌, ◌<◌, length}
use Rattle.md_math.specs.Lists.{number_at}
use Rattle.md_dict_rows.specs.LeastRows.{IsRowSize}
use Rattle.md_dict.proofs.rows.row_sizes.Given as goal

abbrev pub invariant-loop-row : goal.invariant-loop-row
invariant-loop-row l =
    (length l.sizes.items ≡ l.row)
    × ((i : ℕ) → i < l.row → IsRowSize l.width (λ s. number_at l.numbers (i * l.width + s)) (number_at l.sizes.items i))

use Rattle.std.proofs.Common.{ℕ, ◌+◌, ◌*◌, ◌<◌}
use Rattle.md_math.specs.Lists.{number_at}
use Rattle.md_math.specs.Sizes.{IsWithin}
use Rattle.md_dict.proofs.first.wide_first.Given as goal

abbrev pub invariant-loop-row : goal.invariant-loop-row
invariant-loop-row l = (r s : ℕ) → r < l.row → s < l.columns + 1 → IsWithin l.limit (number_at l.kept (r * (l.columns + 1) + s))

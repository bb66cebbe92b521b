use Rattle.std.proofs.Common.{◌≡◌, ◌++◌, ◌∷◌, [], codes}
use Rattle.md_math.specs.Lists.{number_at, up_to}
use Rattle.md_parts.specs.Rows.{number_row, row_unless_zero}
use Rattle.md_parts.proofs.multipliers.push_bound.Given as goal

abbrev pub invariant-loop-row : goal.invariant-loop-row
invariant-loop-row l =
    l.to.items ≡ (l.fn.to.items ++ number_row (codes "bound") (l.bound.den ∷ []) ∷ []) ++ up_to l.row (λ r. row_unless_zero r (number_at l.bound.face r ∷ number_at l.bound.main r ∷ []))

-- The first wide entry of each path can be written.
use Rattle.std.proofs.Common.{ℕ, ◌≤◌}
use Rattle.md_lp.specs.Program.{Program}
use Rattle.md_lp.specs.Shape.{IsShaped}
use Rattle.md_lp.specs.declared.wide.Wide.{Wide}
use Rattle.md_simplex.specs.declared.order.Order.{Order}
use Rattle.md_simplex.specs.declared.order.Order.TheVariants.{Forward, Backward}
use Rattle.md_simplex.specs.declared.simplex_error.SimplexError.{SimplexError}
use Rattle.md_simplex.specs.declared.simplex_error.SimplexError.TheVariants.{TooWide, Memory}
use Rattle.md_simplex.specs.Runs.{IsFirstWideOf, IsLeft}
use Rattle.md_simplex.proofs.WideSizes.{wide-sizes}
use Rattle.md_parts.specs.Fitting.{HasFraction}
use Rattle.md_question_solve.specs.Readings.{HasFractions}

wide-fits : (order : Order) (p : Program) (width : ℕ) (wide : Wide) → IsShaped p → width ≤ 62 → IsFirstWideOf order p width wide → HasFraction wide
wide-fits order p width wide shaped few first =
    let sizes = wide-sizes order p width wide.path wide.entry shaped few first in
    record { positive = sizes.positive; num_size = sizes.num_size; den_size = sizes.den_size }

-- those of both paths
pub wides-fit : (p : Program) (width : ℕ) (error : SimplexError) → IsShaped p → width ≤ 62 → IsLeft p width error → HasFractions error
wides-fit p width (TooWide first second) shaped few left = (wide-fits Forward p width first shaped few left.0, wide-fits Backward p width second shaped few left.1)
wides-fit p width Memory shaped few left = tt

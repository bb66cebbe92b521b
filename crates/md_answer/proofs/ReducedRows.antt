-- Multipliers that fit a reduced program are over its rows.
use Rattle.std.proofs.Common.{ℕ, ℤ, List, ◌∙◌}
use Rattle.md_setting.specs.Auction.{SymmetricAuction}
use Rattle.md_lp.specs.Program.{Program}
use Rattle.md_cert.specs.Fitting.{FitsBound, FitsRows}
use Rattle.md_cert.specs.declared.bound.Bound.{Bound}
use Rattle.md_parts.specs.Fitting.{AreMultipliers, IsBoundOver}
use Rattle.md_reduced.specs.ProgramOf.{IsReducedProgram}
use Rattle.md_reduced.proofs.BuiltLaws.{rows-count}
use Rattle.md_answer.specs.ReducedRows.{reduced_rows}

pub bound-fits : (a : SymmetricAuction) (units : ℕ) (cuts : List ℕ) (p : Program) (bound : Bound)
    → IsReducedProgram a units cuts p → FitsBound p bound → IsBoundOver (reduced_rows a cuts) bound
bound-fits a units cuts p bound is h = record { den = h.den; main = numbers bound.main h.main; face = numbers bound.face h.face }
  where
    numbers : (xs : List ℤ) → FitsRows p xs → AreMultipliers (reduced_rows a cuts) xs
    numbers xs f = record { one_each = f.one_each ∙ rows-count a units cuts p is; sizes = f.sizes }

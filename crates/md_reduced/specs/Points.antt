-- The interim odds and payments of a point of the reduced program.
use Rattle.std.specs.Prelude.{ℕ, ℤ, List}
use Rattle.md_math.specs.Lists.{list_to}
use Rattle.md_setting.specs.Auction.{SymmetricAuction, value_count}
use Rattle.md_border.specs.declared.interim.Interim.{Interim}
use Rattle.md_lp.specs.Program.{Program}
use Rattle.md_lp.specs.Point.{Meets}
use Rattle.md_lp.specs.Cuts.{HasSingles}
use Rattle.md_reduced.specs.ProgramOf.{IsReducedProgram}
use Rattle.md_reduced.specs.Sides.{pay_in}

-- the odds of a point, and for each payment its plus part less its minus part, over the point's denominator
abbrev pub interim_in : SymmetricAuction → ℤ → (ℕ → ℤ) → Interim
interim_in a den x = record { den = den; odds = list_to (value_count a) x; pays = list_to (value_count a) (pay_in a x) }

-- the numbers over the denominator are a point that meets a reduced program, of any number of units, with a cut for each
-- value alone
pub record MeetsReduced (a : SymmetricAuction) (den : ℤ) (x : ℕ → ℤ) : Type 0 where
  pub units : ℕ
  pub cuts : List ℕ
  pub program : Program
  pub is_program : IsReducedProgram a units cuts program
  pub singles : HasSingles (value_count a) cuts
  pub meets : Meets program den x

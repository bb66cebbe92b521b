-- When an answer is read off the end of the cut run of several units, and which mechanism it is.
use Rattle.std.specs.Prelude.{◌≡◌, ℕ, List}
use Rattle.md_math.specs.Lists.{number_at}
use Rattle.md_setting.specs.Auction.{SymmetricAuction}
use Rattle.md_mech.specs.declared.mechanism.Mechanism.{Mechanism}
use Rattle.md_reduced.specs.Points.{interim_in}
use Rattle.md_cut_runs.specs.declared.optimum.Optimum.{Optimum}
use Rattle.md_cut_runs.specs.CutRuns.{EndsSettled, IsShownBy}
use Rattle.md_unit_tables.specs.Mechanisms.{unit_mechanism_of}
use Rattle.md_unit_tables.specs.Tables.{table_of}
use Rattle.md_units.specs.declared.units_answer.UnitsAnswer.{UnitsAnswer}
use Rattle.md_cuts.specs.AuctionCuts.{unit_cutting}

-- the mechanism of the masses, in which each bidder pays what the interim payments say
abbrev pub mechanism_in : SymmetricAuction → ℕ → UnitsAnswer → Mechanism
mechanism_in a units answer = unit_mechanism_of a units (table_of answer.interim answer.masses) answer.interim.pays

-- the cuts, and the odds, the payments and the bound of an optimum
pub record TellsUnits (a : SymmetricAuction) (cuts : List ℕ) (optimum : Optimum) (answer : UnitsAnswer) : Type 0 where
  pub same_cuts : answer.cuts ≡ cuts
  pub interim : answer.interim ≡ interim_in a optimum.den (number_at optimum.point)
  pub bound : answer.bound ≡ optimum.bound

-- the cut run of the units ends with these cuts, and this is what is read off its last program
pub record IsSolvedUnits (a : SymmetricAuction) (units width : ℕ) (answer : UnitsAnswer) : Type 0 where
  pub optimum : Optimum
  pub ends : EndsSettled (unit_cutting a units) width answer.cuts optimum
  pub shown : IsShownBy (unit_cutting a units) answer.cuts optimum
  pub tells : TellsUnits a answer.cuts optimum answer

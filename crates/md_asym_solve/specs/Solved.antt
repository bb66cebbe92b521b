-- When an answer is read off the end of the cut run of a sale.
use Rattle.std.specs.Prelude.{◌≡◌, ℕ, List}
use Rattle.md_math.specs.Lists.{number_at}
use Rattle.md_setting.specs.Setting.{GeneralSetting}
use Rattle.md_cut_runs.specs.declared.optimum.Optimum.{Optimum}
use Rattle.md_cut_runs.specs.CutRuns.{EndsSettled, IsShownBy}
use Rattle.md_asym.specs.declared.asym_answer.AsymAnswer.{AsymAnswer}
use Rattle.md_asym.specs.Gains.{odds_in, pays_in}
use Rattle.md_asym_solve.specs.SaleCuts.{sale_cutting}

-- the cuts, and the odds, the payments and the bound of an optimum
pub record TellsSale (s : GeneralSetting) (cuts : List ℕ) (optimum : Optimum) (answer : AsymAnswer) : Type 0 where
  pub same_cuts : answer.cuts ≡ cuts
  pub same_den : answer.interim.den ≡ optimum.den
  pub odds : answer.interim.odds ≡ odds_in s (number_at optimum.point)
  pub pays : answer.interim.pays ≡ pays_in s (number_at optimum.point)
  pub bound : answer.bound ≡ optimum.bound

-- the cut run of the sale ends with these cuts, and this is what is read off its last program
pub record IsSolvedSale (s : GeneralSetting) (width : ℕ) (answer : AsymAnswer) : Type 0 where
  pub optimum : Optimum
  pub ends : EndsSettled (sale_cutting s) width answer.cuts optimum
  pub shown : IsShownBy (sale_cutting s) answer.cuts optimum
  pub tells : TellsSale s answer.cuts optimum answer

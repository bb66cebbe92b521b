-- What is known of an answer about a sale that was read, what it must be to be written, and which mechanism it is.
use Rattle.std.specs.Prelude.{ℕ, List, length}
use Rattle.md_setting.specs.Setting.{GeneralSetting}
use Rattle.md_mech.specs.declared.mechanism.Mechanism.{Mechanism}
use Rattle.md_lp.specs.Cuts.{AreCuts}
use Rattle.md_parts.specs.Fitting.{HasFraction, HasWidePlaces, IsBoundOver, IsFraction}
use Rattle.md_asym_sale.specs.Conditions.{conditions_of}
use Rattle.md_asym_sale.specs.Values.{pairs_of}
use Rattle.md_asym_tables.specs.Mechanisms.{mechanism_of}
use Rattle.md_asym_tables.specs.Tables.{IsProfileTable}
use Rattle.md_asym.specs.Gains.{AreSaleOdds}
use Rattle.md_asym.specs.declared.asym_answer.AsymAnswer.{AsymAnswer}
use Rattle.md_asym.specs.declared.sale_answer.SaleAnswer.{SaleAnswer}
use Rattle.md_asym.specs.declared.sale_answer.SaleAnswer.TheVariants.{Optimal, TooWide}

-- the mechanism of the masses, in which each bidder pays by its type
abbrev pub mechanism_in : GeneralSetting → AsymAnswer → Mechanism
mechanism_in s answer = mechanism_of s answer.interim.den answer.masses answer.interim.pays

-- how many rows the program with some cuts has
abbrev pub sale_rows : GeneralSetting → List ℕ → ℕ
sale_rows s cuts = length (conditions_of s cuts)

-- the lists have the sizes of the sale and of its program with the cuts, and the numbers are in their ranges: at each profile no
-- mass is negative, and all masses together are no more than there is to give
pub record IsAnswerTo (s : GeneralSetting) (answer : AsymAnswer) : Type 0 where
  pub fraction : IsFraction answer.value.num answer.value.den
  pub odds : AreSaleOdds s answer.interim.den answer.interim.odds answer.interim.pays
  pub table : IsProfileTable s answer.interim.den answer.masses
  pub cuts : AreCuts (pairs_of s) answer.cuts
  pub bound : IsBoundOver (sale_rows s answer.cuts) answer.bound

abbrev pub IsSaleAnswer : GeneralSetting → SaleAnswer → Type 0
IsSaleAnswer s (Optimal answer) = IsAnswerTo s answer
IsSaleAnswer s (TooWide cuts first second) = AreCuts (pairs_of s) cuts × HasFraction first × HasFraction second

-- the places that it names are as its types hold them
abbrev pub HasPlaces : SaleAnswer → Type 0
HasPlaces (Optimal answer) = Unit {0}
HasPlaces (TooWide cuts first second) = HasWidePlaces first × HasWidePlaces second

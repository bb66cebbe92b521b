-- What is drawn of an answer about several units of an auction, and why nothing is.
use Rattle.std.specs.Prelude.{◌≡◌, ℕ, ℤ, pos, List}
use Rattle.md_setting.specs.Auction.{SymmetricAuction}
use Rattle.md_answer.specs.declared.answer.Answer.{Answer}
use Rattle.md_run.specs.Drawn.{ByMasses}
use Rattle.md_run.specs.OfMasses.{AreReports}
use Rattle.md_run.specs.OfMechanism.{IsDraw}
use Rattle.md_run.specs.OfUnits.{draws_for, IsUnitsDrawn, IsUnitsLottery}
use Rattle.md_run.specs.Refusals.{IsRefusedBy}
use Rattle.md_run.specs.declared.refusal.DrawRefusal.{DrawRefusal}
use Rattle.md_run.specs.declared.refusal.DrawRefusal.TheVariants.{NoTable}
use Rattle.md_run.specs.declared.units_drawn.UnitsDrawn.{UnitsDrawn}

-- who gets a unit at a profile, by two draws, and what bidders pay
abbrev pub AreUnitsDrawn : SymmetricAuction → Answer → List ℕ → ℤ → ℤ → UnitsDrawn → Type 0
AreUnitsDrawn a answer t d1 d2 drawn = ByMasses ⊥ (λ interim y. IsUnitsDrawn a interim y t d1 d2 drawn) answer

-- the first reason for which nothing is drawn
abbrev pub AreUnitsRefused : SymmetricAuction → Answer → List ℕ → ℤ → ℤ → DrawRefusal → Type 0
AreUnitsRefused a answer t d1 d2 e = ByMasses (e ≡ NoTable) (λ interim y. IsRefusedBy (AreReports a t) (IsDraw (pos (draws_for a y.den t)) d1 d2) e) answer

-- at each profile the draws make the lottery that the answer says of so many units
abbrev pub AreUnitsLotteries : SymmetricAuction → ℕ → Answer → Type 0
AreUnitsLotteries a units answer = ByMasses (Unit {0}) (λ interim y. (t : List ℕ) → AreReports a t → IsUnitsLottery a units y t) answer

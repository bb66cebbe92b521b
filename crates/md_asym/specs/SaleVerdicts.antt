-- The verdict on an answer about a sale: that on its odds and payments, by the conditions of answers that a program with cuts
-- certifies. Places are the pairs of an agent and a type, and the program is that of the sale with the answer's cuts. An answer that
-- is too wide claims nothing that could be checked.
use Rattle.std.specs.Prelude.{◌≡◌, ◌*ℤ◌}
use Rattle.md_math.specs.Divisors.{IsLeastTerms}
use Rattle.md_math.specs.Lists.{number_at}
use Rattle.md_num.specs.declared.frac.Frac.{Frac}
use Rattle.md_setting.specs.Setting.{GeneralSetting}
use Rattle.md_setting.specs.Meaning.{total_of}
use Rattle.md_mech.specs.Optimal.{IsOptimal}
use Rattle.md_mech.specs.Value.{HasValue}
use Rattle.md_question_check.specs.declared.verdict.Verdict.{Verdict}
use Rattle.md_question_check.specs.declared.verdict.Verdict.TheVariants.{Undecided}
use Rattle.md_cut_check.specs.CutClaims.{CutClaim, IsCutVerdict}
use Rattle.md_asym_sale.specs.ProgramOf.{IsSaleProgram}
use Rattle.md_asym_sale.specs.Sides.{demand_at}
use Rattle.md_asym_sale.specs.Values.{pairs_of}
use Rattle.md_asym_tables.specs.Odds.{HasOdds, HasPays}
use Rattle.md_asym_tables.specs.Tables.{mass_of}
use Rattle.md_asym.specs.AnswerTo.{mechanism_in}
use Rattle.md_asym.specs.Gains.{worth_by}
use Rattle.md_asym.specs.declared.asym_answer.AsymAnswer.{AsymAnswer}
use Rattle.md_asym.specs.declared.sale_answer.SaleAnswer.{SaleAnswer}
use Rattle.md_asym.specs.declared.sale_answer.SaleAnswer.TheVariants.{Optimal, TooWide}

-- ---- the value

-- the fraction is what the odds and payments are worth
abbrev pub HasWorth : GeneralSetting → AsymAnswer → Frac → Type 0
HasWorth s answer value = value.num *ℤ (answer.interim.den *ℤ total_of s) ≡ worth_by s answer.interim.den answer.interim.odds answer.interim.pays *ℤ value.den

-- in least terms
pub record IsWorthOf (s : GeneralSetting) (answer : AsymAnswer) (value : Frac) : Type 0 where
  pub has_worth : HasWorth s answer value
  pub least : IsLeastTerms value.num value.den

-- ---- the verdict

abbrev pub sale_claim : GeneralSetting → AsymAnswer → CutClaim
sale_claim s answer = record {
  places = pairs_of s;
  mass = mass_of s answer.masses;
  demand = demand_at s (number_at answer.interim.odds);
  is_program = IsSaleProgram s answer.cuts;
  interim = answer.interim;
  bound = answer.bound;
  value = answer.value;
  has_value = HasWorth s answer;
  is_value = IsWorthOf s answer;
}

abbrev pub IsSaleVerdict : GeneralSetting → SaleAnswer → Verdict → Type 0
IsSaleVerdict s (Optimal answer) verdict = IsCutVerdict (sale_claim s answer) verdict
IsSaleVerdict s (TooWide cuts first second) verdict = verdict ≡ Undecided

abbrev pub ClaimsNothing : SaleAnswer → Type 0
ClaimsNothing (Optimal answer) = ⊥
ClaimsNothing (TooWide cuts first second) = Unit {0}

-- ---- what is claimed

-- The mechanism of the masses and payments is a mechanism of the setting, and optimal: it is admissible, and no admissible mechanism
-- of the setting, of any denominator, with numbers of any size, is worth more. It has exactly the odds and the payments, and the
-- value. Of how the cuts were found it asks nothing.
pub record IsBestSale (s : GeneralSetting) (answer : AsymAnswer) : Type 0 where
  pub optimal : IsOptimal s (mechanism_in s answer)
  pub odds : HasOdds s (mechanism_in s answer) answer.interim.den answer.interim.odds
  pub pays : HasPays s (mechanism_in s answer) answer.interim.den answer.interim.pays
  pub value : HasValue s (mechanism_in s answer) answer.value

abbrev pub ClaimHolds : GeneralSetting → SaleAnswer → Type 0
ClaimHolds s (Optimal answer) = IsBestSale s answer
ClaimHolds s (TooWide cuts first second) = ⊥

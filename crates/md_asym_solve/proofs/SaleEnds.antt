-- What the end of a sale's cut run says of the sale.
use Rattle.std.proofs.Common.{◌≡◌, ℕ, ℤ, to_z, of_z, List, length, refl, ap, ◌∙◌}
use mir.Syntax.{w128}
use Rattle.md_math.specs.Lists.{number_at}
use Rattle.md_math.proofs.Builders.{length-list_to}
use Rattle.md_num.specs.declared.frac.Frac.{Frac}
use Rattle.md_setting.specs.Setting.{GeneralSetting}
use Rattle.md_setting.specs.Shaped.{IsShaped}
use Rattle.md_lp.specs.Cuts.{AreCuts}
use Rattle.md_lp.specs.Program.{Program}
use Rattle.md_cert.specs.Fitting.{FitsBound, FitsRows}
use Rattle.md_cut_runs.specs.declared.optimum.Optimum.{Optimum}
use Rattle.md_cut_runs.specs.CutRuns.{EndsSettled, IsShownBy}
use Rattle.md_parts.specs.Fitting.{AreMultipliers, IsBoundOver, IsFraction}
use Rattle.md_question_check.specs.declared.verdict.Verdict.TheVariants.{Valid}
use Rattle.md_asym_sale.specs.Forms.{pay_in}
use Rattle.md_asym_sale.specs.ProgramOf.{IsSaleProgram}
use Rattle.md_asym_sale.specs.Sale.{IsSale}
use Rattle.md_asym_sale.specs.Values.{pairs_of}
use Rattle.md_asym_sale.proofs.BuiltLaws.{rows-count}
use Rattle.md_asym.specs.AnswerTo.{IsAnswerTo, sale_rows}
use Rattle.md_asym.specs.Gains.{AreSaleOdds, odds_in, pays_in}
use Rattle.md_asym.specs.SaleVerdicts.{HasWorth, IsBestSale, IsSaleVerdict}
use Rattle.md_asym.specs.declared.asym_answer.AsymAnswer.{AsymAnswer}
use Rattle.md_asym.specs.declared.sale_answer.SaleAnswer.TheVariants.{Optimal}
use Rattle.md_asym.proofs.GainLaws.{den-read}
use Rattle.md_asym.proofs.SaleClaims.{best-claim, certified-valid}
use Rattle.md_asym_solve.specs.SaleCuts.{IsRealised, sale_cutting}
use Rattle.md_asym_solve.specs.Solved.{IsSolvedSale, TellsSale}
use Rattle.md_asym_solve.specs.declared.sale.Realised.{Realised}

-- the answer that an end gives
abbrev answer : Frac → List ℕ → Optimum → Realised → AsymAnswer
answer value cuts optimum table = record { value = value; interim = record { den = optimum.den; odds = table.odds; pays = table.pays }; masses = table.masses; cuts = cuts; bound = optimum.bound }

-- what is known of an end's odds and payments
pub are-odds : (s : GeneralSetting) (den : ℤ) (x : ℕ → ℤ) (table : Realised) → IsRealised s den x table → AreSaleOdds s den table.odds table.pays
are-odds s den x table realised = record {
  fits = realised.fits;
  one_pay = ap length realised.pays_are ∙ length-list_to (pairs_of s) (pay_in s x);
  pay_size = realised.pay_size;
}

-- its denominator is read back from its bits
pub same-den : (s : GeneralSetting) (den : ℤ) (x : ℕ → ℤ) (table : Realised) → IsRealised s den x table → to_z w128 (of_z w128 den) ≡ den
same-den s den x table realised = den-read s den table.odds table.pays (are-odds s den x table realised)

module _ (s : GeneralSetting) (width : ℕ) (value : Frac) (cuts : List ℕ) (optimum : Optimum) (table : Realised) (realised : IsRealised s optimum.den (number_at optimum.point) table) where
  pub tells-with : (other : List ℕ) (best : Optimum) → (cuts ≡ other) × (optimum ≡ best) → TellsSale s other best (answer value cuts optimum table)
  tells-with other best same = record {
    same_cuts = same.0;
    same_den = ap (λ (o : Optimum). o.den) same.1;
    odds = realised.odds_are ∙ ap (λ (o : Optimum). odds_in s (number_at o.point)) same.1;
    pays = realised.pays_are ∙ ap (λ (o : Optimum). pays_in s (number_at o.point)) same.1;
    bound = ap (λ (o : Optimum). o.bound) same.1;
  }

  pub solved-with : EndsSettled (sale_cutting s) width cuts optimum → IsShownBy (sale_cutting s) cuts optimum → IsSolvedSale s width (answer value cuts optimum table)
  solved-with ends shown = record { optimum = optimum; ends = ends; shown = shown; tells = tells-with cuts optimum (refl, refl) }

  abbrev told : AsymAnswer
  told = answer value cuts optimum table

  module _ (sale : IsSale s) (shaped : IsShaped s) (fraction : IsFraction value.num value.den) (are : AreCuts (pairs_of s) cuts) (ends : EndsSettled (sale_cutting s) width cuts optimum)
      (shown : IsShownBy (sale_cutting s) cuts optimum) where
    abbrev p : Program
    p = ends.optimum_of.program

    is : IsSaleProgram s cuts p
    is = ends.optimum_of.is_program

    bound-fits : FitsBound p optimum.bound → IsBoundOver (sale_rows s cuts) optimum.bound
    bound-fits h = record { den = h.den; main = numbers optimum.bound.main h.main; face = numbers optimum.bound.face h.face }
      where
        numbers : (xs : List ℤ) → FitsRows p xs → AreMultipliers (sale_rows s cuts) xs
        numbers xs f = record { one_each = f.one_each ∙ rows-count s cuts p is; sizes = f.sizes }

    pub answer-with : IsAnswerTo s told
    answer-with = record {
      fraction = fraction;
      odds = are-odds s optimum.den (number_at optimum.point) table realised;
      table = realised.table;
      cuts = are;
      bound = bound-fits (shown.fits p is).2;
    }

    pub valid-with : HasWorth s told value → IsSaleVerdict s (Optimal told) Valid
    valid-with worth = certified-valid s told sale shaped answer-with p optimum.point is realised.odds_are realised.pays_are (shown.certified p is) realised.implements worth

    pub best-with : HasWorth s told value → IsBestSale s told
    best-with worth = best-claim s told sale shaped answer-with (valid-with worth)

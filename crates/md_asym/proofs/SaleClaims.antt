-- What a verdict on an answer about a sale says, and what it shows.
use Rattle.std.proofs.Common.{◌≡◌, ◌↔◌, ℕ, ◌<◌, ℤ, pos, ◌+ℤ◌, ◌*ℤ◌, ◌≤ℤ◌, ◌<ℤ◌, List, sym, ap, ap₂, ◌∙◌, arith}
use Rattle.std.proofs.lemmas.Int.{ints}
use Rattle.md_math.specs.Lists.{number_at}
use Rattle.md_math.proofs.Builders.{get_or-list_to}
use Rattle.md_math.proofs.Order.{positive-*ℤ}
use Rattle.md_math.proofs.SumLaws.{sum_to-same}
use Rattle.md_num.specs.declared.frac.Frac.{Frac}
use Rattle.md_setting.specs.Setting.{GeneralSetting}
use Rattle.md_setting.specs.Meaning.{total_of}
use Rattle.md_setting.specs.Shaped.{IsShaped}
use Rattle.md_setting.proofs.MarginalLaws.{total-positive}
use Rattle.md_mech.specs.declared.mechanism.Mechanism.{Mechanism}
use Rattle.md_mech.specs.Mechanism.{IsMechanism}
use Rattle.md_lp.specs.Program.{Program}
use Rattle.md_lp.specs.Point.{IsPoint}
use Rattle.md_cert.specs.declared.certificate.Certificate.TheVariants as certificates
use Rattle.md_cert.specs.Certified.{Certified}
use Rattle.md_cert.specs.Claims.{IsOptimalPoint}
use Rattle.md_cert.specs.Fitting.{Fits}
use Rattle.md_cert.proofs.Duality.{optimal-claim}
use Rattle.md_claims.specs.AuctionCertificates.{point_of}
use Rattle.md_question.proofs.OneFraction.{one_fraction}
use Rattle.md_question_check.specs.declared.verdict.Verdict.{Verdict}
use Rattle.md_question_check.specs.declared.verdict.Verdict.TheVariants.{Undecided, Valid}
use Rattle.md_cut_check.specs.CutClaims.{IsCutVerdict, certificate_of}
use Rattle.md_cut_check.specs.Interims.{IsInterimOver}
use Rattle.md_cut_check.proofs.CutLaws.{IsCutClaim, cut-decided, told-valid}
use Rattle.md_cut_check.proofs.CutPoints.{fits-cut, odds-at, pay-at}
use Rattle.md_asym_sale.specs.Forms.{pay_in}
use Rattle.md_asym_sale.specs.ProgramOf.{IsSaleProgram}
use Rattle.md_asym_sale.specs.Sale.{IsSale}
use Rattle.md_asym_sale.specs.Values.{marginal_at, pairs_of, surplus_at}
use Rattle.md_asym_sale.proofs.BuiltLaws.{rows-count}
use Rattle.md_asym_laws.specs.Odds.{HasPairOdds, HasPairPays}
use Rattle.md_asym_laws.specs.Worth.{base_of, worth_in}
use Rattle.md_asym_laws.proofs.CutRunLaws.{one-program}
use Rattle.md_asym_laws.proofs.MechanismWorth.{worth-of_odds, value-of_odds}
use Rattle.md_asym_laws.proofs.OddsLaws.{same-odds, same-pays}
use Rattle.md_asym_laws.proofs.OptimalLaws.{makes-optimal}
use Rattle.md_asym_laws.proofs.SamePoints.{AreSame, same-certified}
use Rattle.md_asym_tables.specs.Odds.{HasOdds, HasPays}
use Rattle.md_asym_tables.specs.Tables.{Implements}
use Rattle.md_asym_tables.proofs.MechanismLaws.{mechanism-of_table, odds-of_table, pays-of_table}
use Rattle.md_asym.specs.AnswerTo.{IsAnswerTo, mechanism_in, sale_rows}
use Rattle.md_asym.specs.Gains.{odds_in, pays_in, worth_by}
use Rattle.md_asym.specs.SaleVerdicts.{ClaimsNothing, HasWorth, IsBestSale, IsSaleVerdict, IsWorthOf, sale_claim}
use Rattle.md_asym.specs.declared.asym_answer.AsymAnswer.{AsymAnswer}
use Rattle.md_asym.specs.declared.sale_answer.SaleAnswer.{SaleAnswer}
use Rattle.md_asym.specs.declared.sale_answer.SaleAnswer.TheVariants.{Optimal, TooWide}

above : (z : ℤ) → pos 1 ≤ℤ z → pos 0 <ℤ z
above z l = omega (arith, ints, l)

-- ---- undecided

pub sale-undecided : (s : GeneralSetting) (answer : SaleAnswer) (v : Verdict) → IsSaleVerdict s answer v → (v ≡ Undecided) ↔ ClaimsNothing answer
sale-undecided s (Optimal answer) v is = (λ e. absurd (cut-decided (sale_claim s answer) v is e), λ n. absurd n)
sale-undecided s (TooWide cuts first second) v is = (λ e. tt, λ n. is)

module _ (s : GeneralSetting) (answer : AsymAnswer) (sale : IsSale s) (shaped : IsShaped s) (h : IsAnswerTo s answer) where
  abbrev den : ℤ
  den = answer.interim.den

  abbrev x : ℕ → ℤ
  x = number_at (point_of answer.interim)

  pub interim-over : IsInterimOver (pairs_of s) answer.interim
  interim-over = record {
    den_positive = h.odds.fits.den_positive;
    den_size = h.odds.fits.den_size;
    one_odds = h.odds.fits.one_each;
    one_pay = h.odds.one_pay;
    odds = h.odds.fits.each;
    pay_size = h.odds.pay_size;
  }

  -- ---- what the verdict goes by

  pub fits-sale : (p : Program) → IsSaleProgram s answer.cuts p → Fits p (certificate_of (sale_claim s answer))
  fits-sale p is = fits-cut (pairs_of s) answer.interim interim-over p (sale_rows s answer.cuts) answer.bound is.columns (sym (rows-count s answer.cuts p is)) h.bound

  pub whole-positive : pos 0 <ℤ (den *ℤ total_of s)
  whole-positive = positive-*ℤ den (total_of s) (above den h.odds.fits.den_positive) (total-positive s shaped)

  one-value : (v w : Frac) → IsWorthOf s answer v → IsWorthOf s answer w → v ≡ w
  one-value v w a b =
      one_fraction (worth_by s den answer.interim.odds answer.interim.pays) (den *ℤ total_of s) v w whole-positive
      (record { same = a.has_worth; least = a.least }) (record { same = b.has_worth; least = b.least })

  pub sale-laws : IsCutClaim (sale_claim s answer)
  sale-laws = record { one_program = one-program s answer.cuts; fits = fits-sale; one_value = one-value }

  -- ---- the odds and payments of the point

  odds-same : (p : ℕ) → p < pairs_of s → number_at answer.interim.odds p ≡ x p
  odds-same p b = sym (odds-at (pairs_of s) answer.interim interim-over p b)

  pays-same : (p : ℕ) → p < pairs_of s → number_at answer.interim.pays p ≡ pay_in s x p
  pays-same p b = sym (pay-at (pairs_of s) answer.interim interim-over p b)

  worth-same : worth_by s den answer.interim.odds answer.interim.pays ≡ worth_in s den x
  worth-same =
      ap (λ z. base_of s *ℤ den +ℤ z)
      (sum_to-same (pairs_of s) _ _ (λ p b. ap₂ (λ o a. marginal_at s p *ℤ (surplus_at s p *ℤ o +ℤ s.revenue *ℤ a)) (odds-same p b) (pays-same p b)))

  -- ---- what is claimed

  pub best-claim : IsCutVerdict (sale_claim s answer) Valid → IsBestSale s answer
  best-claim v = record {
    optimal = makes-optimal s answer.cuts p sale shaped v.1.is_program m den x greatest mechanism pair-odds pair-pays;
    odds = odds;
    pays = pays;
    value = value-of_odds s m den x answer.value (above den h.odds.fits.den_positive) (worth-of_odds s m den x sale shaped mechanism pair-odds pair-pays)
        (v.0.worth ∙ ap (λ z. z *ℤ answer.value.den) worth-same);
  }
    where
      p : Program
      p = v.1.program

      m : Mechanism
      m = mechanism_in s answer

      greatest : IsOptimalPoint p den x
      greatest = optimal-claim p den answer.bound.den x (number_at answer.bound.main) (number_at answer.bound.face) (v.1.holds p v.1.is_program)

      mechanism : IsMechanism s m
      mechanism = mechanism-of_table s den answer.masses answer.interim.pays sale shaped h.odds.fits.den_positive h.table

      exact : Implements s answer.interim.odds answer.masses
      exact = record { exact = λ q b. v.0.add_up.holds q b }

      odds : HasOdds s m den answer.interim.odds
      odds = odds-of_table s den answer.interim.odds answer.masses answer.interim.pays sale exact

      pays : HasPays s m den answer.interim.pays
      pays = pays-of_table s den answer.masses answer.interim.pays

      pair-odds : HasPairOdds s m den x
      pair-odds = same-odds s m den (number_at answer.interim.odds) x odds-same (record { wins = odds.wins })

      pair-pays : HasPairPays s m den (pay_in s x)
      pair-pays = same-pays s m den (number_at answer.interim.pays) (pay_in s x) pays-same (record { paid = pays.paid })

  -- ---- an answer that its point certifies is valid

  pub certified-valid : (p : Program) (point : List ℤ) → IsSaleProgram s answer.cuts p → answer.interim.odds ≡ odds_in s (number_at point) → answer.interim.pays ≡ pays_in s (number_at point)
      → Certified p (certificates.Optimal den point answer.bound) → Implements s answer.interim.odds answer.masses → HasWorth s answer answer.value → IsSaleVerdict s (Optimal answer) Valid
  certified-valid p point is odds pays certified implements worth =
      told-valid (sale_claim s answer) sale-laws p is (record { holds = λ q b. implements.exact q b }) worth
      (same-certified s (number_at point) x same answer.cuts p den is answer.bound.den (number_at answer.bound.main) (number_at answer.bound.face) point-is certified)
    where
      same : AreSame s (number_at point) x
      same = record {
        odds = λ q b. sym (get_or-list_to (pairs_of s) (number_at point) q (pos 0) b) ∙ ap (λ l. number_at l q) (sym odds) ∙ odds-same q b;
        pays = λ q b. sym (get_or-list_to (pairs_of s) (pay_in s (number_at point)) q (pos 0) b) ∙ ap (λ l. number_at l q) (sym pays) ∙ pays-same q b;
      }

      point-is : IsPoint p den x
      point-is = let fits = fits-sale p is in record { positive = fits.0.positive; nonneg = fits.1.nonneg }

-- What an answer in closed form shows that is read back.
use Rattle.std.proofs.Common.{◌≡◌, ℕ, ◌<◌, pos, ◌*ℤ◌, ◌≤ℤ◌, List, Ok, true, sym, subst, arith}
use Rattle.std.specs.Prelude.{slice_index}
use Rattle.std.proofs.lemmas.Int.{ints}
use Rattle.md_math.specs.Lists.{number_at}
use Rattle.md_math.specs.Sums.{sum_to}
use Rattle.md_math.proofs.Order.{nonneg-*ℤ}
use Rattle.md_math.proofs.SumLaws.{sum_to-nonneg}
use Rattle.md_space.specs.Profiles.{IsProfile}
use Rattle.md_setting.specs.ByKind.{IsBidders, IsGeneral}
use Rattle.md_setting.specs.Auction.{SymmetricAuction, value_count}
use Rattle.md_setting.specs.General.{general_of}
use Rattle.md_setting.specs.Meaning.{agent_count, sizes_of}
use Rattle.md_setting.specs.declared.file.SettingFile.{SettingFile}
use Rattle.md_setting.specs.declared.file.SettingFile.TheVariants.{General, Auction, Bidders}
use Rattle.md_setting.proofs.GeneralLaws.{agent_count-general}
use Rattle.md_mech.specs.Mechanism.{pay_of}
use Rattle.md_mech.specs.Value.{IsValueOf}
use Rattle.md_mech.proofs.ByProfileLaws.{pay_of-mechanism_by}
use Rattle.md_lp.proofs.CutLaws.{cuts-fewer}
use Rattle.md_border.specs.declared.interim.Interim.{Interim}
use Rattle.md_border.proofs.MechanismWorth.{has-values}
use Rattle.md_expost.specs.declared.masses.Masses.{Masses}
use Rattle.md_expost.specs.Mechanisms.{all_orders, lottery_of, whole_of}
use Rattle.md_claims.specs.AuctionClaims.{mechanism_in}
use Rattle.md_answer.specs.AuctionAnswers.{auction_answer_of}
use Rattle.md_answer.specs.AuctionAnswerTo.{IsAuctionAnswer}
use Rattle.md_answer.specs.declared.answer.Answer.{Answer}
use Rattle.md_answer.specs.declared.answer.Answer.TheVariants.{Table, Optimal, Infeasible, Unbounded, AuctionOptimal, TooWide}
use Rattle.md_check.specs.AuctionVerdicts.{AuctionClaimHolds, IsAuctionVerdict}
use Rattle.md_question_check.specs.declared.verdict.Verdict.TheVariants.{Valid}
use Rattle.md_iron.specs.ClosedForms.{IsClosedAnswer, IsOneAnswer, IsPaidWithinValue, PaysWithinValue}
use Rattle.md_cli_sell.specs.Ironing.{PrintsClosedForm}
use Rattle.md_check.proofs.OptimalValues.{value-of_each}
use Rattle.md_cli_driver.specs.Reading.{is_auction}

-- an auction is not general
pub not-general : (file : SettingFile) → is_auction file ≡ true → ¬ IsGeneral file
not-general (General s) h = absurd (let e = h in cc)
not-general (Auction a) h = λ general. general
not-general (Bidders a) h = λ general. general

-- and it has no groups of bidders
pub not-bidders : (file : SettingFile) → is_auction file ≡ true → ¬ IsBidders file
not-bidders (General s) h = absurd (let e = h in cc)
not-bidders (Auction a) h = λ bidders. bidders
not-bidders (Bidders a) h = absurd (let e = h in cc)

-- payments by value, none of which is below 0, add to at least 0 at each profile
no-deficit : (a : SymmetricAuction) (interim : Interim) (masses : Masses) → PaysWithinValue a interim → (t : List ℕ) → IsProfile (sizes_of (general_of a)) t
    → pos 0 ≤ℤ sum_to (agent_count (general_of a)) (λ i. pay_of (general_of a) (mechanism_in a interim masses) i t)
no-deficit a interim masses pays t p =
    sum_to-nonneg (agent_count (general_of a)) (λ i. pay_of (general_of a) (mechanism_in a interim masses) i t)
    (λ i b.
    subst (λ z. pos 0 ≤ℤ z)
    (sym (pay_of-mechanism_by (general_of a) (whole_of a masses) (lottery_of a masses) (λ j u. number_at interim.pays (slice_index u j) *ℤ pos (all_orders a)) t i p b))
    (nonneg-*ℤ (number_at interim.pays (slice_index t i)) (pos (all_orders a))
    (pays.nonneg (slice_index t i) ((has-values a t p).value i (subst (λ n. i < n) (agent_count-general a) b))) (above (all_orders a))))
  where
    above : (n : ℕ) → pos 0 ≤ℤ pos n
    above n = omega (arith, ints)

pub prints-closed : (a : SymmetricAuction) (text : List ℕ) (answer : Answer) → IsClosedAnswer a answer → IsOneAnswer a answer → IsPaidWithinValue a answer → IsAuctionAnswer a answer
    → IsAuctionVerdict a answer Valid → AuctionClaimHolds a answer → auction_answer_of a text ≡ Ok answer → PrintsClosedForm a text
prints-closed a text (AuctionOptimal value interim masses cuts bound) closed one pays fits valid claim reads =
    let is_value : IsValueOf (general_of a) (mechanism_in a interim masses) value = record { is_value = claim.1; least = closed.value_is.least } in
    record {
      prints = record {
        value = value;
        interim = interim;
        masses = masses;
        cuts = cuts;
        bound = bound;
        read_back = reads;
        one_item = fits.2;
        rule = claim.0;
        is_value = is_value;
        valid = valid;
        distinct = fits.4;
        few = cuts-fewer (value_count a) cuts fits.4;
      };
      closed = closed;
      one = one;
      same_value = λ m best. value-of_each (general_of a) (mechanism_in a interim masses) m value claim.0.optimal is_value best;
      pays = pays;
      no_deficit = no-deficit a interim masses pays;
    }
prints-closed a text (Table m) closed one pays fits valid claim reads = absurd closed
prints-closed a text (Optimal value m bound) closed one pays fits valid claim reads = absurd closed
prints-closed a text (Infeasible face) closed one pays fits valid claim reads = absurd closed
prints-closed a text (Unbounded m ray) closed one pays fits valid claim reads = absurd closed
prints-closed a text (TooWide cuts first second) closed one pays fits valid claim reads = absurd closed

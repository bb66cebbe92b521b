-- What a printed best rule of a symmetric auction shows, in the words of mechanisms. Its text is read back by the rules for answer files.
use Rattle.std.specs.Prelude.{◌≡◌, ℕ, ◌<◌, ◌^◌, List, length, Ok}
use Rattle.md_num.specs.declared.frac.Frac.{Frac}
use Rattle.md_setting.specs.Auction.{SymmetricAuction, value_count}
use Rattle.md_setting.specs.General.{general_of}
use Rattle.md_lp.specs.Cuts.{AreCuts}
use Rattle.md_mech.specs.Value.{IsValueOf}
use Rattle.md_border.specs.declared.interim.Interim.{Interim}
use Rattle.md_expost.specs.declared.masses.Masses.{Masses}
use Rattle.md_expost.specs.Masses.{AreMasses}
use Rattle.md_cert.specs.declared.bound.Bound.{Bound}
use Rattle.md_claims.specs.AuctionClaims.{IsOptimalRule, mechanism_in}
use Rattle.md_answer.specs.AuctionAnswers.{auction_answer_of}
use Rattle.md_answer.specs.declared.answer.Answer.TheVariants.{AuctionOptimal}
use Rattle.md_question_check.specs.declared.verdict.Verdict.TheVariants.{Valid}
use Rattle.md_check.specs.AuctionVerdicts.{IsAuctionVerdict}

-- A mass table, which gives at most one item at each counts. Its mechanism with the payments is admissible, no admissible
-- mechanism of the auction has a greater objective, whatever its denominator and however it treats the bidders, and it has
-- exactly the odds and payments, and the value; the checker finds the answer valid. No cut comes twice, and they are fewer than
-- the sets of values.
pub record PrintsAuctionOptimal (a : SymmetricAuction) (text : List ℕ) : Type 0 where
  pub value : Frac
  pub interim : Interim
  pub masses : Masses
  pub cuts : List ℕ
  pub bound : Bound
  pub read_back : auction_answer_of a text ≡ Ok (AuctionOptimal value interim masses cuts bound)
  pub one_item : AreMasses a masses
  pub rule : IsOptimalRule a interim masses
  pub is_value : IsValueOf (general_of a) (mechanism_in a interim masses) value
  pub valid : IsAuctionVerdict a (AuctionOptimal value interim masses cuts bound) Valid
  pub distinct : AreCuts (value_count a) cuts
  pub few : length cuts < 2 ^ value_count a

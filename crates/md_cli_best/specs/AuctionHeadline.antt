-- What `solve` prints of an auction, in the words of mechanisms. Each text is read back by the rules for answer files.
use Rattle.std.specs.Prelude.{◌≡◌, ◌⊎◌, ℕ, ◌<◌, ◌^◌, List, length, Ok, Some}
use Rattle.md_setting.specs.Auction.{SymmetricAuction, value_count}
use Rattle.md_lp.specs.Cuts.{AreCuts}
use Rattle.md_lp.specs.declared.wide.Wide.{Wide}
use Rattle.md_cuts.specs.AuctionCuts.{auction_cutting}
use Rattle.md_cut_runs.specs.CutRuns.{EndsSettled, EndsWide}
use Rattle.md_cut_runs.specs.declared.optimum.Optimum.{Optimum}
use Rattle.md_answer.specs.AuctionAnswers.{auction_answer_of}
use Rattle.md_answer.specs.declared.answer.Answer.TheVariants.{TooWide}
use Rattle.md_check.specs.AuctionOptima.{PrintsAuctionOptimal}

-- the cuts of the last program of the auction's cut run, and of its forward path and of its backward one the pivots to the
-- first wide basis and the first wide entry of that; no cut comes twice, and they are fewer than the sets of values
pub record PrintsAuctionTooWide (a : SymmetricAuction) (width : ℕ) (text : List ℕ) : Type 0 where
  pub cuts : List ℕ
  pub first : Wide
  pub second : Wide
  pub read_back : auction_answer_of a text ≡ Ok (TooWide cuts first (Some second))
  pub ends : EndsWide (auction_cutting a) width cuts first second
  pub distinct : AreCuts (value_count a) cuts
  pub few : length cuts < 2 ^ value_count a

-- What is printed with a status, and which status it is: 12 where the cut run ends with a program that has no taken path, and
-- 0 where it ends with odds at which no set of values is over. Each auction has an optimal mechanism, so that no other comes.
pub record IsAuctionHeadline (a : SymmetricAuction) (width status : ℕ) (text : List ℕ) : Type 0 where
  pub optimal : status ≡ 0 → PrintsAuctionOptimal a text
  pub too_wide : status ≡ 12 → PrintsAuctionTooWide a width text
  pub one_of : (status ≡ 0) ⊎ (status ≡ 12)
  pub settled : (cuts : List ℕ) (optimum : Optimum) → EndsSettled (auction_cutting a) width cuts optimum → status ≡ 0
  pub wide : (cuts : List ℕ) (first second : Wide) → EndsWide (auction_cutting a) width cuts first second → status ≡ 12

-- What `threshold` says of an auction of several units: the best auction of them in which only winners pay.
use Rattle.std.specs.Prelude.{◌≡◌, ◌==◌, ◌<◌, ℕ, pos, ◌*ℤ◌, ◌≤ℤ◌, List, [], map, All, slice_index, if◌then◌else◌}
use Rattle.md_math.specs.Lists.{number_at}
use Rattle.md_math.specs.Sums.{sum_to}
use Rattle.md_space.specs.Profiles.{IsProfile}
use Rattle.md_setting.specs.Auction.{SymmetricAuction}
use Rattle.md_setting.specs.AuctionShaped.{IsAuction}
use Rattle.md_setting.specs.ByKind.{WhereAuction}
use Rattle.md_setting.specs.General.{general_of}
use Rattle.md_setting.specs.Meaning.{sizes_of}
use Rattle.md_setting.specs.declared.file.SettingFile.{SettingFile}
use Rattle.md_iron_values.specs.Pools.{Pools}
use Rattle.md_iron_pools.specs.ByRule.{IsAuctionByRule}
use Rattle.md_iron_pools.specs.Pooling.{pools_of}
use Rattle.md_threshold_laws.specs.Rule.{wins_at}
use Rattle.md_threshold.specs.Awards.{won_by_rule, paid_by_rule}
use Rattle.md_threshold.specs.PriceLists.{IsCasePrice, all_cases, case_of}
use Rattle.md_threshold.specs.Thresholds.{IsThreshold}
use Rattle.md_threshold.specs.declared.price.Price.{Price}
use Rattle.md_threshold.specs.declared.threshold.Threshold.{Threshold}
use Rattle.md_cli_driver.specs.Saying.{Saying}
use Rattle.md_cli_sell.specs.ThresholdTexts.{text_of_threshold}

-- at a profile of reports: who never wins pays nothing, who does pays at most its value as often as it wins, and at no draw more bidders
-- win than there are units
pub record PayWhereTheyWin (a : SymmetricAuction) (units : ℕ) (pools : Pools) (t : List ℕ) : Type 0 where
  pub losers : (i : ℕ) → i < a.bidders → won_by_rule a units pools t i ≡ pos 0 → paid_by_rule a units pools t i ≡ pos 0
  pub from : (i : ℕ) → i < a.bidders → pos 0 ≤ℤ paid_by_rule a units pools t i
  pub most : (i : ℕ) → i < a.bidders → paid_by_rule a units pools t i ≤ℤ (number_at a.values (slice_index t i) *ℤ won_by_rule a units pools t i)
  pub enough : (draw : ℕ) → sum_to a.bidders (λ i. if wins_at units pools t draw i then pos 1 else pos 0) ≤ℤ pos units

-- Another auction of as many bidders with the same values in the same pools has the same rule, however many units are sold: at each profile
-- each bidder wins as often and pays as much. (Who wins at a draw is said by the pools and the reports alone.)
pub record IsRuleOfPools (a : SymmetricAuction) (pools : Pools) : Type 0 where
  pub same : (other : SymmetricAuction) (units : ℕ) (t : List ℕ) (i : ℕ) → IsAuction other → IsAuctionByRule other pools → other.values ≡ a.values → other.bidders ≡ a.bidders
      → IsProfile (sizes_of (general_of a)) t → IsProfile (sizes_of (general_of other)) t → i < a.bidders
      → (won_by_rule other units pools t i ≡ won_by_rule a units pools t i) × (paid_by_rule other units pools t i ≡ paid_by_rule a units pools t i)

-- one unit has a price in each case, and what is listed is what its winner pays there; several units have none
pub record ArePrices (a : SymmetricAuction) (units : ℕ) (pools : Pools) (prices : List Price) : Type 0 where
  pub cases : map case_of prices ≡ (if units == 1 then all_cases a pools else [])
  pub right : All (IsCasePrice a pools) prices

-- The pools are those that the rule of ironing names. Their auction is truthful and rational whatever the others report, no mechanism
-- of the units that is so on average is better, and it has the told value, revenue and welfare. Only winners pay in it, and its pools
-- alone say what bidders win and pay. The text tells it with its prices.
pub record IsThresholdSaying (a : SymmetricAuction) (units : ℕ) (saying : Saying) : Type 0 where
  pub threshold : Threshold
  pub is_threshold : IsThreshold a units threshold
  pub winners_pay : (t : List ℕ) → IsProfile (sizes_of (general_of a)) t → PayWhereTheyWin a units (pools_of threshold.pools) t
  pub rule_of_pools : IsRuleOfPools a (pools_of threshold.pools)
  pub prices : List Price
  pub are_prices : ArePrices a units (pools_of threshold.pools) prices
  pub status : saying.status ≡ 0
  pub text : saying.text ≡ text_of_threshold a units threshold prices

abbrev pub IsThresholding : ℕ → SettingFile → Saying → Type 0
IsThresholding units file saying = WhereAuction (λ a. IsThresholdSaying a units saying) file

-- the status of what is answered of an auction
abbrev pub IsThresholdStatus : ℕ → Type 0
IsThresholdStatus status = status ≡ 0

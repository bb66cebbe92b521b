-- What a threshold auction is.
use Rattle.std.specs.Prelude.{ℕ}
use Rattle.md_setting.specs.Auction.{SymmetricAuction}
use Rattle.md_mech.specs.declared.mechanism.Mechanism.{Mechanism}
use Rattle.md_mech.specs.Mechanism.{IsMechanism}
use Rattle.md_mech.specs.Optimal.{IsOptimal}
use Rattle.md_mech.specs.Rationality.{IsExPostRational}
use Rattle.md_mech.specs.Truth.{IsDominantTruth}
use Rattle.md_mech.specs.Value.{IsValueOf}
use Rattle.md_report.specs.Averages.{IsRevenue, IsWelfare}
use Rattle.md_winners.specs.Setting.{units_of}
use Rattle.md_iron_pools.specs.ByRule.{IsAuctionByRule}
use Rattle.md_iron_pools.specs.Pooling.{IsPooling, pools_of}
use Rattle.md_threshold_laws.specs.Mechanisms.{threshold_mechanism}
use Rattle.md_threshold.specs.declared.threshold.Threshold.{Threshold}

-- the mechanism of its pools
abbrev pub mechanism_in : SymmetricAuction → ℕ → Threshold → Mechanism
mechanism_in a units threshold = threshold_mechanism a units (pools_of threshold.pools)

-- The pools are those that the rule of ironing names. The mechanism is truthful and rational whatever the others report; of all
-- mechanisms that are so on average it is the best; and it has the told value, and over all profiles the told revenue and welfare.
pub record IsThreshold (a : SymmetricAuction) (units : ℕ) (threshold : Threshold) : Type 0 where
  pub pooling : IsPooling a threshold.pools
  pub by_rule : IsAuctionByRule a (pools_of threshold.pools)
  pub mechanism : IsMechanism (units_of a units) (mechanism_in a units threshold)
  pub optimal : IsOptimal (units_of a units) (mechanism_in a units threshold)
  pub dominant : IsDominantTruth (units_of a units) (mechanism_in a units threshold)
  pub ex_post : IsExPostRational (units_of a units) (mechanism_in a units threshold)
  pub value : IsValueOf (units_of a units) (mechanism_in a units threshold) threshold.value
  pub revenue : IsRevenue (units_of a units) (mechanism_in a units threshold) threshold.revenue
  pub welfare : IsWelfare (units_of a units) (mechanism_in a units threshold) threshold.welfare

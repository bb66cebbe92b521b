-- The threshold rule as a mechanism of the sale of several units.
use Rattle.std.specs.Prelude.{ℕ, pos, ℤ, List}
use Rattle.md_setting.specs.Auction.{SymmetricAuction}
use Rattle.md_mech.specs.declared.mechanism.Mechanism.{Mechanism}
use Rattle.md_mech.specs.ByProfiles.{mechanism_by}
use Rattle.md_winners.specs.Sets.{set_at}
use Rattle.md_winners.specs.Setting.{units_of}
use Rattle.md_iron_values.specs.Pools.{Pools}
use Rattle.md_threshold_laws.specs.Rule.{draw_count, payment, wins_at}
use Rattle.md_threshold_laws.specs.Lotteries.{draws_of}

-- at how many draws each set of bidders wins
abbrev pub set_draws : SymmetricAuction → ℕ → Pools → List ℕ → ℕ → ℤ
set_draws a units pools t o = pos (draws_of a.bidders draw_count (wins_at units pools t) (set_at a.bidders units o))

-- each draw is as likely; numbers are over the number of draws
abbrev pub threshold_mechanism : SymmetricAuction → ℕ → Pools → Mechanism
threshold_mechanism a units pools = mechanism_by (units_of a units) (pos draw_count) (set_draws a units pools) (payment a units pools)

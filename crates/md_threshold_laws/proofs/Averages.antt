-- Averages of the threshold rule over the bidders and over the values of the others.
use Rattle.std.specs.Prelude.{ℕ, ℤ, pos, ◌*ℤ◌, List, slice_index}
use Rattle.md_setting.specs.Auction.{SymmetricAuction}
use Rattle.md_reduced.specs.Averages.{mean, times_of}
use Rattle.md_iron_values.specs.Pools.{Pools}
use Rattle.md_threshold_laws.specs.Rule.{draw_count, chance}

-- at how many draws bidder i wins at a profile
abbrev pub chance_at : ℕ → Pools → ℕ → List ℕ → ℤ
chance_at units pools i t = pos (chance units pools t (slice_index t i))

-- how often a bidder with a value wins on average over the values of the others and over the bidders, and the denominator of that
abbrev pub average_odds : SymmetricAuction → ℕ → Pools → ℕ → ℤ
average_odds a units pools v = mean a (chance_at units pools) v

abbrev pub average_den : SymmetricAuction → ℤ
average_den a = pos (times_of a) *ℤ pos draw_count

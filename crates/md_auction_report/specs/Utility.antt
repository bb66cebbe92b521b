-- What a bidder of an auction has by interim odds and payments, what it gains by telling another value, and what it gets less
-- than nothing.
use Rattle.std.specs.Prelude.{ℕ, ℤ, ◌-ℤ◌, ◌*ℤ◌, neg_ℤ}
use Rattle.md_math.specs.Lists.{number_at}
use Rattle.md_setting.specs.Auction.{SymmetricAuction}
use Rattle.md_border.specs.declared.interim.Interim.{Interim}

-- All of these are in units of one over the denominator.

-- what a bidder with the value v has where it tells the value w: its value as often as it wins, less what it pays
abbrev pub utility_at : SymmetricAuction → Interim → ℕ → ℕ → ℤ
utility_at a interim v w = (number_at a.values v *ℤ number_at interim.odds w) -ℤ number_at interim.pays w

-- the regret of the value w at the value v: what the bidder gets more by telling it than by telling its own
abbrev pub regret_at : SymmetricAuction → Interim → ℕ → ℕ → ℤ
regret_at a interim v w = utility_at a interim v w -ℤ utility_at a interim v v

-- the shortfall of the value v: what the bidder gets less than nothing, which it has where it stays away
abbrev pub missing_at : SymmetricAuction → Interim → ℕ → ℤ
missing_at a interim v = neg_ℤ (utility_at a interim v v)

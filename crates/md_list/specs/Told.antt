-- What is told of a list of bids on average, and where: the sums over all profiles are in range.
use Rattle.std.specs.Prelude.{◌≡◌, ℕ, ◌/◌, ◌*◌, ◌^◌, nat_le, Bool, ℤ, unsigned_abs, ◌*ℤ◌, List, map}
use Rattle.md_math.specs.Divisors.{IsLeastTerms}
use Rattle.md_num.specs.declared.frac.Frac.{Frac}
use Rattle.md_setting.specs.Grouped.{Group, GroupedAuction}
use Rattle.md_setting.specs.GroupedRefusals.{divisor_of}
use Rattle.md_setting.specs.Meaning.{total_of}
use Rattle.md_mech.specs.Value.{IsValueOf}
use Rattle.md_bidders.specs.Setting.{all_units, setting_of}
use Rattle.md_list.specs.Averages.{revenue_in}
use Rattle.md_list.specs.Best.{welfare_in}
use Rattle.md_list.specs.Closed.{all_profiles}
use Rattle.md_list.specs.Mechanisms.{list_mechanism}
use Rattle.md_list.specs.Ranks.{Rank}
use Rattle.md_list.specs.declared.ranked.Averages.{Averages}

-- ---- weights in least terms

-- the auction whose weights are, in each group, divided by their greatest common divisor
abbrev pub divided_group : Group → Group
divided_group group = record group { weights = map (λ w. w / divisor_of group.weights) group.weights }

abbrev pub divided : GroupedAuction → GroupedAuction
divided a = record a { groups = map divided_group a.groups }

-- The sums over all profiles are in range: the amounts of all slots times the weight of all profiles, by weights in least terms, are at
-- most 10^28.
abbrev pub has_averages : GroupedAuction → Bool
has_averages a = nat_le (unsigned_abs (all_units a *ℤ all_profiles (divided a))) (10 ^ 28)

-- ---- averages

-- a sum over all profiles by weight, of the rule of a list, as a fraction of the weight of all profiles, in least terms
pub record IsAverage (a : GroupedAuction) (total : ℤ) (average : Frac) : Type 0 where
  pub is_average : average.num *ℤ total_of (setting_of a) ≡ total *ℤ average.den
  pub least : IsLeastTerms average.num average.den

-- value, revenue and welfare are those of the rule of the list, whose denominator is 1
pub record AreAverages (a : GroupedAuction) (ranks : List Rank) (averages : Averages) : Type 0 where
  pub value : IsValueOf (setting_of a) (list_mechanism a ranks) averages.value
  pub revenue : IsAverage a (revenue_in (setting_of a) (list_mechanism a ranks)) averages.revenue
  pub welfare : IsAverage a (welfare_in (setting_of a) (list_mechanism a ranks)) averages.welfare

-- The general setting that an auction means where several units of the item are sold, and each bidder wants one.
use Rattle.std.specs.Prelude.{ℕ, zero, suc, ◌-◌, ℤ, pos, ◌*ℤ◌, true, false, Bool, List, [], ◌∷◌, map, None, if◌then◌else◌}
use Rattle.md_setting.specs.declared.kinds.Truth.TheVariants.{Bayes}
use Rattle.md_setting.specs.declared.kinds.Rational.TheVariants.{Interim}
use Rattle.md_setting.specs.Setting.{Agent, GeneralSetting}
use Rattle.md_setting.specs.Auction.{SymmetricAuction}
use Rattle.md_setting.specs.General.{bidder_of}
use Rattle.md_winners.specs.Sets.{holds, size, sets_of}

-- a bidder's utility of each set of winners: its value where the set holds it
abbrev pub winner_utilities : List (List Bool) → ℕ → ℤ → List ℤ
winner_utilities sets i value = map (λ set. if holds set i then value else pos 0) sets

-- bidder i, counted from 0, as an agent: it has the types and weights that it has in the sale of one item
abbrev pub winner_of : SymmetricAuction → ℕ → ℕ → Agent
winner_of a units i = record (bidder_of a i) { utility = map (winner_utilities (sets_of a.bidders units) i) a.values }

-- so many bidders, the first of which is number i
abbrev pub winners_from : SymmetricAuction → ℕ → ℕ → ℕ → List Agent
winners_from a units i zero = []
winners_from a units i (suc n) = winner_of a units i ∷ winners_from a units (suc i) n

-- a set of bidders by name: a digit for each of them, 1 where it is in the set
abbrev pub set_name : List Bool → List ℕ
set_name set = map (λ inside. if inside then 49 else 48) set

-- what a set of winners is worth to the designer, without what the bidders have: each unit that is left is kept
abbrev pub kept_value : SymmetricAuction → ℕ → List Bool → ℤ
kept_value a units set = a.keep *ℤ pos (units - size set)

-- the general setting of an auction of so many units: its outcomes are the sets of at most so many bidders, each of whom gets a
-- unit, and the other units are kept; bidders are truthful and take part on average, and pay
unfoldable pub units_of : SymmetricAuction → ℕ → GeneralSetting
units_of a units = record {
  agents = winners_from a units 0 a.bidders;
  outcomes = map set_name (sets_of a.bidders units);
  prior = None;
  values = map (kept_value a units) (sets_of a.bidders units);
  welfare = a.welfare;
  revenue = a.revenue;
  truth = Bayes;
  rational = Interim;
  payments = true;
  no_deficit = false;
}

-- The general setting that an auction with groups of bidders means, with any number of profiles and of outcomes.
use Rattle.std.specs.Prelude.{ℕ, ◌+◌, ℤ, pos, ◌+ℤ◌, ◌-ℤ◌, ◌*ℤ◌, true, false, List, [], ◌∷◌, ◌++◌, map, length, None, codes, replicate}
use Rattle.md_math.specs.Lists.{list_to}
use Rattle.md_math.specs.Sums.{sum_to, total_by}
use Rattle.md_num.specs.WholeText.{text_of}
use Rattle.md_setting.specs.declared.kinds.Truth.TheVariants.{Bayes}
use Rattle.md_setting.specs.declared.kinds.Rational.TheVariants.{Interim}
use Rattle.md_setting.specs.Setting.{Agent, GeneralSetting}
use Rattle.md_setting.specs.Grouped.{GroupedAuction, bidder_count, group_with}
use Rattle.md_bidders.specs.Assignments.{assignments, amount_in}

-- a bidder's utility of each way to give slots: its value for each unit that it gets
abbrev pub bidder_utilities : GroupedAuction → ℕ → ℤ → List ℤ
bidder_utilities a i value = map (λ way. value *ℤ pos (amount_in a way i)) (assignments a)

-- bidder i, counted from 0, as an agent: its types are its values
abbrev pub bidder_of : GroupedAuction → ℕ → Agent
bidder_of a i = record {
  name = text_of (pos (i + 1));
  types = map text_of (group_with a i).values;
  weights = map pos (group_with a i).weights;
  outside = replicate (length (group_with a i).values) (pos 0);
  utility = map (bidder_utilities a i) (group_with a i).values;
  at = None;
}

-- the units of all slots together
abbrev pub all_units : GroupedAuction → ℤ
all_units a = total_by pos a.slots

-- what a way to give slots is worth to the designer, without what it is worth to bidders: what it has of each unit that a bidder
-- gets, and of each that nobody gets
abbrev pub own_worth : GroupedAuction → List ℕ → ℤ
own_worth a way =
    sum_to (bidder_count a) (λ i. (group_with a i).worth *ℤ pos (amount_in a way i))
    +ℤ a.keep *ℤ (all_units a -ℤ sum_to (bidder_count a) (λ i. pos (amount_in a way i)))

-- a way by name: the slot of each bidder, and an underscore behind it
abbrev pub way_name : List ℕ → List ℕ
way_name [] = []
way_name (slot ∷ others) = text_of (pos slot) ++ codes "_" ++ way_name others

-- The general setting of an auction with groups: its outcomes are the ways to give slots to bidders; bidders are truthful and take part
-- on average, and pay.
unfoldable pub setting_of : GroupedAuction → GeneralSetting
setting_of a = record {
  agents = list_to (bidder_count a) (bidder_of a);
  outcomes = map way_name (assignments a);
  prior = None;
  values = map (own_worth a) (assignments a);
  welfare = a.welfare;
  revenue = a.revenue;
  truth = Bayes;
  rational = Interim;
  payments = true;
  no_deficit = false;
}

-- The general setting that an auction means, with any number of profiles.
use Rattle.std.specs.Prelude.{ℕ, zero, suc, ◌+◌, ℤ, pos, true, false, List, [], ◌∷◌, map, None, codes, replicate, if◌then◌else◌, ◌==◌}
use Rattle.md_math.specs.Lists.{list_to}
use Rattle.md_num.specs.WholeText.{text_of}
use Rattle.md_setting.specs.declared.kinds.Truth.TheVariants.{Bayes}
use Rattle.md_setting.specs.declared.kinds.Rational.TheVariants.{Interim}
use Rattle.md_setting.specs.Setting.{Agent, GeneralSetting}
use Rattle.md_setting.specs.Auction.{SymmetricAuction, value_count}

-- a bidder's utility of an outcome: its value where the outcome is its own, which gives it the item
abbrev pub bidder_utilities : ℕ → ℕ → ℤ → List ℤ
bidder_utilities outcomes own value = list_to outcomes (λ o. if o == own then value else pos 0)

-- bidder i, counted from 0, as an agent: its types are the values, and its own outcome is number i + 1
abbrev pub bidder_of : SymmetricAuction → ℕ → Agent
bidder_of a i = record {
  name = text_of (pos (i + 1));
  types = map text_of a.values;
  weights = map pos a.weights;
  outside = replicate (value_count a) (pos 0);
  utility = map (bidder_utilities (a.bidders + 1) (i + 1)) a.values;
  at = None;
}

-- so many bidders, the first of which is number i
abbrev pub bidders_from : SymmetricAuction → ℕ → ℕ → List Agent
bidders_from a i zero = []
bidders_from a i (suc n) = bidder_of a i ∷ bidders_from a (suc i) n

-- the general setting of an auction: the item is kept or goes to one of the bidders, who are truthful and take part on
-- average, and pay
unfoldable pub general_of : SymmetricAuction → GeneralSetting
general_of a = record {
  agents = bidders_from a 0 a.bidders;
  outcomes = codes "keep" ∷ list_to a.bidders (λ i. text_of (pos (i + 1)));
  prior = None;
  values = a.keep ∷ replicate a.bidders (pos 0);
  welfare = a.welfare;
  revenue = a.revenue;
  truth = Bayes;
  rational = Interim;
  payments = true;
  no_deficit = false;
}

-- The conditions on the interim odds and payments of an auction one by one, in the order of the rows of its reduced program.
use Rattle.std.specs.Prelude.{ℕ, ◌<◌, ◌≡◌, ◌≢◌, ◌^◌, List, ◌++◌, map, slice_get, Some}
use Rattle.md_math.specs.Lists.{list_to, up_to}
use Rattle.md_mech.specs.Rows.{by_report}
use Rattle.md_reduced.specs.declared.condition.ReducedCondition.{ReducedCondition}
use Rattle.md_reduced.specs.declared.condition.ReducedCondition.TheVariants.{Truth, Rational, Cut}

-- that a bidder with a value does not gain by telling another one, for each other value
abbrev pub truths_at : ℕ → ℕ → List ReducedCondition
truths_at kinds kind = by_report kinds kind (Truth kind)

-- the same for each value
abbrev pub truths : ℕ → List ReducedCondition
truths kinds = up_to kinds (truths_at kinds)

-- that a bidder does not lose by taking part, for each value
abbrev pub rationals : ℕ → List ReducedCondition
rationals kinds = list_to kinds Rational

-- all conditions: on truth, on taking part, and for each set how often an item can go to a bidder with one of its values
abbrev pub conditions_of : ℕ → List ℕ → List ReducedCondition
conditions_of kinds cuts = truths kinds ++ (rationals kinds ++ map Cut cuts)

-- the values and the set of a condition are there
abbrev pub IsInside : ℕ → ReducedCondition → Type 0
IsInside kinds (Truth kind other) = (kind < kinds) × (other < kinds) × (other ≢ kind)
IsInside kinds (Rational kind) = kind < kinds
IsInside kinds (Cut set) = set < 2 ^ kinds

-- of some conditions, the one with this number
pub record IsAt (kinds : ℕ) (conditions : List ReducedCondition) (number : ℕ) (condition : ReducedCondition) : Type 0 where
  pub is : slice_get conditions number ≡ Some condition
  pub inside : IsInside kinds condition

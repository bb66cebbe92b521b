-- The two sides of each condition on interim odds and payments, and the cost, at numbers for the columns of the reduced
-- program: first the odds, then the plus parts of the payments, then their minus parts, each by value.
use Rattle.std.specs.Prelude.{ℕ, ◌+◌, ◌*◌, ℤ, pos, ◌+ℤ◌, ◌-ℤ◌, ◌*ℤ◌, neg_ℤ, slice_index, if◌then◌else◌}
use Rattle.md_math.specs.Lists.{number_at}
use Rattle.md_math.specs.Sets.{member}
use Rattle.md_math.specs.Sums.{sum_to}
use Rattle.md_setting.specs.Auction.{SymmetricAuction, value_count}
use Rattle.md_border.specs.Odds.{weight_given}
use Rattle.md_border.specs.Sides.{right_by_counts}
use Rattle.md_border.specs.Worth.{surplus_of}
use Rattle.md_reduced.specs.declared.condition.ReducedCondition.{ReducedCondition}
use Rattle.md_reduced.specs.declared.condition.ReducedCondition.TheVariants.{Truth, Rational, Cut}

-- what a bidder that tells a value pays
abbrev pub pay_in : SymmetricAuction → (ℕ → ℤ) → ℕ → ℤ
pay_in a x v = x (value_count a + v) -ℤ x (2 * value_count a + v)

-- what a bidder with the value v has where it tells the value w
abbrev pub utility_in : SymmetricAuction → (ℕ → ℤ) → ℕ → ℕ → ℤ
utility_in a x v w = number_at a.values v *ℤ x w -ℤ pay_in a x w

-- how often all bidders together ask for an item with a value in the set, by weight
abbrev pub demands_of : SymmetricAuction → (ℕ → ℤ) → ℕ → ℤ
demands_of a x set =
    sum_to (value_count a) (λ v. if member set v then pos (a.bidders * weight_given a v) *ℤ x v else pos 0)

-- the side that is to be at most the other one
abbrev pub left_side : SymmetricAuction → ReducedCondition → (ℕ → ℤ) → ℤ
left_side a (Truth v w) x = utility_in a x v w -ℤ utility_in a x v v
left_side a (Rational v) x = neg_ℤ (utility_in a x v v)
left_side a (Cut set) x = demands_of a x set

-- the other one, for so many units of an item
abbrev pub right_side : SymmetricAuction → ℕ → ReducedCondition → ℤ
right_side a units (Truth v w) = pos 0
right_side a units (Rational v) = pos 0
right_side a units (Cut set) = right_by_counts a units set

-- what a bidder adds to the designer's objective over all its values, by their weights
abbrev pub cost_of : SymmetricAuction → (ℕ → ℤ) → ℤ
cost_of a x =
    sum_to (value_count a) (λ v. pos (slice_index a.weights v) *ℤ (surplus_of a v *ℤ x v +ℤ a.revenue *ℤ pay_in a x v))

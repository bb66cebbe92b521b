-- Averages over the bidders of an auction. What bidders win and pay are any functions of the bidder, counted from 0, and of the
-- profile, so that one item, several units and other sales have the same averages.
use Rattle.std.specs.Prelude.{ℕ, ◌+◌, ◌-◌, ◌*◌, ◌^◌, ◌<◌, suc, ℤ, pos, negsuc, ◌-ℤ◌, ◌*ℤ◌, ◌≤ℤ◌, List, slice_index, nat_lt, ◌==◌, if◌then◌else◌}
use Rattle.md_math.specs.Lists.{number_at}
use Rattle.md_math.specs.Products.{product_to}
use Rattle.md_space.specs.Profiles.{IsProfile, replaced}
use Rattle.md_setting.specs.Meaning.{sizes_of}
use Rattle.md_setting.specs.Auction.{SymmetricAuction, value_count, total_weight}
use Rattle.md_setting.specs.General.{general_of}
use Rattle.md_mech.specs.declared.mechanism.Mechanism.{Mechanism}
use Rattle.md_mech.specs.Mechanism.{chance_of, pay_of}
use Rattle.md_mech.specs.Utility.{weighted_given}
use Rattle.md_border.specs.Odds.{sum_given, won_in}
use Rattle.md_border.specs.Sides.{right_by_counts}

-- ---- the averages

-- the product of the weights of all values, and of all but one
abbrev pub all_weights : SymmetricAuction → ℕ
all_weights a = product_to (value_count a) (slice_index a.weights)

abbrev pub other_weights : SymmetricAuction → ℕ → ℕ
other_weights a v = product_to (value_count a) (λ u. if u == v then 1 else slice_index a.weights u)

-- how often each denominator counts: the bidders, times the weight of all profiles of the others, times the product of the
-- weights of all values
abbrev pub times_of : SymmetricAuction → ℕ
times_of a = a.bidders * total_weight a.weights ^ (a.bidders - 1) * all_weights a

-- the average of f at a value, in units of one over the denominator of f times so many
abbrev pub mean : SymmetricAuction → (ℕ → List ℕ → ℤ) → ℕ → ℤ
mean a f v = pos (other_weights a v) *ℤ sum_given a f v

-- ---- the point of the averages

-- a number is its plus part less its minus part, one of which is 0
abbrev pub plus_part : ℤ → ℤ
plus_part (pos n) = pos n
plus_part (negsuc n) = pos 0

abbrev pub minus_part : ℤ → ℤ
minus_part (pos n) = pos 0
minus_part (negsuc n) = pos (suc n)

-- by column: the average wins, then the plus parts of the average payments, then their minus parts
abbrev pub averages : SymmetricAuction → (ℕ → List ℕ → ℤ) → (ℕ → List ℕ → ℤ) → ℕ → ℤ
averages a win pay column =
    if nat_lt column (value_count a) then mean a win column
    else (if nat_lt column (2 * value_count a) then plus_part (mean a pay (column - value_count a))
    else minus_part (mean a pay (column - 2 * value_count a)))

-- ---- functions that are admissible on average

-- what bidder i with the value v has at the report t
abbrev pub gain_at : SymmetricAuction → (ℕ → List ℕ → ℤ) → (ℕ → List ℕ → ℤ) → ℕ → ℕ → List ℕ → ℤ
gain_at a win pay v i t = number_at a.values v *ℤ win i t -ℤ pay i t

-- Bidders win never less than nothing, gain on average nothing by telling another value, and lose on average nothing by taking
-- part, and those with values in a set win no more often than so many units can go to such bidders.
pub record IsAdmissibleOnAverage (a : SymmetricAuction) (units : ℕ) (den : ℤ) (win pay : ℕ → List ℕ → ℤ) : Type 0 where
  pub den_positive : pos 1 ≤ℤ den
  pub nonneg : (i : ℕ) (t : List ℕ) → i < a.bidders → IsProfile (sizes_of (general_of a)) t → pos 0 ≤ℤ win i t
  pub truthful : (i v w : ℕ) → i < a.bidders → v < value_count a → w < value_count a
      → weighted_given (general_of a) i v (λ t. gain_at a win pay v i (replaced t i w)) ≤ℤ weighted_given (general_of a) i v (gain_at a win pay v i)
  pub rational : (i v : ℕ) → i < a.bidders → v < value_count a → pos 0 ≤ℤ weighted_given (general_of a) i v (gain_at a win pay v i)
  pub inside : (set : ℕ) → won_in a win set ≤ℤ (den *ℤ right_by_counts a units set)

-- ---- the point of a mechanism

-- how often bidder i wins, and what it pays, at the report t: it wins at outcome i + 1
abbrev pub win_in : SymmetricAuction → Mechanism → ℕ → List ℕ → ℤ
win_in a m i t = chance_of (general_of a) m t (i + 1)

abbrev pub paid_in : SymmetricAuction → Mechanism → ℕ → List ℕ → ℤ
paid_in a m i t = pay_of (general_of a) m i t

abbrev pub point_of : SymmetricAuction → Mechanism → ℕ → ℤ
point_of a m = averages a (win_in a m) (paid_in a m)

-- How large what is measured of bidders can become.
use Rattle.std.proofs.Common.{ℕ, ◌≡◌, ◌+◌, ◌*◌, ◌^◌, ◌<◌, ◌≤◌, ℤ, pos, ◌-ℤ◌, ◌*ℤ◌, ◌<ℤ◌, ◌≤ℤ◌, to_z, of_z, ap, ap₂, ◌∙◌, arith, lit<, mul-le-mul, le_refl}
use mir.Syntax.{w128}
use Rattle.std.specs.Prelude.{slice_index}
use Rattle.std.proofs.lemmas.Int.{ints}
use Rattle.md_math.specs.Lists.{number_at}
use Rattle.md_math.specs.Sizes.{IsWithin}
use Rattle.md_math.specs.Sums.{sum_to}
use Rattle.md_math.proofs.Readings.{IsRead, read, difference_fits}
use Rattle.md_math.proofs.Ring.{linear, ring}
use Rattle.md_math.proofs.SizeLaws.{AllWithin-number_at, IsWithin-wider, IsWithin-sub, IsWithin-*ℤ, sum_to-within}
use Rattle.md_setting.specs.Auction.{SymmetricAuction, value_count}
use Rattle.md_setting.specs.AuctionShaped.{IsAuction}
use Rattle.md_mech.specs.Accepted.{number_limit}
use Rattle.md_border.specs.declared.interim.Interim.{Interim}
use Rattle.md_border.specs.Odds.{IsInterim, demands_in, excess_of, unit_excess_of}
use Rattle.md_border.specs.Sides.{right_by_counts}
use Rattle.md_border.proofs.DemandLaws.{odds-within, den-within, demands-within}
use Rattle.md_border.proofs.SideLaws.{right_of-counts}
use Rattle.md_reduced.proofs.TermForms.{value-within}
use Rattle.md_auction_report.specs.declared.amount.Amount.{Amount}
use Rattle.md_auction_report.specs.declared.amount.Amount.TheVariants.{Payment, Item}
use Rattle.md_auction_report.specs.Amounts.{amount_of}
use Rattle.md_auction_report.specs.Averages.{by_weight, of_all}
use Rattle.md_auction_report.specs.Utility.{utility_at, regret_at}

pub den-positive : (a : SymmetricAuction) (interim : Interim) → IsInterim a interim → pos 0 <ℤ interim.den
den-positive a interim h = above interim.den h.den_positive
  where
    above : (d : ℤ) → pos 1 ≤ℤ d → pos 0 <ℤ d
    above d l = omega (arith, ints, l)

pub pay-within : (a : SymmetricAuction) (interim : Interim) (v : ℕ) → IsInterim a interim → IsWithin number_limit (number_at interim.pays v)
pay-within a interim v h = AllWithin-number_at number_limit interim.pays v h.pay_size

pub item-within : (a : SymmetricAuction) (interim : Interim) (v w : ℕ) → IsAuction a → IsInterim a interim → v < value_count a → w < value_count a
    → IsWithin (1000000 * number_limit) (number_at a.values v *ℤ number_at interim.odds w)
item-within a interim v w shaped h l k =
    IsWithin-*ℤ 1000000 number_limit (number_at a.values v) (number_at interim.odds w) (value-within a v shaped l) (odds-within a interim w h k)

pub utility-within : (a : SymmetricAuction) (interim : Interim) (v w : ℕ) → IsAuction a → IsInterim a interim → v < value_count a → w < value_count a
    → IsWithin (2 ^ 83) (utility_at a interim v w)
utility-within a interim v w shaped h l k =
    IsWithin-wider (1000000 * number_limit + number_limit) (2 ^ 83) _ (omega arith)
    (IsWithin-sub (1000000 * number_limit) number_limit _ _ (item-within a interim v w shaped h l k) (pay-within a interim w h))

pub regret-within : (a : SymmetricAuction) (interim : Interim) (v w : ℕ) → IsAuction a → IsInterim a interim → v < value_count a → w < value_count a
    → IsWithin (2 ^ 84) (regret_at a interim v w)
regret-within a interim v w shaped h l k =
    IsWithin-wider (2 ^ 83 + 2 ^ 83) (2 ^ 84) _ (omega arith)
    (IsWithin-sub (2 ^ 83) (2 ^ 83) _ _ (utility-within a interim v w shaped h l k) (utility-within a interim v v shaped h l l))

pub amount-within : (a : SymmetricAuction) (interim : Interim) (measure : Amount) (v : ℕ) → IsAuction a → IsInterim a interim → v < value_count a
    → IsWithin (2 ^ 82) (amount_of a interim measure v)
amount-within a interim Payment v shaped h l = IsWithin-wider number_limit (2 ^ 82) _ (omega arith) (pay-within a interim v h)
amount-within a interim Item v shaped h l = IsWithin-wider (1000000 * number_limit) (2 ^ 82) _ (omega arith) (item-within a interim v v shaped h l l)

-- the sum over the first values
pub sums-within : (a : SymmetricAuction) (interim : Interim) (measure : Amount) (k : ℕ) → IsAuction a → IsInterim a interim → k ≤ value_count a
    → IsWithin (2 ^ 106) (sum_to k (λ v. pos (slice_index a.weights v) *ℤ amount_of a interim measure v))
sums-within a interim measure k shaped h l =
    IsWithin-wider (k * (1000000 * 2 ^ 82)) (2 ^ 106) _ (le_of_few (few shaped.few_values))
    (sum_to-within k (1000000 * 2 ^ 82) _
    (λ v b. IsWithin-*ℤ 1000000 (2 ^ 82) (pos (slice_index a.weights v)) (amount_of a interim measure v) (record { within = (shaped.weight v (omega (arith, b, l))).1 }) (amount-within a interim measure v shaped h (omega (arith, b, l)))))
  where
    few : value_count a ≤ 12 → k ≤ 12
    few m = omega (arith, l)

    le_of_few : k ≤ 12 → k * (1000000 * 2 ^ 82) ≤ 2 ^ 106
    le_of_few m = omega (arith, mul-le-mul m (le_refl (1000000 * 2 ^ 82)))

pub all-within : (a : SymmetricAuction) (interim : Interim) (measure : Amount) → IsAuction a → IsInterim a interim → IsWithin (12 * 2 ^ 106) (of_all a (amount_of a interim measure))
all-within a interim measure shaped h =
    IsWithin-*ℤ 12 (2 ^ 106) (pos a.bidders) (by_weight a (amount_of a interim measure)) (record { within = shaped.few_bidders }) (sums-within a interim measure (value_count a) shaped h (le_refl (value_count a)))

-- ---- by how much a set of values asks for more than there is

-- what further units serve in a set: the difference of two right sides that are read
pub record IsFurther (x y a b : ℤ) : Type 0 where
  pub is_read : IsRead (to_z w128 (of_z w128 x) -ℤ to_z w128 (of_z w128 y)) (a -ℤ b)
  pub within : IsWithin (13 * 10 ^ 12) (a -ℤ b)

pub further : (units : ℕ) (x y a b : ℤ) → units ≤ 12 → IsRead x a → IsRead y b → pos 0 ≤ℤ x → x ≤ℤ pos (units * 10 ^ 12) → pos 0 ≤ℤ y → y ≤ℤ pos (1 * 10 ^ 12) → IsFurther x y a b
further units x y a b few p q l m low most = record {
  is_read = record { fits = (difference_fits x y a b (13 * 10 ^ 12) p q small (lit< tt)).sfits; is = ap₂ (λ u v. u -ℤ v) (read x a p) (read y b q) };
  within = small;
}
  where
    small : IsWithin (13 * 10 ^ 12) (a -ℤ b)
    small =
        let all : units * 10 ^ 12 ≤ 12 * 10 ^ 12 = mul-le-mul few (le_refl (10 ^ 12)) in
        IsWithin-sub (12 * 10 ^ 12) (10 ^ 12) a b (record { within = omega (arith, ints, all, l, m, p.is) }) (record { within = omega (arith, ints, low, most, q.is) })

-- it is that of one item, less what they serve
pub unit-excess : (a : SymmetricAuction) (units : ℕ) (interim : Interim) (set : ℕ)
    → excess_of a interim set -ℤ interim.den *ℤ (right_by_counts a units set -ℤ right_by_counts a 1 set) ≡ unit_excess_of a units interim set
unit-excess a units interim set =
    ap (λ r. (demands_in a interim set -ℤ interim.den *ℤ r) -ℤ interim.den *ℤ (right_by_counts a units set -ℤ right_by_counts a 1 set)) (right_of-counts a set)
    ∙ joined (demands_in a interim set) interim.den (right_by_counts a 1 set) (right_by_counts a units set)
  where
    joined : (x d r s : ℤ) → (x -ℤ d *ℤ r) -ℤ d *ℤ (s -ℤ r) ≡ x -ℤ d *ℤ s
    joined x d r s = simp ring (omega (arith, linear))

pub unit-excess-within : (a : SymmetricAuction) (units : ℕ) (interim : Interim) (set : ℕ) → IsAuction a → IsInterim a interim → units ≤ 12
    → pos 0 ≤ℤ right_by_counts a units set → right_by_counts a units set ≤ℤ pos (units * 10 ^ 12) → IsWithin (2 ^ 110) (unit_excess_of a units interim set)
unit-excess-within a units interim set shaped h few low most =
    IsWithin-wider (12 * 2 ^ 106 + number_limit * (12 * 10 ^ 12)) (2 ^ 110) _ (omega arith)
    (IsWithin-sub (12 * 2 ^ 106) (number_limit * (12 * 10 ^ 12)) (demands_in a interim set) (interim.den *ℤ right_by_counts a units set)
    (demands-within a interim set (value_count a) shaped h (le_refl (value_count a)))
    (IsWithin-*ℤ number_limit (12 * 10 ^ 12) interim.den (right_by_counts a units set) (den-within a interim h) (served (right_by_counts a units set) low most)))
  where
    served : (z : ℤ) → pos 0 ≤ℤ z → z ≤ℤ pos (units * 10 ^ 12) → IsWithin (12 * 10 ^ 12) z
    served z l m = (let all : units * 10 ^ 12 ≤ 12 * 10 ^ 12 = mul-le-mul few (le_refl (10 ^ 12)) in record { within = omega (arith, ints, all, l, m) })

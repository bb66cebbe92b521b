-- The weights and values of an auction, and the denominator of its odds.
use Rattle.std.proofs.Common.{◌≡◌, ℕ, suc, ◌+◌, ◌-◌, ◌*◌, ◌^◌, ◌<◌, ◌≤◌, pos, ◌≤ℤ◌, ◌<ℤ◌, sym, ap, subst, ◌∙◌, arith, mul-pos}
use Rattle.std.specs.Prelude.{slice_index}
use Rattle.std.proofs.Math.Nat.{one-le-pow}
use Rattle.std.proofs.lemmas.Int.{ints}
use Rattle.md_math.specs.Lists.{number_at}
use Rattle.md_math.specs.Sums.{sum_to}
use Rattle.md_math.proofs.Order.{same_number, le_from_lt}
use Rattle.md_math.proofs.ProductLaws.{sum-places}
use Rattle.md_setting.specs.Auction.{SymmetricAuction, value_count, total_weight}
use Rattle.md_setting.specs.AuctionShaped.{IsAuction}
use Rattle.md_border.proofs.DemandLaws.{total-positive}
use Rattle.md_iron_values.specs.Weights.{weight_before}
use Rattle.md_iron_values.specs.VirtualValues.{weight_to, weight_from}
use Rattle.md_iron_values.specs.Odds.{share_den}
use Rattle.md_iron_values.proofs.WeightLaws.{weight_before-up, weight_before-less, pos-weight_before}

-- ---- weights

pub total-before : (a : SymmetricAuction) → IsAuction a → weight_before (slice_index a.weights) (value_count a) ≡ total_weight a.weights
total-before a shaped =
    same_number (weight_before (slice_index a.weights) (value_count a)) (total_weight a.weights)
    (pos-weight_before (slice_index a.weights) (value_count a)
    ∙ ap (λ n. sum_to n (λ k. pos (slice_index a.weights k))) (sym shaped.one_each)
    ∙ sym (sum-places a.weights))

pub before-at_most : (a : SymmetricAuction) → IsAuction a → (x : ℕ) → x ≤ value_count a → weight_before (slice_index a.weights) x ≤ total_weight a.weights
before-at_most a shaped x l = omega (arith, weight_before-up (slice_index a.weights) x (value_count a) l, total-before a shaped)

pub weight-ascends : (a : SymmetricAuction) → IsAuction a → (x y : ℕ) → x < y → y ≤ value_count a → weight_to a x <ℤ weight_to a y
weight-ascends a shaped x y l b =
    let less : weight_before (slice_index a.weights) x < weight_before (slice_index a.weights) y =
    weight_before-less (slice_index a.weights) x y l (λ i h. (shaped.weight i (omega (arith, h, b))).0) in
    omega (arith, ints, less)

-- nothing is behind the last value
pub weight_from-end : (a : SymmetricAuction) → IsAuction a → weight_from a (value_count a) ≡ pos 0
weight_from-end a shaped = omega (arith, ints, total-before a shaped)

-- ---- values

pub values-rise : (a : SymmetricAuction) → IsAuction a → (j : ℕ) → suc j < value_count a → number_at a.values j <ℤ number_at a.values (suc j)
values-rise a shaped j b =
    let next : j + 1 ≡ suc j = omega arith in
    subst (λ m. number_at a.values j <ℤ number_at a.values m) next (shaped.ascending j (omega (arith, b)))

pub values-ascend : (a : SymmetricAuction) → IsAuction a → (j : ℕ) → suc j < value_count a → number_at a.values j ≤ℤ number_at a.values (suc j)
values-ascend a shaped j b = le_from_lt (number_at a.values j) (number_at a.values (suc j)) (values-rise a shaped j b)

-- ---- the denominator

pub share_den-positive : (a : SymmetricAuction) → IsAuction a → pos 0 <ℤ share_den a
share_den-positive a shaped =
    let power : 1 ≤ total_weight a.weights ^ (a.bidders - 1) = one-le-pow (a.bidders - 1) (total_weight a.weights) (total-positive a shaped) in
    let some : 0 < a.bidders * total_weight a.weights ^ (a.bidders - 1) = mul-pos (let e : 0 < a.bidders = omega (arith, shaped.some_bidder) in e) (let e : 0 < total_weight a.weights ^ (a.bidders - 1) = omega (arith, power) in e) in
    omega (arith, ints, some)

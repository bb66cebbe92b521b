-- The share of a bidder in all orders is a whole number.
use Rattle.std.proofs.Common.{◌≡◌, ℕ, ◌+◌, ◌-◌, ◌*◌, ◌^◌, ◌<◌, ◌≤◌, List, length, sym, ap, ◌∙◌, arith, mul-pos}
use Rattle.std.specs.Prelude.{slice_index}
use Rattle.std.proofs.lemmas.List.Sums.{get_or-le-sum_by}
use Rattle.std.proofs.lemmas.Nat.{pow-add}
use Rattle.std.proofs.Math.Nat.{pow-le-pow_left}
use Rattle.md_math.specs.Products.{product_to, factorial}
use Rattle.md_math.proofs.ProductLaws.{product_to-same, product_to-positive, product_to-*, product_to-^, factorial-positive, one-pow}
use Rattle.md_space.proofs.Ranks.{pos-factor}
use Rattle.md_space.proofs.Walks.{divided}
use Rattle.md_setting.specs.Auction.{SymmetricAuction, value_count}
use Rattle.md_setting.specs.AuctionShaped.{IsAuction}
use Rattle.md_counts.specs.Counts.{AreCounts}
use Rattle.md_counts.specs.Weights.{weight_of_counts, factorials, powers}
use Rattle.md_counts.proofs.Agreement.{less}
use Rattle.md_counts.proofs.Multinomial.{factorials_to, factorials-less}
use Rattle.md_counts.proofs.WeightLaws.{weight_of_counts-law}
use Rattle.md_expost.specs.Mechanisms.{all_orders, share}

power-positive : (f n : ℕ) → 0 < f → 0 < f ^ n
power-positive f n h =
    let one : 1 ≤ f = omega arith in
    let most : 1 ^ n ≤ f ^ n = pow-le-pow_left one n in
    omega (arith, most, one-pow n)

pub all_orders-positive : (a : SymmetricAuction) → IsAuction a → 0 < all_orders a
all_orders-positive a h =
    mul-pos (factorial-positive a.bidders)
    (power-positive (product_to (value_count a) (slice_index a.weights)) a.bidders (product_to-positive (value_count a) (slice_index a.weights) (λ v b. (h.weight v b).0)))

-- each list of counts has profiles
pub weight-positive : (a : SymmetricAuction) (counts : List ℕ) → IsAuction a → AreCounts a.bidders (value_count a) counts → 0 < weight_of_counts a.weights a.bidders counts
weight-positive a counts h k =
    let w = weight_of_counts a.weights a.bidders counts in
    let some : 0 < factorial a.bidders * powers a.weights counts =
    mul-pos (factorial-positive a.bidders)
    (product_to-positive (length counts) (λ v. slice_index a.weights v ^ slice_index counts v) (λ v b. power-positive _ (slice_index counts v) (h.weight v (omega (arith, k.one_each))).0)) in
    pos-factor 0 (factorials counts) w (omega (arith, some, weight_of_counts-law a.weights a.bidders (value_count a) counts k))

-- each weight as often as its count, and as often as it is missing, is as often as there are bidders
powers-filled : (a : SymmetricAuction) (counts : List ℕ) → AreCounts a.bidders (value_count a) counts
    → powers a.weights counts * product_to (length counts) (λ u. slice_index a.weights u ^ (a.bidders - slice_index counts u)) ≡ product_to (value_count a) (slice_index a.weights) ^ a.bidders
powers-filled a counts k =
    let f = slice_index a.weights in
    let c = slice_index counts in
    sym (product_to-* (length counts) (λ u. f u ^ c u) (λ u. f u ^ (a.bidders - c u)))
    ∙ product_to-same (length counts) _ (λ u. f u ^ a.bidders) (λ u b. sym (pow-add (f u) (c u) (a.bidders - c u)) ∙ ap (λ n. f u ^ n) (filled u b))
    ∙ product_to-^ (length counts) a.bidders f
    ∙ ap (λ n. product_to n f ^ a.bidders) k.one_each
  where
    filled : (u : ℕ) → u < length counts → slice_index counts u + (a.bidders - slice_index counts u) ≡ a.bidders
    filled u b = (let most = get_or-le-sum_by (λ (x : ℕ). x) counts u 0 b in omega (arith, most, k.add))

-- the division of the share leaves nothing
pub share-exact : (a : SymmetricAuction) (counts : List ℕ) (v : ℕ) → IsAuction a → AreCounts a.bidders (value_count a) counts → v < value_count a → 0 < slice_index counts v
    → share a counts v * (weight_of_counts a.weights a.bidders counts * slice_index counts v) ≡ all_orders a
share-exact a counts v h k b p =
    let w = weight_of_counts a.weights a.bidders counts in
    let c = slice_index counts v in
    let rest = factorials_to (length counts) (less (slice_index counts) v) in
    let missing = product_to (length counts) (λ u. slice_index a.weights u ^ (a.bidders - slice_index counts u)) in
    let inside : v < length counts = omega (arith, k.one_each) in
    let whole : all_orders a ≡ (w * c) * (missing * rest) =
    ap (λ x. factorial a.bidders * x) (sym (powers-filled a counts k))
    ∙ again (factorial a.bidders) (powers a.weights counts) missing
    ∙ ap (λ x. x * missing) (sym (weight_of_counts-law a.weights a.bidders (value_count a) counts k) ∙ ap (λ x. w * x) (factorials-less (length counts) (slice_index counts) v inside p))
    ∙ turned w c rest missing in
    let some : 0 < w * c = mul-pos (weight-positive a counts h k) p in
    ap (λ x. x * (w * c)) (divided (w * c) (missing * rest) (all_orders a) whole some) ∙ swapped (missing * rest) (w * c) ∙ sym whole
  where
    again : (n p m : ℕ) → n * (p * m) ≡ n * p * m
    again n p m = omega arith

    turned : (w c r m : ℕ) → w * (c * r) * m ≡ (w * c) * (m * r)
    turned w c r m = omega arith

    swapped : (x y : ℕ) → x * y ≡ y * x
    swapped x y = omega arith

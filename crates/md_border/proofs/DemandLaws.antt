-- How large weights, demands and excesses can become.
use Rattle.std.proofs.Common.{◌≡◌, ℕ, suc, ◌+◌, ◌-◌, ◌*◌, ◌^◌, ◌<◌, ◌≤◌, ℤ, pos, ◌-ℤ◌, ◌*ℤ◌, ◌≤ℤ◌, ◌<ℤ◌, Bool, true, false, if◌then◌else◌, ap, ◌∙◌, arith, mul-le-mul, le_refl}
use Rattle.std.specs.Prelude.{slice_index}
use Rattle.std.proofs.lemmas.Int.{ints}
use Rattle.std.proofs.lemmas.List.Sums.{get_or-le-sum_by}
use Rattle.std.proofs.Math.Nat.{pow-suc, pow-le-pow_right}
use Rattle.md_math.specs.Lists.{number_at}
use Rattle.md_math.specs.Sizes.{IsWithin}
use Rattle.md_math.specs.Sums.{sum_to}
use Rattle.md_math.proofs.Order.{nonneg-*ℤ}
use Rattle.md_math.proofs.SizeLaws.{IsWithin-wider, IsWithin-zero, IsWithin-sub, IsWithin-*ℤ, sum_to-within}
use Rattle.md_setting.specs.Auction.{SymmetricAuction, value_count, total_weight}
use Rattle.md_setting.specs.AuctionShaped.{IsAuction}
use Rattle.md_mech.specs.Accepted.{number_limit}
use Rattle.md_border.specs.declared.interim.Interim.{Interim}
use Rattle.md_math.specs.Sets.{member}
use Rattle.md_border.specs.Odds.{IsInterim, weight_given, demand_of}

-- ---- weights

-- the power of one bidder fewer, with the weight of one value
pub weight_given-le : (a : SymmetricAuction) (v : ℕ) → IsAuction a → v < value_count a → weight_given a v ≤ 10 ^ 12
weight_given-le a v h b =
    let whole = total_weight a.weights in
    let part : slice_index a.weights v ≤ whole = get_or-le-sum_by (λ (x : ℕ). x) a.weights v 0 (omega (arith, h.one_each)) in
    let more : slice_index a.weights v * whole ^ (a.bidders - 1) ≤ whole * whole ^ (a.bidders - 1) = mul-le-mul part (le_refl (whole ^ (a.bidders - 1))) in
    let next : whole ^ a.bidders ≡ whole ^ (a.bidders - 1) * whole =
    ap (λ n. whole ^ n) (let e : a.bidders ≡ suc (a.bidders - 1) = omega (arith, h.some_bidder) in e) ∙ pow-suc whole (a.bidders - 1) in
    omega (arith, more, next, h.few_profiles)

pub weights_given-le : (a : SymmetricAuction) (v : ℕ) → IsAuction a → v < value_count a → a.bidders * weight_given a v ≤ 12 * 10 ^ 12
weights_given-le a v h b = mul-le-mul h.few_bidders (weight_given-le a v h b)

pub total-positive : (a : SymmetricAuction) → IsAuction a → 0 < total_weight a.weights
total-positive a h =
    let some : 0 < slice_index a.weights 0 = (h.weight 0 h.some_value).0 in
    let part : slice_index a.weights 0 ≤ total_weight a.weights = get_or-le-sum_by (λ (x : ℕ). x) a.weights 0 0 (omega (arith, h.one_each, h.some_value)) in
    omega (arith, some, part)

-- all profiles of one bidder fewer
pub others-le : (a : SymmetricAuction) → IsAuction a → total_weight a.weights ^ (a.bidders - 1) ≤ 10 ^ 12
others-le a h =
    let more : total_weight a.weights ^ (a.bidders - 1) ≤ total_weight a.weights ^ a.bidders =
    pow-le-pow_right {n = total_weight a.weights} (total-positive a h) {i = a.bidders - 1} {j = a.bidders} (omega arith) in
    omega (arith, more, h.few_profiles)

-- ---- odds and payments

pub odds-within : (a : SymmetricAuction) (interim : Interim) (v : ℕ) → IsInterim a interim → v < value_count a → IsWithin number_limit (number_at interim.odds v)
odds-within a interim v h b =
    within (number_at interim.odds v) interim.den (h.odds v b).0 (h.odds v b).1 h.den_size
  where
    within : (q d : ℤ) → pos 0 ≤ℤ q → q ≤ℤ d → d ≤ℤ pos number_limit → IsWithin number_limit q
    within q d l m n = record { within = omega (arith, ints) }

pub den-within : (a : SymmetricAuction) (interim : Interim) → IsInterim a interim → IsWithin number_limit interim.den
den-within a interim h = within interim.den h.den_positive h.den_size
  where
    within : (d : ℤ) → pos 1 ≤ℤ d → d ≤ℤ pos number_limit → IsWithin number_limit d
    within d l m = record { within = omega (arith, ints) }

-- ---- demands

pub demand-nonneg : (a : SymmetricAuction) (interim : Interim) (v : ℕ) → IsInterim a interim → v < value_count a → pos 0 ≤ℤ demand_of a interim v
demand-nonneg a interim v h b = nonneg-*ℤ _ _ (nonneg _) (h.odds v b).0
  where
    nonneg : (k : ℕ) → pos 0 ≤ℤ pos k
    nonneg k = omega (arith, ints)

pub demand-within : (a : SymmetricAuction) (interim : Interim) (v : ℕ) → IsAuction a → IsInterim a interim → v < value_count a → IsWithin (12 * 10 ^ 12 * number_limit) (demand_of a interim v)
demand-within a interim v shaped h b =
    IsWithin-*ℤ (12 * 10 ^ 12) number_limit (pos (a.bidders * weight_given a v)) (number_at interim.odds v)
    (record { within = weights_given-le a v shaped b }) (odds-within a interim v h b)

pub demand-small : (a : SymmetricAuction) (interim : Interim) (v : ℕ) → IsAuction a → IsInterim a interim → v < value_count a → demand_of a interim v <ℤ pos (2 ^ 106)
demand-small a interim v shaped h b = below (demand_of a interim v) (demand-within a interim v shaped h b)
  where
    below : (z : ℤ) → IsWithin (12 * 10 ^ 12 * number_limit) z → z <ℤ pos (2 ^ 106)
    below z w = omega (arith, ints, w.within)

-- the demands of the first kinds, where they are in the set
pub demands-within : (a : SymmetricAuction) (interim : Interim) (set k : ℕ) → IsAuction a → IsInterim a interim → k ≤ value_count a
    → IsWithin (12 * 2 ^ 106) (sum_to k (λ v. if member set v then demand_of a interim v else pos 0))
demands-within a interim set k shaped h l =
    IsWithin-wider (k * 2 ^ 106) (12 * 2 ^ 106) _ (mul-le-mul (few shaped.few_values) (le_refl (2 ^ 106)))
    (sum_to-within k (2 ^ 106) _ (λ v b. either (member set v) (demand_of a interim v) (IsWithin-wider (12 * 10 ^ 12 * number_limit) (2 ^ 106) _ (omega arith) (demand-within a interim v shaped h (omega (arith, b, l))))))
  where
    few : value_count a ≤ 12 → k ≤ 12
    few m = omega (arith, l)

    either : (s : Bool) (z : ℤ) → IsWithin (2 ^ 106) z → IsWithin (2 ^ 106) (if s then z else pos 0)
    either true z w = w
    either false z w = IsWithin-zero (2 ^ 106)

-- demands less a right side, which is at most the weight of all profiles
pub excess-within : (x den right : ℤ) → IsWithin (12 * 2 ^ 106) x → IsWithin number_limit den → pos 0 ≤ℤ right → right ≤ℤ pos (10 ^ 12) → IsWithin (2 ^ 110) (x -ℤ den *ℤ right)
excess-within x den right h k l m =
    IsWithin-wider (12 * 2 ^ 106 + number_limit * 10 ^ 12) (2 ^ 110) _ (omega arith)
    (IsWithin-sub (12 * 2 ^ 106) (number_limit * 10 ^ 12) x (den *ℤ right) h (IsWithin-*ℤ number_limit (10 ^ 12) den right k (record { within = omega (arith, ints, l, m) })))

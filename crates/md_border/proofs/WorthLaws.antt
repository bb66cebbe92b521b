-- How large the worth of interim odds and its parts can become.
use Rattle.std.proofs.Common.{ℕ, ◌+◌, ◌*◌, ◌^◌, ◌<◌, ◌≤◌, ℤ, pos, ◌*ℤ◌, ◌≤ℤ◌, arith, mul-le-mul, le_refl}
use Rattle.std.specs.Prelude.{slice_index}
use Rattle.std.proofs.lemmas.Int.{ints}
use Rattle.md_math.specs.Sizes.{IsWithin}
use Rattle.md_math.specs.Sums.{sum_to}
use Rattle.md_math.proofs.SizeLaws.{AllWithin-number_at, IsWithin-wider, IsWithin-+ℤ, IsWithin-sub, IsWithin-*ℤ, sum_to-within}
use Rattle.md_setting.specs.Auction.{SymmetricAuction, value_count, total_weight}
use Rattle.md_setting.specs.AuctionShaped.{IsAuction}
use Rattle.md_mech.specs.Accepted.{number_limit}
use Rattle.md_border.specs.declared.interim.Interim.{Interim}
use Rattle.md_border.specs.Odds.{IsInterim}
use Rattle.md_border.specs.Worth.{surplus_of, gain_of, gains_of, worth_of}
use Rattle.md_border.proofs.DemandLaws.{odds-within, den-within}

pub surplus-within : (a : SymmetricAuction) (v : ℕ) → IsAuction a → v < value_count a → IsWithin 11000000 (surplus_of a v)
surplus-within a v h b = IsWithin-sub 10000000 1000000 _ a.keep (h.gain v b) h.keep

pub revenue-within : (a : SymmetricAuction) → IsAuction a → IsWithin 1000 a.revenue
revenue-within a h = within a.revenue h.revenue.0 h.revenue.1
  where
    within : (z : ℤ) → pos 0 ≤ℤ z → z ≤ℤ pos 1000 → IsWithin 1000 z
    within z l m = record { within = omega (arith, ints) }

pub gain-within : (a : SymmetricAuction) (interim : Interim) (v : ℕ) → IsAuction a → IsInterim a interim → v < value_count a → IsWithin (2 ^ 86) (gain_of a interim v)
gain-within a interim v shaped h b =
    IsWithin-wider (11000000 * number_limit + 1000 * number_limit) (2 ^ 86) _ (omega arith)
    (IsWithin-+ℤ (11000000 * number_limit) (1000 * number_limit) _ _
    (IsWithin-*ℤ 11000000 number_limit _ _ (surplus-within a v shaped b) (odds-within a interim v h b))
    (IsWithin-*ℤ 1000 number_limit _ _ (revenue-within a shaped) (AllWithin-number_at number_limit interim.pays v h.pay_size)))

pub gains-within : (a : SymmetricAuction) (interim : Interim) (k : ℕ) → IsAuction a → IsInterim a interim → k ≤ value_count a
    → IsWithin (2 ^ 110) (sum_to k (λ v. pos (slice_index a.weights v) *ℤ gain_of a interim v))
gains-within a interim k shaped h l =
    IsWithin-wider (k * (1000000 * 2 ^ 86)) (2 ^ 110) _ (le_of_few (few shaped.few_values))
    (sum_to-within k (1000000 * 2 ^ 86) _
    (λ v b. IsWithin-*ℤ 1000000 (2 ^ 86) (pos (slice_index a.weights v)) (gain_of a interim v) (record { within = (shaped.weight v (omega (arith, b, l))).1 }) (gain-within a interim v shaped h (omega (arith, b, l)))))
  where
    few : value_count a ≤ 12 → k ≤ 12
    few m = omega (arith, l)

    le_of_few : k ≤ 12 → k * (1000000 * 2 ^ 86) ≤ 2 ^ 110
    le_of_few m = omega (arith, mul-le-mul m (le_refl (1000000 * 2 ^ 86)))

pub kept-within : (a : SymmetricAuction) (interim : Interim) → IsAuction a → IsInterim a interim → IsWithin (1000000 * (1000000 * number_limit)) (a.keep *ℤ (pos (total_weight a.weights) *ℤ interim.den))
kept-within a interim shaped h =
    IsWithin-*ℤ 1000000 (1000000 * number_limit) a.keep (pos (total_weight a.weights) *ℤ interim.den) shaped.keep
    (IsWithin-*ℤ 1000000 number_limit (pos (total_weight a.weights)) interim.den (record { within = shaped.total }) (den-within a interim h))

pub worth-within : (a : SymmetricAuction) (interim : Interim) → IsAuction a → IsInterim a interim → IsWithin (2 ^ 114) (worth_of a interim)
worth-within a interim shaped h =
    IsWithin-wider (1000000 * (1000000 * number_limit) + 12 * 2 ^ 110) (2 ^ 114) _ (omega arith)
    (IsWithin-+ℤ (1000000 * (1000000 * number_limit)) (12 * 2 ^ 110) _ _
    (kept-within a interim shaped h)
    (IsWithin-*ℤ 12 (2 ^ 110) (pos a.bidders) (gains_of a interim) (record { within = shaped.few_bidders }) (gains-within a interim (value_count a) shaped h (le_refl (value_count a)))))

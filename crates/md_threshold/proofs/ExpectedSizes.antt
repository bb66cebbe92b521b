-- How large it is what bidders add, get and pay.
use Rattle.std.proofs.Common.{ℕ, ◌+◌, ◌*◌, ◌^◌, ◌<◌, ◌≤◌, pos, ◌*ℤ◌, arith}
use Rattle.std.specs.Prelude.{slice_index}
use Rattle.md_math.specs.Lists.{number_at}
use Rattle.md_math.specs.Sizes.{IsWithin}
use Rattle.md_math.specs.Sums.{sum_to}
use Rattle.md_math.proofs.SizeLaws.{AllWithin-number_at, IsWithin-wider, IsWithin-*ℤ, IsWithin-+ℤ, sum_to-within}
use Rattle.md_setting.specs.Auction.{SymmetricAuction, value_count}
use Rattle.md_setting.specs.AuctionShaped.{IsAuction}
use Rattle.md_mech.specs.Accepted.{number_limit}
use Rattle.md_border.specs.Odds.{IsInterim}
use Rattle.md_border.specs.declared.interim.Interim.{Interim}
use Rattle.md_border.specs.Worth.{surplus_of, gain_of}
use Rattle.md_border.proofs.DemandLaws.{odds-within}
use Rattle.md_border.proofs.WorthLaws.{surplus-within, revenue-within}
use Rattle.md_iron_pools.proofs.InterimLaws.{value-within}
use Rattle.md_threshold.specs.declared.amount.Amount.{Amount}
use Rattle.md_threshold.specs.declared.amount.Amount.TheVariants.{Gain, Item, Payment}
use Rattle.md_threshold.specs.Interims.{amount_of}

module _ (a : SymmetricAuction) (interim : Interim) (shaped : IsAuction a) (fits : IsInterim a interim) where
  pub gain-short : (v : ℕ) → v < value_count a → IsWithin (2 ^ 89) (gain_of a interim v)
  gain-short v b =
      IsWithin-wider (11000000 * number_limit + 1000 * number_limit) (2 ^ 89) _ (omega arith)
      (IsWithin-+ℤ (11000000 * number_limit) (1000 * number_limit) (surplus_of a v *ℤ number_at interim.odds v) (a.revenue *ℤ number_at interim.pays v)
      (IsWithin-*ℤ 11000000 number_limit (surplus_of a v) (number_at interim.odds v) (surplus-within a v shaped b) (odds-within a interim v fits b))
      (IsWithin-*ℤ 1000 number_limit a.revenue (number_at interim.pays v) (revenue-within a shaped) (AllWithin-number_at number_limit interim.pays v fits.pay_size)))

  pub item-short : (v : ℕ) → v < value_count a → IsWithin (2 ^ 89) (number_at a.values v *ℤ number_at interim.odds v)
  item-short v b =
      IsWithin-wider (1000000 * number_limit) (2 ^ 89) _ (omega arith)
      (IsWithin-*ℤ 1000000 number_limit (number_at a.values v) (number_at interim.odds v) (value-within a v shaped b) (odds-within a interim v fits b))

  pub amount-short : (measure : Amount) (v : ℕ) → v < value_count a → IsWithin (2 ^ 89) (amount_of a interim measure v)
  amount-short Gain v b = gain-short v b
  amount-short Item v b = item-short v b
  amount-short Payment v b = IsWithin-wider number_limit (2 ^ 89) _ (omega arith) (AllWithin-number_at number_limit interim.pays v fits.pay_size)

  -- the first terms of the sum over the values
  pub sums-short : (measure : Amount) (n : ℕ) → n ≤ value_count a → IsWithin (12 * (1000000 * 2 ^ 89)) (sum_to n (λ v. pos (slice_index a.weights v) *ℤ amount_of a interim measure v))
  sums-short measure n b =
      IsWithin-wider (n * (1000000 * 2 ^ 89)) (12 * (1000000 * 2 ^ 89)) _ (few (omega (arith, b, shaped.few_values)))
      (sum_to-within n (1000000 * 2 ^ 89) _
      (λ v l. IsWithin-*ℤ 1000000 (2 ^ 89) (pos (slice_index a.weights v)) (amount_of a interim measure v) (record { within = (shaped.weight v (omega (arith, l, b))).1 }) (amount-short measure v (omega (arith, l, b)))))
    where
      few : n ≤ 12 → n * (1000000 * 2 ^ 89) ≤ 12 * (1000000 * 2 ^ 89)
      few m = omega (arith, m)

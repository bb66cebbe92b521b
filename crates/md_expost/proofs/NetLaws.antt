-- The caps and demands of the net of an auction with interim odds: how many there are, and how large.
use Rattle.std.proofs.Common.{◌≡◌, ℕ, ◌*◌, ◌^◌, ◌<◌, ◌≤◌, ℤ, pos, ◌≤ℤ◌, ◌<ℤ◌, List, length, sym, ap, ◌∙◌, subst, arith, mul-le-mul, le_refl}
use Rattle.std.proofs.lemmas.Int.{ints}
use Rattle.md_math.specs.Lists.{number_at, list_to}
use Rattle.md_math.specs.Sizes.{IsWithin}
use Rattle.md_math.specs.Sums.{sum_to}
use Rattle.md_math.proofs.Builders.{length-list_to, get_or-list_to}
use Rattle.md_math.proofs.SizeLaws.{IsWithin-wider, sum_to-within}
use Rattle.md_math.proofs.SumLaws.{sum_to-same}
use Rattle.md_setting.specs.Auction.{SymmetricAuction, value_count}
use Rattle.md_setting.specs.AuctionShaped.{IsAuction}
use Rattle.md_mech.specs.Accepted.{number_limit}
use Rattle.md_border.specs.declared.interim.Interim.{Interim}
use Rattle.md_border.specs.Odds.{IsInterim, demand_of}
use Rattle.md_border.proofs.DemandLaws.{demand-nonneg, demand-within}
use Rattle.md_expost.specs.Masses.{rank_count, cap_at}
use Rattle.md_expost.proofs.MassLaws.{cap-nonneg, caps-within}

-- what a net asks of a list of numbers
pub record IsFit (most : ℕ) (numbers : List ℤ) : Type 0 where
  pub few : length numbers ≤ most
  pub nonneg : (k : ℕ) → k < length numbers → pos 0 ≤ℤ number_at numbers k
  pub size : sum_to (length numbers) (number_at numbers) <ℤ pos (2 ^ 126)

-- a list of so many numbers of a function
fit : (most n : ℕ) (f : ℕ → ℤ) (numbers : List ℤ) → numbers ≡ list_to n f → n ≤ most → ((k : ℕ) → k < n → pos 0 ≤ℤ f k) → IsWithin (2 ^ 125) (sum_to n f) → IsFit most numbers
fit most n f numbers e few nonneg small = record {
  few = omega (arith, long, few);
  nonneg = λ k b. subst (λ z. pos 0 ≤ℤ z) (sym (at k (omega (arith, long, b)))) (nonneg k (omega (arith, long, b)));
  size = below _ (subst (IsWithin (2 ^ 125)) (sym (ap (λ m. sum_to m (number_at numbers)) long ∙ sum_to-same n (number_at numbers) f (λ k b. at k b))) small);
}
  where
    long : length numbers ≡ n
    long = ap length e ∙ length-list_to n f

    at : (k : ℕ) → k < n → number_at numbers k ≡ f k
    at k b = ap (λ xs. number_at xs k) e ∙ get_or-list_to n f k (pos 0) b

    below : (z : ℤ) → IsWithin (2 ^ 125) z → z <ℤ pos (2 ^ 126)
    below z w = omega (arith, ints, w.within)

pub caps-fit : (a : SymmetricAuction) (den : ℤ) (caps : List ℤ) → IsAuction a → pos 1 ≤ℤ den → den ≤ℤ pos number_limit → caps ≡ list_to (rank_count a) (cap_at a den) → IsFit 20000 caps
caps-fit a den caps h l m e =
    fit 20000 (rank_count a) (cap_at a den) caps e h.few_counts (λ r b. cap-nonneg a den r l)
    (IsWithin-wider (2 ^ 117) (2 ^ 125) _ (omega arith) (caps-within a den (rank_count a) h l m (le_refl (rank_count a))))

pub demands-fit : (a : SymmetricAuction) (interim : Interim) (demands : List ℤ) → IsAuction a → IsInterim a interim → demands ≡ list_to (value_count a) (demand_of a interim) → IsFit 12 demands
demands-fit a interim demands h fits e =
    fit 12 (value_count a) (demand_of a interim) demands e h.few_values (λ v b. demand-nonneg a interim v fits b)
    (IsWithin-wider (value_count a * (12 * 10 ^ 12 * number_limit)) (2 ^ 125) _ (of_few (value_count a) h.few_values)
    (sum_to-within (value_count a) (12 * 10 ^ 12 * number_limit) (demand_of a interim) (λ v b. demand-within a interim v h fits b)))
  where
    of_few : (k : ℕ) → k ≤ 12 → k * (12 * 10 ^ 12 * number_limit) ≤ 2 ^ 125
    of_few k l = (let most : k * (12 * 10 ^ 12 * number_limit) ≤ 12 * (12 * 10 ^ 12 * number_limit) = mul-le-mul l (le_refl (12 * 10 ^ 12 * number_limit)) in omega (arith, most))

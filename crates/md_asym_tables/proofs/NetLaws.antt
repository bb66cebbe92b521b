-- The caps and demands of the net of a sale with interim odds: how many there are, and how large.
use Rattle.std.proofs.Common.{◌≡◌, ℕ, ◌*◌, ◌^◌, ◌<◌, ◌≤◌, ℤ, pos, ◌*ℤ◌, ◌≤ℤ◌, ◌<ℤ◌, List, length, sym, ap, ◌∙◌, subst, arith, mul-le-mul, le_refl}
use Rattle.std.proofs.lemmas.Int.{ints}
use Rattle.md_math.specs.Lists.{number_at, list_to}
use Rattle.md_math.specs.Sizes.{IsWithin}
use Rattle.md_math.specs.Sums.{sum_to}
use Rattle.md_math.proofs.Builders.{length-list_to, get_or-list_to}
use Rattle.md_math.proofs.Order.{nonneg-*ℤ, le_from_lt}
use Rattle.md_math.proofs.SizeLaws.{IsWithin-wider, IsWithin-*ℤ, sum_to-within}
use Rattle.md_math.proofs.SumLaws.{sum_to-same}
use Rattle.md_space.specs.Profiles.{profile_count, profile_at}
use Rattle.md_space.proofs.Ranks.{profile_at-IsProfile}
use Rattle.md_setting.specs.Setting.{GeneralSetting}
use Rattle.md_setting.specs.Meaning.{sizes_of, weight_of}
use Rattle.md_setting.specs.Shaped.{IsShaped}
use Rattle.md_setting.proofs.MarginalLaws.{marginal-small}
use Rattle.md_mech.proofs.CountLaws.{agents-length}
use Rattle.md_mech.specs.Accepted.{number_limit}
use Rattle.md_asym_tables.specs.Odds.{AreOdds}
use Rattle.md_asym_tables.specs.PairNets.{cap_at}
use Rattle.md_asym_sale.specs.Pairs.{agent_of, kind_of}
use Rattle.md_asym_sale.specs.Sides.{demand_at}
use Rattle.md_asym_sale.specs.Values.{pairs_of, marginal_at}
use Rattle.md_asym_sale.proofs.PairLaws.{pair-in}

-- what a net asks of a list of numbers
pub record IsFit (most : ℕ) (numbers : List ℤ) : Type 0 where
  pub few : length numbers ≤ most
  pub nonneg : (k : ℕ) → k < length numbers → pos 0 ≤ℤ number_at numbers k
  pub size : sum_to (length numbers) (number_at numbers) <ℤ pos (2 ^ 126)

-- a list of so many numbers of a function
fit : (most n : ℕ) (f : ℕ → ℤ) (numbers : List ℤ) → numbers ≡ list_to n f → n ≤ most → ((k : ℕ) → k < n → pos 0 ≤ℤ f k) → IsWithin (2 ^ 125) (sum_to n f) → IsFit most numbers
fit most n f numbers e few nonneg small = record {
  few = omega (arith, long, few);
  nonneg = λ k b. subst (λ z. pos 0 ≤ℤ z) (sym (at k (omega (arith, long, b)))) (nonneg k (omega (arith, long, b)));
  size = below _ (subst (IsWithin (2 ^ 125)) (sym (ap (λ m. sum_to m (number_at numbers)) long ∙ sum_to-same n (number_at numbers) f (λ k b. at k b))) small);
}
  where
    long : length numbers ≡ n
    long = ap length e ∙ length-list_to n f

    at : (k : ℕ) → k < n → number_at numbers k ≡ f k
    at k b = ap (λ xs. number_at xs k) e ∙ get_or-list_to n f k (pos 0) b

    below : (z : ℤ) → IsWithin (2 ^ 125) z → z <ℤ pos (2 ^ 126)
    below z w = omega (arith, ints, w.within)

between : (limit : ℕ) (z : ℤ) → pos 0 ≤ℤ z → z ≤ℤ pos limit → IsWithin limit z
between limit z l m = record { within = omega (arith, ints, l, m) }

above-one : (z : ℤ) → pos 1 ≤ℤ z → pos 0 ≤ℤ z
above-one z h = omega (arith, ints, h)

pub den-within : (s : GeneralSetting) (den : ℤ) (odds : List ℤ) → AreOdds s den odds → IsWithin number_limit den
den-within s den odds fits = between number_limit den (above-one den fits.den_positive) fits.den_size

pub cap-within : (s : GeneralSetting) (den : ℤ) (r : ℕ) → IsShaped s → pos 1 ≤ℤ den → den ≤ℤ pos number_limit → r < profile_count (sizes_of s) → IsWithin (number_limit * 1000000) (cap_at s den r)
cap-within s den r shaped l m b =
    let t = profile_at (sizes_of s) r in
    IsWithin-*ℤ number_limit 1000000 den (weight_of s t) (between number_limit den (above-one den l) m) (shaped.weight t (profile_at-IsProfile (sizes_of s) r b)).within

pub caps-fit : (s : GeneralSetting) (den : ℤ) (caps : List ℤ) → IsShaped s → pos 1 ≤ℤ den → den ≤ℤ pos number_limit → caps ≡ list_to (profile_count (sizes_of s)) (cap_at s den) → IsFit 1024 caps
caps-fit s den caps shaped l m e =
    let n = profile_count (sizes_of s) in
    let few : n ≤ 1024 = shaped.listed.space.few_profiles in
    let most : n * (number_limit * 1000000) ≤ 1024 * (number_limit * 1000000) = mul-le-mul few (le_refl (number_limit * 1000000)) in
    fit 1024 n (cap_at s den) caps e few
    (λ r b. nonneg-*ℤ den (weight_of s (profile_at (sizes_of s) r)) (above-one den l) (shaped.weight (profile_at (sizes_of s) r) (profile_at-IsProfile (sizes_of s) r b)).nonneg)
    (IsWithin-wider (n * (number_limit * 1000000)) (2 ^ 125) _ (omega (arith, most)) (sum_to-within n (number_limit * 1000000) (cap_at s den) (λ r b. cap-within s den r shaped l m b)))

marginal-nonneg : (s : GeneralSetting) (p : ℕ) → IsShaped s → p < pairs_of s → pos 0 ≤ℤ marginal_at s p
marginal-nonneg s p shaped h =
    let (agent, kind) = pair-in (sizes_of s) p h in
    le_from_lt (pos 0) (marginal_at s p) (shaped.marginal (agent_of (sizes_of s) p) (kind_of (sizes_of s) p) (omega (arith, agent, agents-length s)) kind)

pub demand-within : (s : GeneralSetting) (den : ℤ) (odds : List ℤ) (p : ℕ) → IsShaped s → AreOdds s den odds → p < pairs_of s → IsWithin (1000000 * number_limit) (demand_at s (number_at odds) p)
demand-within s den odds p shaped fits h =
    IsWithin-*ℤ 1000000 number_limit (marginal_at s p) (number_at odds p) (marginal-small s (agent_of (sizes_of s) p) (kind_of (sizes_of s) p) shaped)
    (between number_limit (number_at odds p) (fits.each p h).0 (most (number_at odds p) den (fits.each p h).1 fits.den_size))
  where
    most : (x y : ℤ) → x ≤ℤ y → y ≤ℤ pos number_limit → x ≤ℤ pos number_limit
    most x y l m = omega (arith, ints, l, m)

pub demands-fit : (s : GeneralSetting) (den : ℤ) (odds demands : List ℤ) → IsShaped s → AreOdds s den odds → pairs_of s ≤ 12 → demands ≡ list_to (pairs_of s) (demand_at s (number_at odds)) → IsFit 12 demands
demands-fit s den odds demands shaped fits few e =
    let n = pairs_of s in
    let most : n * (1000000 * number_limit) ≤ 12 * (1000000 * number_limit) = mul-le-mul few (le_refl (1000000 * number_limit)) in
    fit 12 n (demand_at s (number_at odds)) demands e few
    (λ p b. nonneg-*ℤ (marginal_at s p) (number_at odds p) (marginal-nonneg s p shaped b) (fits.each p b).0)
    (IsWithin-wider (n * (1000000 * number_limit)) (2 ^ 125) _ (omega (arith, most)) (sum_to-within n (1000000 * number_limit) (demand_at s (number_at odds)) (λ p b. demand-within s den odds p shaped fits b)))

-- What odds and payments of a sale are worth, by their lists and by a point, and how large the parts of it can become.
use Rattle.std.proofs.Common.{◌≡◌, ℕ, ◌+◌, ◌*◌, ◌^◌, ◌<◌, ◌≤◌, ℤ, pos, ◌+ℤ◌, ◌*ℤ◌, ◌≤ℤ◌, to_z, of_z, List, ap, ap₂, arith, lit<, mul-le-mul, le_refl}
use mir.Syntax.{w128}
use Rattle.std.proofs.lemmas.Int.{ints}
use Rattle.md_math.specs.Lists.{number_at}
use Rattle.md_math.specs.Sizes.{IsWithin}
use Rattle.md_math.specs.Sums.{sum_to}
use Rattle.md_math.proofs.Builders.{get_or-list_to}
use Rattle.md_math.proofs.Readings.{read, read_small}
use Rattle.md_math.proofs.SizeLaws.{AllWithin-number_at, IsWithin-wider, IsWithin-+ℤ, IsWithin-*ℤ, sum_to-within}
use Rattle.md_math.proofs.SumLaws.{sum_to-same}
use Rattle.md_setting.specs.Setting.{GeneralSetting}
use Rattle.md_setting.specs.Meaning.{sizes_of, total_of}
use Rattle.md_setting.specs.Shaped.{IsShaped}
use Rattle.md_setting.proofs.MarginalLaws.{marginal-small}
use Rattle.md_mech.specs.Accepted.{number_limit}
use Rattle.md_asym_sale.specs.Forms.{pay_in}
use Rattle.md_asym_sale.specs.Pairs.{agent_of, kind_of}
use Rattle.md_asym_sale.specs.Sale.{IsSale}
use Rattle.md_asym_sale.specs.Values.{pairs_of, marginal_at, surplus_at}
use Rattle.md_asym_sale.proofs.SaleLaws.{surplus-within}
use Rattle.md_asym_laws.specs.Worth.{base_of, worth_in}
use Rattle.md_asym_laws.proofs.PairFacts.{pair-of}
use Rattle.md_asym.specs.Gains.{AreSaleOdds, gain_of, odds_in, pays_in, worth_by}

-- ---- by a point

pub worth-listed : (s : GeneralSetting) (den : ℤ) (x : ℕ → ℤ) → worth_by s den (odds_in s x) (pays_in s x) ≡ worth_in s den x
worth-listed s den x =
    ap (λ z. base_of s *ℤ den +ℤ z)
    (sum_to-same (pairs_of s) _ _
    (λ p b. ap₂ (λ q a. marginal_at s p *ℤ (surplus_at s p *ℤ q +ℤ s.revenue *ℤ a)) (get_or-list_to (pairs_of s) x p (pos 0) b) (get_or-list_to (pairs_of s) (pay_in s x) p (pos 0) b)))

-- ---- sizes

pub den-within : (s : GeneralSetting) (den : ℤ) (odds pays : List ℤ) → AreSaleOdds s den odds pays → IsWithin number_limit den
den-within s den odds pays h = within den h.fits.den_positive h.fits.den_size
  where
    within : (z : ℤ) → pos 1 ≤ℤ z → z ≤ℤ pos number_limit → IsWithin number_limit z
    within z l m = record { within = omega (arith, ints, l, m) }

-- a denominator is read back from its bits
pub den-read : (s : GeneralSetting) (den : ℤ) (odds pays : List ℤ) → AreSaleOdds s den odds pays → to_z w128 (of_z w128 den) ≡ den
den-read s den odds pays h = read den den (read_small number_limit den (den-within s den odds pays h) (lit< tt))

pub odds-within : (s : GeneralSetting) (den : ℤ) (odds pays : List ℤ) (p : ℕ) → AreSaleOdds s den odds pays → p < pairs_of s → IsWithin number_limit (number_at odds p)
odds-within s den odds pays p h b = within (number_at odds p) den ((h.fits.each p b).0) ((h.fits.each p b).1) h.fits.den_size
  where
    within : (z d : ℤ) → pos 0 ≤ℤ z → z ≤ℤ d → d ≤ℤ pos number_limit → IsWithin number_limit z
    within z d l m n = record { within = omega (arith, ints, l, m, n) }

pub total-within : (s : GeneralSetting) → IsShaped s → IsWithin 1000000 (total_of s)
total-within s shaped = shaped.total.within

pub surplus-small : (s : GeneralSetting) (p : ℕ) → IsSale s → IsShaped s → p < pairs_of s → IsWithin 11000000 (surplus_at s p)
surplus-small s p sale shaped b =
    let inside = pair-of s p b in
    surplus-within s (agent_of (sizes_of s) p) (kind_of (sizes_of s) p) sale shaped inside.agent inside.kind

pub gain-within : (s : GeneralSetting) (den : ℤ) (odds pays : List ℤ) (p : ℕ) → IsSale s → IsShaped s → AreSaleOdds s den odds pays → p < pairs_of s → IsWithin (2 ^ 86) (gain_of s odds pays p)
gain-within s den odds pays p sale shaped h b =
    IsWithin-wider (11000000 * number_limit + 1000 * number_limit) (2 ^ 86) _ (omega arith)
    (IsWithin-+ℤ (11000000 * number_limit) (1000 * number_limit) _ _
    (IsWithin-*ℤ 11000000 number_limit _ _ (surplus-small s p sale shaped b) (odds-within s den odds pays p h b))
    (IsWithin-*ℤ 1000 number_limit _ _ shaped.small.revenue (AllWithin-number_at number_limit pays p h.pay_size)))

pub weight-small : (s : GeneralSetting) (p : ℕ) → IsShaped s → IsWithin 1000000 (marginal_at s p)
weight-small s p shaped = marginal-small s (agent_of (sizes_of s) p) (kind_of (sizes_of s) p) shaped

pub gains-within : (s : GeneralSetting) (den : ℤ) (odds pays : List ℤ) (k : ℕ) → IsSale s → IsShaped s → AreSaleOdds s den odds pays → k ≤ pairs_of s
    → IsWithin (2 ^ 110) (sum_to k (λ p. marginal_at s p *ℤ gain_of s odds pays p))
gains-within s den odds pays k sale shaped h l =
    IsWithin-wider (k * (1000000 * 2 ^ 86)) (2 ^ 110) _ (le_of_few (few sale.few_types))
    (sum_to-within k (1000000 * 2 ^ 86) _
    (λ p b. IsWithin-*ℤ 1000000 (2 ^ 86) (marginal_at s p) (gain_of s odds pays p) (weight-small s p shaped) (gain-within s den odds pays p sale shaped h (omega (arith, b, l)))))
  where
    few : pairs_of s ≤ 12 → k ≤ 12
    few m = omega (arith, l, m)

    le_of_few : k ≤ 12 → k * (1000000 * 2 ^ 86) ≤ 2 ^ 110
    le_of_few m = omega (arith, mul-le-mul m (le_refl (1000000 * 2 ^ 86)))

pub base-within : (s : GeneralSetting) → IsShaped s → IsWithin (10 ^ 13) (base_of s)
base-within s shaped =
    IsWithin-wider (1000000 * 1000000) (10 ^ 13) (base_of s) (omega arith)
    (IsWithin-*ℤ 1000000 1000000 (number_at s.values 0) (total_of s) (shaped.small.value 0) (total-within s shaped))

pub worth-within : (s : GeneralSetting) (den : ℤ) (odds pays : List ℤ) → IsSale s → IsShaped s → AreSaleOdds s den odds pays → IsWithin (2 ^ 114) (worth_by s den odds pays)
worth-within s den odds pays sale shaped h =
    IsWithin-wider (10 ^ 13 * number_limit + 2 ^ 110) (2 ^ 114) _ (omega arith)
    (IsWithin-+ℤ (10 ^ 13 * number_limit) (2 ^ 110) _ _
    (IsWithin-*ℤ (10 ^ 13) number_limit (base_of s) den (base-within s shaped) (den-within s den odds pays h))
    (gains-within s den odds pays (pairs_of s) sale shaped h (le_refl (pairs_of s))))

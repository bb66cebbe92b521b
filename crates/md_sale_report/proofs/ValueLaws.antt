-- The value of odds and payments is that of each mechanism that has them.
use Rattle.std.proofs.Common.{◌≡◌, ℕ, ◌+◌, ◌-◌, ◌*◌, ◌<◌, ℤ, pos, ◌+ℤ◌, ◌-ℤ◌, ◌*ℤ◌, ◌<ℤ◌, nat_lt, if◌then◌else◌, refl, sym, ap, ap₂, ◌∙◌, arith}
use Rattle.md_math.specs.Lists.{number_at}
use Rattle.md_math.proofs.Ring.{linear}
use Rattle.md_math.proofs.SumLaws.{sum_to-same}
use Rattle.md_num.specs.declared.frac.Frac.{Frac}
use Rattle.md_border.specs.declared.interim.Interim.{Interim}
use Rattle.md_setting.specs.Setting.{GeneralSetting}
use Rattle.md_setting.specs.Meaning.{total_of}
use Rattle.md_setting.specs.Shaped.{IsShaped}
use Rattle.md_mech.specs.declared.mechanism.Mechanism.{Mechanism}
use Rattle.md_mech.specs.Mechanism.{IsMechanism}
use Rattle.md_mech.specs.Value.{HasValue}
use Rattle.md_asym_sale.specs.Forms.{pay_in}
use Rattle.md_asym_sale.specs.Sale.{IsSale}
use Rattle.md_asym_sale.specs.Values.{pairs_of, marginal_at, surplus_at}
use Rattle.md_asym_sale.proofs.PairLaws.{lt_true, lt_false}
use Rattle.md_asym_laws.specs.Odds.{HasPairOdds, HasPairPays}
use Rattle.md_asym_laws.specs.Worth.{base_of, worth_in}
use Rattle.md_asym_laws.proofs.MechanismWorth.{worth-of_odds, value-of_odds}
use Rattle.md_asym_laws.proofs.OddsLaws.{same-odds, same-pays}
use Rattle.md_asym.specs.Gains.{gain_of, worth_by}

-- numbers for the columns of the program: the odds, then the payments, then nothing
abbrev columns : GeneralSetting → Interim → ℕ → ℤ
columns s interim j =
    if nat_lt j (pairs_of s) then number_at interim.odds j
    else (if nat_lt j (2 * pairs_of s) then number_at interim.pays (j - pairs_of s) else pos 0)

first-columns : (s : GeneralSetting) (interim : Interim) (p : ℕ) → p < pairs_of s → number_at interim.odds p ≡ columns s interim p
first-columns s interim p h = rw (lt_true p (pairs_of s) h) refl

pay-columns : (s : GeneralSetting) (interim : Interim) (p : ℕ) → p < pairs_of s → number_at interim.pays p ≡ pay_in s (columns s interim) p
pay-columns s interim p h = sym (ap₂ (λ x y. x -ℤ y) plus minus ∙ whole (number_at interim.pays p))
  where
    whole : (z : ℤ) → z -ℤ pos 0 ≡ z
    whole z = omega (arith, linear)

    plus : columns s interim (pairs_of s + p) ≡ number_at interim.pays p
    plus =
        let k = pairs_of s in
        let back : k + p - k ≡ p = omega arith in
        rw (lt_false (k + p) k (omega arith), lt_true (k + p) (2 * k) (omega (arith, h))) (ap (number_at interim.pays) back)

    minus : columns s interim (2 * pairs_of s + p) ≡ pos 0
    minus =
        let k = pairs_of s in
        rw (lt_false (2 * k + p) k (omega arith), lt_false (2 * k + p) (2 * k) (omega arith)) refl

-- what they are worth
worth-columns : (s : GeneralSetting) (interim : Interim) → worth_by s interim.den interim.odds interim.pays ≡ worth_in s interim.den (columns s interim)
worth-columns s interim =
    ap (λ z. base_of s *ℤ interim.den +ℤ z)
    (sum_to-same (pairs_of s) (λ p. marginal_at s p *ℤ gain_of s interim.odds interim.pays p)
    (λ p. marginal_at s p *ℤ (surplus_at s p *ℤ columns s interim p +ℤ s.revenue *ℤ pay_in s (columns s interim) p))
    (λ p h. ap₂ (λ x y. marginal_at s p *ℤ (surplus_at s p *ℤ x +ℤ s.revenue *ℤ y)) (first-columns s interim p h) (pay-columns s interim p h)))

-- a fraction that is this is the value of the mechanism
pub value-told : (s : GeneralSetting) (m : Mechanism) (interim : Interim) (value : Frac) → IsSale s → IsShaped s → pos 0 <ℤ interim.den → IsMechanism s m
    → HasPairOdds s m interim.den (number_at interim.odds) → HasPairPays s m interim.den (number_at interim.pays)
    → value.num *ℤ (interim.den *ℤ total_of s) ≡ worth_by s interim.den interim.odds interim.pays *ℤ value.den → HasValue s m value
value-told s m interim value sale shaped positive mechanism odds pays is =
    let x = columns s interim in
    value-of_odds s m interim.den x value positive
    (worth-of_odds s m interim.den x sale shaped mechanism (same-odds s m interim.den (number_at interim.odds) x (first-columns s interim) odds)
    (same-pays s m interim.den (number_at interim.pays) (pay_in s x) (pay-columns s interim) pays))
    (is ∙ ap (λ z. z *ℤ value.den) (worth-columns s interim))

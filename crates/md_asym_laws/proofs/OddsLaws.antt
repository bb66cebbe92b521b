-- Only the numbers of the pairs count for odds, payments and demands, so that lists of them serve as well.
use Rattle.std.proofs.Common.{◌≡◌, ℕ, ◌<◌, ℤ, pos, ◌*ℤ◌, if◌then◌else◌, ap, ◌∙◌}
use Rattle.md_math.specs.Lists.{list_to, number_at}
use Rattle.md_math.specs.Sets.{member}
use Rattle.md_math.proofs.Builders.{get_or-list_to}
use Rattle.md_math.proofs.SumLaws.{sum_to-same}
use Rattle.md_setting.specs.Setting.{GeneralSetting}
use Rattle.md_setting.specs.Meaning.{sizes_of, marginal_of}
use Rattle.md_mech.specs.declared.mechanism.Mechanism.{Mechanism}
use Rattle.md_asym_sale.specs.Forms.{pay_in}
use Rattle.md_asym_sale.specs.Pairs.{pair_number}
use Rattle.md_asym_sale.specs.Sides.{demand_at, demands_in}
use Rattle.md_asym_sale.specs.Values.{pairs_of, marginal_at}
use Rattle.md_asym_laws.specs.Odds.{HasPairOdds, HasPairPays}
use Rattle.md_asym_laws.proofs.PairFacts.{number-in}

pub same-odds : (s : GeneralSetting) (m : Mechanism) (den : ℤ) (f g : ℕ → ℤ) → ((p : ℕ) → p < pairs_of s → f p ≡ g p) → HasPairOdds s m den f → HasPairOdds s m den g
same-odds s m den f g same h = record {
  wins = λ i a b l. h.wins i a b l ∙ ap (λ z. m.den *ℤ (marginal_of s i a *ℤ z)) (same (pair_number (sizes_of s) i a) (number-in s i a b l));
}

pub same-pays : (s : GeneralSetting) (m : Mechanism) (den : ℤ) (f g : ℕ → ℤ) → ((p : ℕ) → p < pairs_of s → f p ≡ g p) → HasPairPays s m den f → HasPairPays s m den g
same-pays s m den f g same h = record {
  paid = λ i a b l. h.paid i a b l ∙ ap (λ z. m.den *ℤ (marginal_of s i a *ℤ z)) (same (pair_number (sizes_of s) i a) (number-in s i a b l));
}

pub same-demands : (s : GeneralSetting) (f g : ℕ → ℤ) (set : ℕ) → ((p : ℕ) → p < pairs_of s → f p ≡ g p) → demands_in s f set ≡ demands_in s g set
same-demands s f g set same =
    sum_to-same (pairs_of s) (λ p. if member set p then demand_at s f p else pos 0) (λ p. if member set p then demand_at s g p else pos 0)
    (λ p h. ap (λ z. if member set p then marginal_at s p *ℤ z else pos 0) (same p h))

-- ---- the lists of a point

pub listed-odds : (s : GeneralSetting) (m : Mechanism) (den : ℤ) (x : ℕ → ℤ) → HasPairOdds s m den (number_at (list_to (pairs_of s) x)) → HasPairOdds s m den x
listed-odds s m den x = same-odds s m den (number_at (list_to (pairs_of s) x)) x (λ p h. get_or-list_to (pairs_of s) x p (pos 0) h)

pub listed-pays : (s : GeneralSetting) (m : Mechanism) (den : ℤ) (x : ℕ → ℤ) → HasPairPays s m den (number_at (list_to (pairs_of s) (pay_in s x))) → HasPairPays s m den (pay_in s x)
listed-pays s m den x = same-pays s m den (number_at (list_to (pairs_of s) (pay_in s x))) (pay_in s x) (λ p h. get_or-list_to (pairs_of s) (pay_in s x) p (pos 0) h)

pub listed-demands : (s : GeneralSetting) (x : ℕ → ℤ) (set : ℕ) → demands_in s (number_at (list_to (pairs_of s) x)) set ≡ demands_in s x set
listed-demands s x set = same-demands s (number_at (list_to (pairs_of s) x)) x set (λ p h. get_or-list_to (pairs_of s) x p (pos 0) h)

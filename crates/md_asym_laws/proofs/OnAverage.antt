-- What an admissible mechanism of a sale gives its agents on average, by what they win and pay.
use Rattle.std.proofs.Common.{ℕ, ◌<◌, pos, ◌*ℤ◌, ◌≤ℤ◌, subst}
use Rattle.std.specs.Prelude.{slice_index}
use Rattle.md_space.specs.Profiles.{replaced}
use Rattle.md_setting.specs.declared.kinds.Truth.{Truth as TruthKind}
use Rattle.md_setting.specs.declared.kinds.Rational.{Rational as RationalKind}
use Rattle.md_setting.specs.Setting.{GeneralSetting}
use Rattle.md_setting.specs.Meaning.{agent_count, sizes_of, outside_of, marginal_of}
use Rattle.md_setting.specs.Shaped.{IsShaped}
use Rattle.md_mech.specs.declared.mechanism.Mechanism.{Mechanism}
use Rattle.md_mech.specs.Admissible.{IsAdmissible}
use Rattle.md_mech.specs.Rationality.{IsInterimRational, IsRationalBy}
use Rattle.md_mech.specs.Truth.{IsBayesTruth, IsTruthfulBy}
use Rattle.md_mech.specs.Utility.{expected_utility, weighted_given}
use Rattle.md_asym_sale.specs.Sale.{IsSale}
use Rattle.md_asym_laws.specs.Averages.{win_in, paid_in}
use Rattle.md_asym_laws.proofs.Utilities.{gain_at, utility-given, nothing-outside}

bayes : (s : GeneralSetting) (m : Mechanism) → IsSale s → IsAdmissible s m → IsBayesTruth s m
bayes s m sale admissible = subst (λ (k : TruthKind). IsTruthfulBy k s m) sale.interim.truth admissible.truthful

interim : (s : GeneralSetting) (m : Mechanism) → IsSale s → IsAdmissible s m → IsInterimRational s m
interim s m sale admissible = subst (λ (k : RationalKind). IsRationalBy k s m) sale.interim.rational admissible.rational

-- no type of an agent gains by telling another one
pub truthful-given : (s : GeneralSetting) (m : Mechanism) (i a b : ℕ) → IsSale s → IsShaped s → IsAdmissible s m → i < agent_count s → a < slice_index (sizes_of s) i → b < slice_index (sizes_of s) i
    → weighted_given s i a (λ t. gain_at s (win_in s m) (paid_in s m) i a (replaced t i b)) ≤ℤ weighted_given s i a (gain_at s (win_in s m) (paid_in s m) i a)
truthful-given s m i a b sale shaped admissible h l k =
    subst (λ z. z ≤ℤ weighted_given s i a (gain_at s (win_in s m) (paid_in s m) i a)) (utility-given s m i a (λ t. replaced t i b) sale shaped h)
    (subst (λ z. weighted_given s i a (λ t. expected_utility s m i t (replaced t i b)) ≤ℤ z) (utility-given s m i a (λ t. t) sale shaped h) (bayes s m sale admissible i a b h l k))

-- nor loses by taking part
pub rational-given : (s : GeneralSetting) (m : Mechanism) (i a : ℕ) → IsSale s → IsShaped s → IsAdmissible s m → i < agent_count s → a < slice_index (sizes_of s) i
    → pos 0 ≤ℤ weighted_given s i a (gain_at s (win_in s m) (paid_in s m) i a)
rational-given s m i a sale shaped admissible h l =
    subst (λ z. z ≤ℤ weighted_given s i a (gain_at s (win_in s m) (paid_in s m) i a)) (nothing-outside s m i a sale h l)
    (subst (λ z. ((m.den *ℤ outside_of s i a) *ℤ marginal_of s i a) ≤ℤ z) (utility-given s m i a (λ t. t) sale shaped h) (interim s m sale admissible i a h l))

-- A mechanism in which truth is best whatever the others report is truthful on average, and one that is rational at each profile is
-- rational on average.
use Rattle.std.proofs.Common.{◌≡◌, ℕ, ℤ, pos, ◌*ℤ◌, ◌≤ℤ◌, List, get_or, subst, inl, inr, arith}
use Rattle.std.specs.Prelude.{slice_index, ◌==◌}
use Rattle.std.proofs.lemmas.Bool.{cases_Bool, eqb-true}
use lib.IntN.{*ℤ_comm}
use Rattle.md_math.specs.Sums.{total_by}
use Rattle.md_math.proofs.Order.{*ℤ-le}
use Rattle.md_math.proofs.Ring.{linear}
use Rattle.md_math.proofs.TotalLaws.{total_by-le}
use Rattle.md_space.specs.AllProfiles.{profiles_of}
use Rattle.md_space.specs.ByType.{where_type}
use Rattle.md_space.specs.Profiles.{IsProfile, replaced}
use Rattle.md_space.proofs.InOrder.{All-profiles_of}
use Rattle.md_space.proofs.TypeSums.{total_given-*ℤ}
use Rattle.md_setting.specs.Setting.{GeneralSetting}
use Rattle.md_setting.specs.Meaning.{sizes_of, weight_of, outside_of}
use Rattle.md_mech.specs.declared.mechanism.Mechanism.{Mechanism}
use Rattle.md_mech.specs.Rationality.{IsExPostRational, IsInterimRational}
use Rattle.md_mech.specs.Truth.{IsDominantTruth, IsBayesTruth}
use Rattle.md_mech.specs.Utility.{expected_utility}

-- what is no greater at each profile in which an agent has a type is no greater in sum
given-le : (sizes : List ℕ) (i x : ℕ) (f g : List ℕ → ℤ) → ((t : List ℕ) → IsProfile sizes t → slice_index t i ≡ x → f t ≤ℤ g t)
    → total_by (where_type i x f) (profiles_of sizes) ≤ℤ total_by (where_type i x g) (profiles_of sizes)
given-le sizes i x f g h =
    total_by-le (where_type i x f) (where_type i x g) (profiles_of sizes) (λ k d l. one (get_or (profiles_of sizes) k d) (All-profiles_of sizes k d l))
  where
    one : (t : List ℕ) → IsProfile sizes t → where_type i x f t ≤ℤ where_type i x g t
    one t p = elim (cases_Bool (slice_index t i == x)) [
      | inl here ↦ rw here (h t p (eqb-true (slice_index t i) x here))
      | inr away ↦ rw away (omega (arith, linear))
    ]

module _ (s : GeneralSetting) (m : Mechanism) (weights : (t : List ℕ) → IsProfile (sizes_of s) t → pos 0 ≤ℤ weight_of s t) where
  pub bayes-from_dominant : IsDominantTruth s m → IsBayesTruth s m
  bayes-from_dominant truth i x b h k l =
      given-le (sizes_of s) i x (λ t. weight_of s t *ℤ expected_utility s m i t (replaced t i b)) (λ t. weight_of s t *ℤ expected_utility s m i t t)
      (λ t p e. *ℤ-le (weight_of s t) (expected_utility s m i t (replaced t i b)) (expected_utility s m i t t) (weights t p) (truth i t b h p l))

  pub interim-from_ex_post : IsExPostRational s m → IsInterimRational s m
  interim-from_ex_post rational i x h k =
      let outside = m.den *ℤ outside_of s i x in
      subst (λ z. z ≤ℤ total_by (where_type i x (λ t. weight_of s t *ℤ expected_utility s m i t t)) (profiles_of (sizes_of s)))
      (total_given-*ℤ (sizes_of s) i x outside (weight_of s))
      (given-le (sizes_of s) i x (λ t. outside *ℤ weight_of s t) (λ t. weight_of s t *ℤ expected_utility s m i t t)
      (λ t p e. subst (λ z. z ≤ℤ (weight_of s t *ℤ expected_utility s m i t t)) (*ℤ_comm (weight_of s t) outside)
      (*ℤ-le (weight_of s t) outside (expected_utility s m i t t) (weights t p)
      (subst (λ y. (m.den *ℤ outside_of s i y) ≤ℤ expected_utility s m i t t) e (rational i t h p)))))

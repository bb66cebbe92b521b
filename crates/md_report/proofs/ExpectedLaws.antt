-- Sums over all profiles as sums over ranks, and how large they can become.
use Rattle.std.proofs.Common.{◌≡◌, ℕ, ◌*◌, ◌^◌, ◌<◌, ◌≤◌, ℤ, ◌-ℤ◌, ◌*ℤ◌, List, get_or, arith, mul-le-mul, le_refl, inl, inr, ap, ◌∙◌, refl}
use Rattle.std.specs.Prelude.{slice_index, ◌==◌}
use Rattle.std.proofs.lemmas.Bool.{cases_Bool}
use lib.IntN.{*ℤ_comm}
use Rattle.md_math.specs.Sizes.{IsWithin}
use Rattle.md_math.specs.Sums.{sum_to}
use Rattle.md_math.proofs.Ring.{ring, linear}
use Rattle.md_math.proofs.SizeLaws.{IsWithin-wider, IsWithin-zero, IsWithin-*ℤ, sum_to-within}
use Rattle.md_math.proofs.TotalLaws.{total_by-same, total_by-sub}
use Rattle.md_space.specs.AllProfiles.{profiles_of}
use Rattle.md_space.specs.ByType.{where_type}
use Rattle.md_space.specs.Profiles.{profile_count, profile_at}
use Rattle.md_space.proofs.InOrder.{total_by-profiles}
use Rattle.md_space.proofs.Ranks.{profile_at-IsProfile}
use Rattle.md_space.proofs.TypeSums.{total_given-same, total_given-*ℤ}
use Rattle.md_setting.specs.Setting.{GeneralSetting}
use Rattle.md_setting.specs.Meaning.{sizes_of, weight_of, marginal_of}
use Rattle.md_setting.specs.Shaped.{IsShaped}
use Rattle.md_mech.specs.declared.mechanism.Mechanism.{Mechanism}
use Rattle.md_mech.specs.Utility.{weighted_given}
use Rattle.md_report.specs.declared.amount.Amount.{Amount}
use Rattle.md_report.specs.declared.amount.Sum.{Sum}
use Rattle.md_report.specs.Amounts.{amount_of, sum_of}
use Rattle.md_report.specs.Averages.{weighted}
use Rattle.md_report.specs.Numbers.{AreNumbers}
use Rattle.md_report.proofs.MeasureLaws.{amount-within, sum-within}

-- ---- over all profiles

-- what the profile of a rank adds
abbrev pub sum_term : GeneralSetting → Mechanism → Sum → ℕ → ℤ
sum_term s m measure r = weight_of s (profile_at (sizes_of s) r) *ℤ sum_of s m measure (profile_at (sizes_of s) r)

pub weighted-by_rank : (s : GeneralSetting) (m : Mechanism) (measure : Sum) → weighted s (sum_of s m measure) ≡ sum_to (profile_count (sizes_of s)) (sum_term s m measure)
weighted-by_rank s m measure = total_by-profiles (sizes_of s) (λ t. weight_of s t *ℤ sum_of s m measure t)

pub weighted-within : (s : GeneralSetting) (m : Mechanism) (measure : Sum) (k : ℕ) → AreNumbers s m → IsShaped s → k ≤ profile_count (sizes_of s)
    → IsWithin (2 ^ 125) (sum_to k (sum_term s m measure))
weighted-within s m measure k numbers shaped fits =
    let few : k ≤ 1024 = omega (arith, fits, shaped.listed.space.few_profiles) in
    IsWithin-wider (k * (1000000 * 2 ^ 94)) (2 ^ 125) (sum_to k (sum_term s m measure)) (omega (arith, mul-le-mul few (le_refl (1000000 * 2 ^ 94))))
    (sum_to-within k (1000000 * 2 ^ 94) (sum_term s m measure)
    (λ r l. IsWithin-*ℤ 1000000 (2 ^ 94) (weight_of s (profile_at (sizes_of s) r)) (sum_of s m measure (profile_at (sizes_of s) r))
    (shaped.weight (profile_at (sizes_of s) r) (profile_at-IsProfile (sizes_of s) r (omega (arith, l, fits)))).within
    (sum-within s m measure (profile_at (sizes_of s) r) numbers shaped)))

-- ---- given a type

abbrev pub given_term : GeneralSetting → Mechanism → ℕ → ℕ → Amount → ℕ → ℤ
given_term s m i a measure r = where_type i a (λ t. weight_of s t *ℤ amount_of s m i measure t) (profile_at (sizes_of s) r)

pub given-by_rank : (s : GeneralSetting) (m : Mechanism) (i a : ℕ) (measure : Amount)
    → weighted_given s i a (amount_of s m i measure) ≡ sum_to (profile_count (sizes_of s)) (given_term s m i a measure)
given-by_rank s m i a measure = total_by-profiles (sizes_of s) (where_type i a (λ t. weight_of s t *ℤ amount_of s m i measure t))

pub term-within : (s : GeneralSetting) (m : Mechanism) (i a r : ℕ) (measure : Amount) → AreNumbers s m → IsShaped s → r < profile_count (sizes_of s)
    → IsWithin (1000000 * 2 ^ 91) (given_term s m i a measure r)
term-within s m i a r measure numbers shaped below =
    let t = profile_at (sizes_of s) r in
    let here : IsWithin (1000000 * 2 ^ 91) (weight_of s t *ℤ amount_of s m i measure t) =
    IsWithin-*ℤ 1000000 (2 ^ 91) (weight_of s t) (amount_of s m i measure t) (shaped.weight t (profile_at-IsProfile (sizes_of s) r below)).within
    (amount-within s m i measure t numbers shaped) in
    elim (cases_Bool (slice_index t i == a)) [
      | inl same ↦ rw same here
      | inr other ↦ rw other (IsWithin-zero (1000000 * 2 ^ 91))
    ]

pub given-within : (s : GeneralSetting) (m : Mechanism) (i a k : ℕ) (measure : Amount) → AreNumbers s m → IsShaped s → k ≤ profile_count (sizes_of s)
    → IsWithin (2 ^ 122) (sum_to k (given_term s m i a measure))
given-within s m i a k measure numbers shaped fits =
    let few : k ≤ 1024 = omega (arith, fits, shaped.listed.space.few_profiles) in
    IsWithin-wider (k * (1000000 * 2 ^ 91)) (2 ^ 122) (sum_to k (given_term s m i a measure)) (omega (arith, mul-le-mul few (le_refl (1000000 * 2 ^ 91))))
    (sum_to-within k (1000000 * 2 ^ 91) (given_term s m i a measure) (λ r l. term-within s m i a r measure numbers shaped (omega (arith, l, fits))))

-- ---- what a sum by weight is of a difference, and of a number that does not change

pub given-sub : (s : GeneralSetting) (i a : ℕ) (f g : List ℕ → ℤ) → weighted_given s i a (λ t. f t -ℤ g t) ≡ weighted_given s i a f -ℤ weighted_given s i a g
given-sub s i a f g =
    total_by-same (where_type i a (λ t. weight_of s t *ℤ (f t -ℤ g t)))
    (λ t. where_type i a (λ u. weight_of s u *ℤ f u) t -ℤ where_type i a (λ u. weight_of s u *ℤ g u) t) (profiles_of (sizes_of s))
    (λ k d _. at (get_or (profiles_of (sizes_of s)) k d))
    ∙ total_by-sub (where_type i a (λ u. weight_of s u *ℤ f u)) (where_type i a (λ u. weight_of s u *ℤ g u)) (profiles_of (sizes_of s))
  where
    spread : (w x y : ℤ) → w *ℤ (x -ℤ y) ≡ (w *ℤ x) -ℤ (w *ℤ y)
    spread w x y = simp ring (omega (arith, linear))

    at : (t : List ℕ) → where_type i a (λ u. weight_of s u *ℤ (f u -ℤ g u)) t ≡ where_type i a (λ u. weight_of s u *ℤ f u) t -ℤ where_type i a (λ u. weight_of s u *ℤ g u) t
    at t = elim (cases_Bool (slice_index t i == a)) [
      | inl here ↦ rw here (spread (weight_of s t) (f t) (g t))
      | inr away ↦ rw away refl
    ]

pub given-constant : (s : GeneralSetting) (i a : ℕ) (c : ℤ) (f : List ℕ → ℤ) → ((t : List ℕ) → slice_index t i ≡ a → f t ≡ c) → weighted_given s i a f ≡ c *ℤ marginal_of s i a
given-constant s i a c f h =
    total_given-same (sizes_of s) i a (λ t. weight_of s t *ℤ f t) (λ t. c *ℤ weight_of s t)
    (λ t p e. ap (λ z. weight_of s t *ℤ z) (h t e) ∙ *ℤ_comm (weight_of s t) c)
    ∙ total_given-*ℤ (sizes_of s) i a c (weight_of s)

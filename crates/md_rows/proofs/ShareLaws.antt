-- The rows that speak of averages as weights of the utilities of single profiles.
use Rattle.std.proofs.Common.{◌≡◌, ◌≢◌, ℕ, zero, suc, ◌<◌, inl, inr, false, ℤ, ◌-ℤ◌, ◌*ℤ◌, neg_ℤ, List, [], ◌∷◌, length, get_or, refl, sym, ap, ◌∙◌, arith}
use Rattle.std.specs.Prelude.{slice_index, ◌==◌}
use Rattle.std.proofs.lemmas.Bool.{cases_Bool, eqb-true, eq-eqb, ne_eqb}
use Rattle.md_math.specs.Sums.{sum_to, total_by}
use Rattle.md_math.proofs.Ring.{linear, *ℤ-+ℤ, *ℤ-neg_ℤ, neg_ℤ-*ℤ, zero-*ℤ}
use Rattle.md_math.proofs.TotalLaws.{total_by-same, total_by-sub}
use Rattle.md_space.specs.ByType.{where_type}
use Rattle.md_space.specs.Profiles.{profile_count, profile_at, replaced}
use Rattle.md_space.specs.AllProfiles.{profiles_of}
use Rattle.md_space.proofs.InOrder.{total_by-profiles}
use Rattle.md_space.proofs.TypeSums.{swapped}
use Rattle.md_setting.specs.Setting.{GeneralSetting}
use Rattle.md_setting.specs.Meaning.{sizes_of, weight_of}
use Rattle.md_mech.specs.Utility.{weighted_given}
use Rattle.md_mech.proofs.RowLaws.{replaced-same}
use Rattle.md_rows.specs.Shares.{bayes_share, interim_share}

-- the true type in the place of a report
pub replaced-back : (t : List ℕ) (i b : ℕ) → replaced (replaced t i b) i (slice_index t i) ≡ t
replaced-back [] i b = refl
replaced-back (x ∷ t) zero b = refl
replaced-back (x ∷ t) (suc i) b = ap (λ l. x ∷ l) (replaced-back t i b)

pub replaced-true : (t : List ℕ) (i a : ℕ) → slice_index t i ≡ a → replaced t i a ≡ t
replaced-true t i a e = replaced-same t i a (eq-eqb a (slice_index t i) (sym e))

-- In what follows h says what an agent has where its first profile has the true types and its second the reports.

-- ---- interim

interim-term : (s : GeneralSetting) (i a : ℕ) (h : List ℕ → List ℕ → ℤ) (t : List ℕ)
    → interim_share s i a t *ℤ h (replaced t i a) t ≡ where_type i a (λ u. weight_of s u *ℤ neg_ℤ (h u u)) t
interim-term s i a h t = elim (cases_Bool (slice_index t i == a)) [
  | inl here ↦ (let e : replaced t i a ≡ t = replaced-true t i a (eqb-true (slice_index t i) a here) in
      rw here (ap (λ u. neg_ℤ (weight_of s t) *ℤ h u t) e ∙ neg_ℤ-*ℤ (weight_of s t) (h t t) ∙ sym (*ℤ-neg_ℤ (weight_of s t) (h t t))))
  | inr away ↦ rw away (zero-*ℤ (h (replaced t i a) t))
]

-- the weights of the interim row make the average lack of utility
pub interim-sum : (s : GeneralSetting) (i a : ℕ) (h : List ℕ → List ℕ → ℤ)
    → sum_to (profile_count (sizes_of s)) (λ r. interim_share s i a (profile_at (sizes_of s) r) *ℤ h (replaced (profile_at (sizes_of s) r) i a) (profile_at (sizes_of s) r))
    ≡ weighted_given s i a (λ t. neg_ℤ (h t t))
interim-sum s i a h =
    sym (total_by-profiles (sizes_of s) (λ t. interim_share s i a t *ℤ h (replaced t i a) t))
    ∙ total_by-same (λ t. interim_share s i a t *ℤ h (replaced t i a) t) (where_type i a (λ u. weight_of s u *ℤ neg_ℤ (h u u))) (profiles_of (sizes_of s))
    (λ k d l. interim-term s i a h (get_or (profiles_of (sizes_of s)) k d))

-- ---- bayes

bayes-term : (s : GeneralSetting) (i a b : ℕ) (h : List ℕ → List ℕ → ℤ) (t : List ℕ) → a ≢ b
    → bayes_share s i a b t *ℤ h (replaced t i a) t
    ≡ where_type i b (λ u. weight_of s (replaced u i a) *ℤ h (replaced u i a) u) t -ℤ where_type i a (λ u. weight_of s u *ℤ h u u) t
bayes-term s i a b h t d = elim (cases_Bool (slice_index t i == a)) [
  | inl here ↦
      let e : slice_index t i ≡ a = eqb-true (slice_index t i) a here in
      let other : (slice_index t i == b) ≡ false = ne_eqb (slice_index t i) b (λ f. d (sym e ∙ f)) in
      let own : h (replaced t i a) t ≡ h t t = ap (λ u. h u t) (replaced-true t i a e) in
      rw (here, other) (ap (λ z. neg_ℤ (weight_of s t) *ℤ z) own ∙ omega (arith, linear, neg_ℤ-*ℤ (weight_of s t) (h t t)))
  | inr away ↦ elim (cases_Bool (slice_index t i == b)) [
    | inl there ↦ rw (away, there) (omega (arith, linear))
    | inr nowhere ↦ rw (away, nowhere) (omega (arith, linear, zero-*ℤ (h (replaced t i a) t)))
  ]
]

gain-term : (s : GeneralSetting) (i a b : ℕ) (h : List ℕ → List ℕ → ℤ) (t : List ℕ)
    → where_type i a (λ u. weight_of s u *ℤ (h u (replaced u i b) -ℤ h u u)) t
    ≡ where_type i a (λ u. weight_of s u *ℤ h u (replaced u i b)) t -ℤ where_type i a (λ u. weight_of s u *ℤ h u u) t
gain-term s i a b h t = elim (cases_Bool (slice_index t i == a)) [
  | inl here ↦ rw here (omega (arith, linear, *ℤ-+ℤ (weight_of s t) (h t (replaced t i b)) (neg_ℤ (h t t)), *ℤ-neg_ℤ (weight_of s t) (h t t)))
  | inr away ↦ rw away (omega (arith, linear))
]

-- the weights of a bayes row make the average gain of the report
pub bayes-sum : (s : GeneralSetting) (i a b : ℕ) (h : List ℕ → List ℕ → ℤ) → i < length (sizes_of s) → a < get_or (sizes_of s) i 0 → b < get_or (sizes_of s) i 0 → a ≢ b
    → sum_to (profile_count (sizes_of s)) (λ r. bayes_share s i a b (profile_at (sizes_of s) r) *ℤ h (replaced (profile_at (sizes_of s) r) i a) (profile_at (sizes_of s) r))
    ≡ weighted_given s i a (λ t. h t (replaced t i b) -ℤ h t t)
bayes-sum s i a b h inside p q d =
    sym (total_by-profiles (sizes_of s) (λ t. bayes_share s i a b t *ℤ h (replaced t i a) t))
    ∙ total_by-same (λ t. bayes_share s i a b t *ℤ h (replaced t i a) t) (λ t. told t -ℤ true_at t) all (λ k e l. bayes-term s i a b h (get_or all k e) d)
    ∙ total_by-sub told true_at all
    ∙ ap (λ z. z -ℤ total_by true_at all) (swapped (sizes_of s) i a b (λ u v. weight_of s u *ℤ h u v) inside p q)
    ∙ sym (total_by-sub lie_at true_at all)
    ∙ sym (total_by-same (where_type i a (λ u. weight_of s u *ℤ (h u (replaced u i b) -ℤ h u u))) (λ t. lie_at t -ℤ true_at t) all (λ k e l. gain-term s i a b h (get_or all k e)))
  where
    all : List (List ℕ)
    all = profiles_of (sizes_of s)

    told : List ℕ → ℤ
    told = where_type i b (λ u. weight_of s (replaced u i a) *ℤ h (replaced u i a) u)

    true_at : List ℕ → ℤ
    true_at = where_type i a (λ u. weight_of s u *ℤ h u u)

    lie_at : List ℕ → ℤ
    lie_at = where_type i a (λ u. weight_of s u *ℤ h u (replaced u i b))

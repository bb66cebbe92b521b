-- A mechanism keeps each row of its setting exactly where it is admissible.
use Rattle.std.proofs.Common.{◌≡◌, ◌<◌, ℕ, ℤ, pos, ◌≤ℤ◌, ◌<ℤ◌, ◌*ℤ◌, Bool, true, false, List, [], ◌∷◌, ◌++◌, get_or, refl, sym, subst, ap, ◌∙◌, inl, inr, arith}
use Rattle.std.specs.Prelude.{slice_index, ◌==◌, if◌then◌else◌}
use Rattle.std.specs.List.{All}
use Rattle.std.proofs.lemmas.Int.{ints}
use Rattle.std.proofs.lemmas.Bool.{cases_Bool, eqb-true, eq-eqb, false≢true}
use Rattle.std.proofs.lemmas.List.{set-get_or}
use Rattle.std.proofs.lemmas.List.Elements.{All-append, All-nil}
use Rattle.md_math.proofs.Builders.{All-up_to, All-up_to_at, All-left, All-right}
use Rattle.md_space.specs.Profiles.{IsProfile, profile_count, profile_at, rank_of, replaced}
use Rattle.md_space.proofs.Ranks.{profile_at-IsProfile, profile_at-rank_of, rank_of-below}
use Rattle.md_mech.specs.declared.broken.Broken.{Broken}
use Rattle.md_mech.specs.declared.mechanism.Mechanism.{Mechanism}
use Rattle.md_setting.specs.Setting.{GeneralSetting}
use Rattle.md_setting.specs.Meaning.{agent_count, sizes_of, weight_of}
use Rattle.md_space.specs.AllProfiles.{profiles_of}
use Rattle.md_math.proofs.Order.{le_from_same}
use Rattle.md_math.proofs.TotalLaws.{total_by-same}
use Rattle.md_setting.specs.declared.kinds.Truth.{Truth}
use Rattle.md_setting.specs.declared.kinds.Truth.TheVariants.{Dominant, Bayes}
use Rattle.md_setting.specs.declared.kinds.Rational.{Rational}
use Rattle.md_setting.specs.declared.kinds.Rational.TheVariants.{None as Free, ExPost, Interim}
use Rattle.md_mech.specs.Mechanism.{IsMechanism}
use Rattle.md_mech.specs.Utility.{expected_utility, weighted_given}
use Rattle.md_mech.specs.Truth.{IsTruthfulBy, IsDominantTruth, IsBayesTruth}
use Rattle.md_mech.specs.Rationality.{IsRationalBy, HasNoDeficit}
use Rattle.md_mech.specs.Admissible.{IsAdmissible}
use Rattle.md_mech.specs.Rows.{dominant_row, bayes_row, ex_post_row, interim_row, deficit_row, profile_row, IsKept, IsFirstBroken, by_report, by_profile, by_type, truth_rows, rational_rows, deficit_rows, conditions_of, left_of}

-- what holds of the rows of each profile holds at each profile
pub by_profile-at : {X : Type 0} (s : GeneralSetting) (P : X → Type 0) (f : List ℕ → List X) (t : List ℕ)
    → IsProfile (sizes_of s) t → All P (by_profile s f) → All P (f t)
by_profile-at s P f t profile all =
    subst (λ u. All P (f u)) (profile_at-rank_of (sizes_of s) t profile)
    (All-up_to_at P (profile_count (sizes_of s)) (rank_of (sizes_of s) t) (λ r. f (profile_at (sizes_of s) r)) (rank_of-below (sizes_of s) t profile) all)

pub all-by_profile : {X : Type 0} (s : GeneralSetting) (P : X → Type 0) (f : List ℕ → List X)
    → ((t : List ℕ) → IsProfile (sizes_of s) t → All P (f t)) → All P (by_profile s f)
all-by_profile s P f each =
    All-up_to P (profile_count (sizes_of s)) (λ r. f (profile_at (sizes_of s) r)) (λ r below. each (profile_at (sizes_of s) r) (profile_at-IsProfile (sizes_of s) r below))

-- a list of one
pub all-one : {X : Type 0} (P : X → Type 0) (x : X) → P x → All P (x ∷ [])
all-one P x holds = λ k d within. let at : k ≡ 0 = omega arith in rw at holds

pub one-all : {X : Type 0} (P : X → Type 0) (x : X) → All P (x ∷ []) → P x
one-all P x all = all 0 x (omega arith)

-- the rows of the reports other than the true type
pub all-by_report : {X : Type 0} (P : X → Type 0) (n a : ℕ) (f : ℕ → X) → ((b : ℕ) → b < n → P (f b)) → All P (by_report n a f)
all-by_report P n a f each =
    All-up_to P n (λ b. if b == a then [] else f b ∷ [])
    (λ b below. elim (cases_Bool (b == a)) [
      | inl same ↦ rw same (All-nil P)
      | inr other ↦ rw other (all-one P (f b) (each b below))
    ])

pub by_report-at : {X : Type 0} (P : X → Type 0) (n a : ℕ) (f : ℕ → X) (b : ℕ) → b < n → (b == a) ≡ false → All P (by_report n a f) → P (f b)
by_report-at P n a f b below other all =
    one-all P (f b) (subst (λ (here : Bool). All P (if here then [] else f b ∷ [])) other (All-up_to_at P n b (λ c. if c == a then [] else f c ∷ []) below all))

-- a true report in place of itself changes nothing
pub replaced-same : (t : List ℕ) (i b : ℕ) → (b == slice_index t i) ≡ true → replaced t i b ≡ t
replaced-same t i b same = rw (eqb-true b (slice_index t i) same) (set-get_or t i 0)

pub dominant-kept : (s : GeneralSetting) (m : Mechanism) → IsDominantTruth s m → All (IsKept s m) (truth_rows Dominant s)
dominant-kept s m truth =
    All-up_to (IsKept s m) (agent_count s) (λ i. by_profile s (λ t. by_report (slice_index (sizes_of s) i) (slice_index t i) (dominant_row i t)))
    (λ i agent. all-by_profile s (IsKept s m) (λ t. by_report (slice_index (sizes_of s) i) (slice_index t i) (dominant_row i t))
    (λ t profile. all-by_report (IsKept s m) (slice_index (sizes_of s) i) (slice_index t i) (dominant_row i t) (λ b below. truth i t b agent profile below)))

pub kept-dominant : (s : GeneralSetting) (m : Mechanism) → All (IsKept s m) (truth_rows Dominant s) → IsDominantTruth s m
kept-dominant s m all i t b agent profile below =
    let of_agent = All-up_to_at (IsKept s m) (agent_count s) i (λ j. by_profile s (λ u. by_report (slice_index (sizes_of s) j) (slice_index u j) (dominant_row j u))) agent all in
    let of_profile = by_profile-at s (IsKept s m) (λ u. by_report (slice_index (sizes_of s) i) (slice_index u i) (dominant_row i u)) t profile of_agent in
    elim (cases_Bool (b == slice_index t i)) [
      | inl same ↦ le_from_same (expected_utility s m i t (replaced t i b)) (expected_utility s m i t t) (ap (expected_utility s m i t) (replaced-same t i b same))
      | inr other ↦ by_report-at (IsKept s m) (slice_index (sizes_of s) i) (slice_index t i) (dominant_row i t) b below other of_profile
    ]

pub bayes-kept : (s : GeneralSetting) (m : Mechanism) → IsBayesTruth s m → All (IsKept s m) (truth_rows Bayes s)
bayes-kept s m truth =
    All-up_to (IsKept s m) (agent_count s) (λ i. by_type s i (λ a. by_report (slice_index (sizes_of s) i) a (bayes_row i a)))
    (λ i agent. All-up_to (IsKept s m) (slice_index (sizes_of s) i) (λ a. by_report (slice_index (sizes_of s) i) a (bayes_row i a))
    (λ a kind. all-by_report (IsKept s m) (slice_index (sizes_of s) i) a (bayes_row i a) (λ b below. truth i a b agent kind below)))

-- where the true type is reported the two sums are one
pub given-same : (s : GeneralSetting) (m : Mechanism) (i a b : ℕ) → (b == a) ≡ true
    → weighted_given s i a (λ t. expected_utility s m i t (replaced t i b)) ≡ weighted_given s i a (λ t. expected_utility s m i t t)
given-same s m i a b same =
    total_by-same (λ t. if slice_index t i == a then weight_of s t *ℤ expected_utility s m i t (replaced t i b) else pos 0)
    (λ t. if slice_index t i == a then weight_of s t *ℤ expected_utility s m i t t else pos 0) (profiles_of (sizes_of s))
    (λ k d _. at (get_or (profiles_of (sizes_of s)) k d))
  where
    at : (t : List ℕ) → (if slice_index t i == a then weight_of s t *ℤ expected_utility s m i t (replaced t i b) else pos 0)
        ≡ (if slice_index t i == a then weight_of s t *ℤ expected_utility s m i t t else pos 0)
    at t = elim (cases_Bool (slice_index t i == a)) [
      | inl here ↦
          let true_type : slice_index t i ≡ a = eqb-true (slice_index t i) a here in
          let report : b ≡ slice_index t i = eqb-true b a same ∙ sym true_type in
          ap (λ r. if slice_index t i == a then weight_of s t *ℤ expected_utility s m i t r else pos 0) (replaced-same t i b (eq-eqb b (slice_index t i) report))
      | inr away ↦ rw away refl
    ]

pub kept-bayes : (s : GeneralSetting) (m : Mechanism) → All (IsKept s m) (truth_rows Bayes s) → IsBayesTruth s m
kept-bayes s m all i a b agent kind below =
    let of_agent = All-up_to_at (IsKept s m) (agent_count s) i (λ j. by_type s j (λ c. by_report (slice_index (sizes_of s) j) c (bayes_row j c))) agent all in
    let of_type = All-up_to_at (IsKept s m) (slice_index (sizes_of s) i) a (λ c. by_report (slice_index (sizes_of s) i) c (bayes_row i c)) kind of_agent in
    elim (cases_Bool (b == a)) [
      | inl same ↦ le_from_same (weighted_given s i a (λ t. expected_utility s m i t (replaced t i b))) (weighted_given s i a (λ t. expected_utility s m i t t)) (given-same s m i a b same)
      | inr other ↦ by_report-at (IsKept s m) (slice_index (sizes_of s) i) a (bayes_row i a) b below other of_type
    ]

pub truth-kept : (kind : Truth) (s : GeneralSetting) (m : Mechanism) → IsTruthfulBy kind s m → All (IsKept s m) (truth_rows kind s)
truth-kept Dominant s m truth = dominant-kept s m truth
truth-kept Bayes s m truth = bayes-kept s m truth

pub kept-truth : (kind : Truth) (s : GeneralSetting) (m : Mechanism) → All (IsKept s m) (truth_rows kind s) → IsTruthfulBy kind s m
kept-truth Dominant s m all = kept-dominant s m all
kept-truth Bayes s m all = kept-bayes s m all

pub rational-kept : (kind : Rational) (s : GeneralSetting) (m : Mechanism) → IsRationalBy kind s m → All (IsKept s m) (rational_rows kind s)
rational-kept Free s m rational = All-nil (IsKept s m)
rational-kept ExPost s m rational =
    All-up_to (IsKept s m) (agent_count s) (λ i. by_profile s (λ t. ex_post_row i t ∷ []))
    (λ i agent. all-by_profile s (IsKept s m) (λ t. ex_post_row i t ∷ [])
    (λ t profile. all-one (IsKept s m) (ex_post_row i t) (rational i t agent profile)))
rational-kept Interim s m rational =
    All-up_to (IsKept s m) (agent_count s) (λ i. by_type s i (λ a. interim_row i a ∷ []))
    (λ i agent. All-up_to (IsKept s m) (slice_index (sizes_of s) i) (λ a. interim_row i a ∷ [])
    (λ a kind. all-one (IsKept s m) (interim_row i a) (rational i a agent kind)))

pub kept-rational : (kind : Rational) (s : GeneralSetting) (m : Mechanism) → All (IsKept s m) (rational_rows kind s) → IsRationalBy kind s m
kept-rational Free s m all = tt
kept-rational ExPost s m all = λ i t agent profile.
    one-all (IsKept s m) (ex_post_row i t)
    (by_profile-at s (IsKept s m) (λ u. ex_post_row i u ∷ []) t profile
    (All-up_to_at (IsKept s m) (agent_count s) i (λ j. by_profile s (λ u. ex_post_row j u ∷ [])) agent all))
kept-rational Interim s m all = λ i a agent kind.
    one-all (IsKept s m) (interim_row i a)
    (All-up_to_at (IsKept s m) (slice_index (sizes_of s) i) a (λ c. interim_row i c ∷ []) kind
    (All-up_to_at (IsKept s m) (agent_count s) i (λ j. by_type s j (λ c. interim_row j c ∷ [])) agent all))

pub deficit-kept : (on : Bool) (s : GeneralSetting) (m : Mechanism) → s.no_deficit ≡ on → HasNoDeficit s m → All (IsKept s m) (deficit_rows on s)
deficit-kept true s m same none = all-by_profile s (IsKept s m) (λ t. deficit_row t ∷ []) (λ t profile. all-one (IsKept s m) (deficit_row t) (none same t profile))
deficit-kept false s m same none = All-nil (IsKept s m)

pub kept-deficit : (on : Bool) (s : GeneralSetting) (m : Mechanism) → s.no_deficit ≡ on → All (IsKept s m) (deficit_rows on s) → HasNoDeficit s m
kept-deficit true s m same all = λ _ t profile. one-all (IsKept s m) (deficit_row t) (by_profile-at s (IsKept s m) (λ u. deficit_row u ∷ []) t profile all)
kept-deficit false s m same all = λ asked _ _. absurd (false≢true (sym same ∙ asked))

-- the chances of each profile add to the whole
pub profiles-kept : (s : GeneralSetting) (m : Mechanism) → IsMechanism s m → All (IsKept s m) (by_profile s (λ t. profile_row t ∷ []))
profiles-kept s m mechanism =
    all-by_profile s (IsKept s m) (λ t. profile_row t ∷ [])
    (λ t profile. all-one (IsKept s m) (profile_row t) (le_from_same m.den (left_of s m (profile_row t)) (sym (mechanism.whole t profile))))

-- each row of an admissible mechanism is kept
pub admissible-kept : (s : GeneralSetting) (m : Mechanism) → IsAdmissible s m → All (IsKept s m) (conditions_of s)
admissible-kept s m admissible =
    All-append (IsKept s m) (truth_rows s.truth s ++ rational_rows s.rational s ++ deficit_rows s.no_deficit s) (by_profile s (λ t. profile_row t ∷ []))
    (All-append (IsKept s m) (truth_rows s.truth s ++ rational_rows s.rational s) (deficit_rows s.no_deficit s)
    (All-append (IsKept s m) (truth_rows s.truth s) (rational_rows s.rational s)
    (truth-kept s.truth s m admissible.truthful) (rational-kept s.rational s m admissible.rational))
    (deficit-kept s.no_deficit s m refl admissible.no_deficit))
    (profiles-kept s m admissible.mechanism)

-- a mechanism that keeps each row is admissible
pub kept-admissible : (s : GeneralSetting) (m : Mechanism) → IsMechanism s m → All (IsKept s m) (conditions_of s) → IsAdmissible s m
kept-admissible s m mechanism all =
    let demands = All-left (IsKept s m) (truth_rows s.truth s ++ rational_rows s.rational s ++ deficit_rows s.no_deficit s) (by_profile s (λ t. profile_row t ∷ [])) all in
    let first = All-left (IsKept s m) (truth_rows s.truth s ++ rational_rows s.rational s) (deficit_rows s.no_deficit s) demands in
    record {
      mechanism = mechanism;
      truthful = kept-truth s.truth s m (All-left (IsKept s m) (truth_rows s.truth s) (rational_rows s.rational s) first);
      rational = kept-rational s.rational s m (All-right (IsKept s m) (truth_rows s.truth s) (rational_rows s.rational s) first);
      no_deficit = kept-deficit s.no_deficit s m refl (All-right (IsKept s m) (truth_rows s.truth s ++ rational_rows s.rational s) (deficit_rows s.no_deficit s) demands);
    }

lt-not_le : (a b : ℤ) → a <ℤ b → b ≤ℤ a → ⊥
lt-not_le a b less atmost = omega (arith, ints)

-- a mechanism that breaks a row is not admissible
pub broken-not_admissible : (s : GeneralSetting) (m : Mechanism) (start : ℕ) (broken : Broken)
    → IsFirstBroken s m (conditions_of s) start broken → ¬ IsAdmissible s m
broken-not_admissible s m start broken first admissible =
    let all : All (IsKept s m) (first.before ++ first.row ∷ first.after) = subst (All (IsKept s m)) first.parts (admissible-kept s m admissible) in
    let kept : IsKept s m first.row = All-right (IsKept s m) first.before (first.row ∷ first.after) all 0 first.row (omega arith) in
    lt-not_le broken.left broken.right first.less
    (subst (λ z. broken.right ≤ℤ z) (sym first.left) (subst (λ z. z ≤ℤ left_of s m first.row) (sym first.right) kept))

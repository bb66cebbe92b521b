-- The conditions of a setting one by one, in the order of the rows of its linear program.
use Rattle.std.specs.Prelude.{◌+◌, ◌≡◌, ℕ, ℤ, pos, ◌≤ℤ◌, ◌<ℤ◌, ◌*ℤ◌, Bool, true, false, List, [], ◌∷◌, ◌++◌, length, slice_index, ◌==◌, if◌then◌else◌}
use Rattle.std.specs.List.{All}
use Rattle.md_math.specs.Lists.{up_to}
use Rattle.md_math.specs.Sums.{sum_to}
use Rattle.md_space.specs.Profiles.{profile_count, profile_at, replaced}
use Rattle.md_setting.specs.declared.kinds.Truth.{Truth}
use Rattle.md_setting.specs.declared.kinds.Truth.TheVariants.{Dominant, Bayes}
use Rattle.md_setting.specs.declared.kinds.Rational.{Rational}
use Rattle.md_setting.specs.declared.kinds.Rational.TheVariants.{None as Free, ExPost, Interim}
use Rattle.md_setting.specs.Setting.{GeneralSetting}
use Rattle.md_setting.specs.Meaning.{agent_count, outcome_count, sizes_of, outside_of, marginal_of}
use Rattle.md_mech.specs.declared.broken.Broken.{Broken}
use Rattle.md_mech.specs.declared.mechanism.Mechanism.{Mechanism}
use Rattle.md_mech.specs.Mechanism.{chance_of, pay_of}
use Rattle.md_mech.specs.Utility.{expected_utility, weighted_given}

-- one condition: of truth at an agent, a profile (or type) and a report, of rationality at an agent and a profile
-- (or type), of no deficit at a profile, and that the chances of a profile add to the whole
pub data Condition : Type 0 where
  dominant_row : ℕ → List ℕ → ℕ → Condition
  bayes_row : ℕ → ℕ → ℕ → Condition
  ex_post_row : ℕ → List ℕ → Condition
  interim_row : ℕ → ℕ → Condition
  deficit_row : List ℕ → Condition
  profile_row : List ℕ → Condition

-- the side that is to be at least the other one
abbrev pub left_of : GeneralSetting → Mechanism → Condition → ℤ
left_of s m (dominant_row i t b) = expected_utility s m i t t
left_of s m (bayes_row i a b) = weighted_given s i a (λ t. expected_utility s m i t t)
left_of s m (ex_post_row i t) = expected_utility s m i t t
left_of s m (interim_row i a) = weighted_given s i a (λ t. expected_utility s m i t t)
left_of s m (deficit_row t) = sum_to (agent_count s) (λ i. pay_of s m i t)
left_of s m (profile_row t) = sum_to (outcome_count s) (chance_of s m t)

abbrev pub right_of : GeneralSetting → Mechanism → Condition → ℤ
right_of s m (dominant_row i t b) = expected_utility s m i t (replaced t i b)
right_of s m (bayes_row i a b) = weighted_given s i a (λ t. expected_utility s m i t (replaced t i b))
right_of s m (ex_post_row i t) = m.den *ℤ outside_of s i (slice_index t i)
right_of s m (interim_row i a) = (m.den *ℤ outside_of s i a) *ℤ marginal_of s i a
right_of s m (deficit_row t) = pos 0
right_of s m (profile_row t) = m.den

-- the condition holds
abbrev pub IsKept : GeneralSetting → Mechanism → Condition → Type 0
IsKept s m row = right_of s m row ≤ℤ left_of s m row

-- the row of a report, where it is not the true type
abbrev pub unless_true : {X : Type 0} → ℕ → (ℕ → X) → ℕ → List X
unless_true a f b = if b == a then [] else f b ∷ []

-- a row for each report below n other than the true type, ascending
abbrev pub by_report : {X : Type 0} → ℕ → ℕ → (ℕ → X) → List X
by_report n a f = up_to n (unless_true a f)

-- a list for each profile of the setting, one after another in the order of ranks
abbrev pub by_profile : {X : Type 0} → GeneralSetting → (List ℕ → List X) → List X
by_profile s f = up_to (profile_count (sizes_of s)) (λ r. f (profile_at (sizes_of s) r))

-- a list for each agent, one after another
abbrev pub by_agent : {X : Type 0} → GeneralSetting → (ℕ → List X) → List X
by_agent s f = up_to (agent_count s) f

-- a list for each type of an agent, one after another
abbrev pub by_type : {X : Type 0} → GeneralSetting → ℕ → (ℕ → List X) → List X
by_type s i f = up_to (slice_index (sizes_of s) i) f

-- that no report of an agent is better than its true type: at a profile, and at all profiles
abbrev pub dominant_row_of : GeneralSetting → ℕ → List ℕ → ℕ → List Condition
dominant_row_of s i t = unless_true (slice_index t i) (dominant_row i t)

abbrev pub dominant_rows_at : GeneralSetting → ℕ → List ℕ → List Condition
dominant_rows_at s i t = by_report (slice_index (sizes_of s) i) (slice_index t i) (dominant_row i t)

abbrev pub dominant_rows : GeneralSetting → ℕ → List Condition
dominant_rows s i = by_profile s (dominant_rows_at s i)

-- the same on average, for a type of an agent, and for all its types
abbrev pub bayes_row_of : GeneralSetting → ℕ → ℕ → ℕ → List Condition
bayes_row_of s i a = unless_true a (bayes_row i a)

abbrev pub bayes_rows_at : GeneralSetting → ℕ → ℕ → List Condition
bayes_rows_at s i a = by_report (slice_index (sizes_of s) i) a (bayes_row i a)

abbrev pub bayes_rows : GeneralSetting → ℕ → List Condition
bayes_rows s i = by_type s i (bayes_rows_at s i)

abbrev pub truth_rows : Truth → GeneralSetting → List Condition
truth_rows Dominant s =
    by_agent s (dominant_rows s)
truth_rows Bayes s =
    by_agent s (bayes_rows s)

-- that an agent gets what it has outside: at each profile, or for each of its types
abbrev pub ex_post_rows : GeneralSetting → ℕ → List Condition
ex_post_rows s i = by_profile s (λ t. ex_post_row i t ∷ [])

abbrev pub interim_rows : GeneralSetting → ℕ → List Condition
interim_rows s i = by_type s i (λ a. interim_row i a ∷ [])

abbrev pub rational_rows : Rational → GeneralSetting → List Condition
rational_rows Free s = []
rational_rows ExPost s = by_agent s (ex_post_rows s)
rational_rows Interim s = by_agent s (interim_rows s)

abbrev pub deficit_rows : Bool → GeneralSetting → List Condition
deficit_rows true s = by_profile s (λ t. deficit_row t ∷ [])
deficit_rows false s = []

-- the conditions on truth, rationality and the deficit
abbrev pub demand_rows : GeneralSetting → List Condition
demand_rows s = truth_rows s.truth s ++ rational_rows s.rational s ++ deficit_rows s.no_deficit s

-- all conditions, in their order
abbrev pub conditions_of : GeneralSetting → List Condition
conditions_of s = demand_rows s ++ by_profile s (λ t. profile_row t ∷ [])

-- Of some rows, the first of which has the number start, the one that is named is the first that is not kept, and
-- both its sides are given.
pub record IsFirstBroken (s : GeneralSetting) (m : Mechanism) (rows : List Condition) (start : ℕ) (broken : Broken) : Type 0 where
  pub before : List Condition
  pub row : Condition
  pub after : List Condition
  pub parts : rows ≡ before ++ row ∷ after
  pub kept : All (IsKept s m) before
  pub number : broken.row ≡ start + length before
  pub left : broken.left ≡ left_of s m row
  pub right : broken.right ≡ right_of s m row
  pub less : broken.left <ℤ broken.right

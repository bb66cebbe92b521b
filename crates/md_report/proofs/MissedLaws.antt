-- What is missed of a condition is by how much its left side falls short of its right side.
use Rattle.std.proofs.Common.{◌≡◌, ◌↔◌, ℕ, ◌<◌, ℤ, pos, ◌-ℤ◌, ◌*ℤ◌, neg_ℤ, ◌≤ℤ◌, ◌<ℤ◌, Bool, true, false, [], ◌∷◌, ◌++◌, All, length, slice_index, Some, refl, ap, ◌∙◌, subst, arith}
use Rattle.std.specs.Prelude.{slice_get}
use Rattle.std.proofs.lemmas.Int.{ints}
use Rattle.std.proofs.lemmas.List.Elements.{All-nil, All-append}
use Rattle.std.proofs.lemmas.Option.{slice_get_within, get_or_from_slice_get}
use Rattle.md_math.proofs.Builders.{All-up_to}
use Rattle.md_math.proofs.Ring.{linear}
use Rattle.md_space.specs.Profiles.{profile_count, profile_at, replaced}
use Rattle.md_setting.specs.declared.kinds.Truth.{Truth}
use Rattle.md_setting.specs.declared.kinds.Truth.TheVariants.{Dominant, Bayes}
use Rattle.md_setting.specs.declared.kinds.Rational.{Rational}
use Rattle.md_setting.specs.declared.kinds.Rational.TheVariants.{None as Free, ExPost, Interim}
use Rattle.md_setting.specs.Setting.{GeneralSetting}
use Rattle.md_setting.specs.Meaning.{agent_count, sizes_of, outside_of}
use Rattle.md_mech.specs.declared.mechanism.Mechanism.{Mechanism}
use Rattle.md_mech.specs.Rows.{Condition, dominant_row, bayes_row, ex_post_row, interim_row, deficit_row, left_of, right_of, by_report, truth_rows, rational_rows, deficit_rows, demand_rows, dominant_rows, bayes_rows, ex_post_rows, interim_rows}
use Rattle.md_mech.specs.Utility.{expected_utility, weighted_given}
use Rattle.md_mech.proofs.RowLaws.{all-by_report, all-one}
use Rattle.md_report.specs.Regret.{payments_at}
use Rattle.md_report.specs.Shortfalls.{missed}
use Rattle.md_report.proofs.ExpectedLaws.{given-sub, given-constant}

from_nothing : (z : ℤ) → neg_ℤ z ≡ pos 0 -ℤ z
from_nothing z = omega (arith, linear)

pub bayes-missed : (s : GeneralSetting) (m : Mechanism) (i a b : ℕ) → missed s m (bayes_row i a b) ≡ right_of s m (bayes_row i a b) -ℤ left_of s m (bayes_row i a b)
bayes-missed s m i a b = given-sub s i a (λ t. expected_utility s m i t (replaced t i b)) (λ t. expected_utility s m i t t)

pub interim-missed : (s : GeneralSetting) (m : Mechanism) (i a : ℕ) → missed s m (interim_row i a) ≡ right_of s m (interim_row i a) -ℤ left_of s m (interim_row i a)
interim-missed s m i a =
    given-sub s i a (λ t. m.den *ℤ outside_of s i (slice_index t i)) (λ t. expected_utility s m i t t)
    ∙ ap (λ z. z -ℤ weighted_given s i a (λ t. expected_utility s m i t t))
    (given-constant s i a (m.den *ℤ outside_of s i a) (λ t. m.den *ℤ outside_of s i (slice_index t i)) (λ t e. ap (λ b. m.den *ℤ outside_of s i b) e))

-- a condition of which this is so
abbrev pub IsMissedOf : GeneralSetting → Mechanism → Condition → Type 0
IsMissedOf s m c = missed s m c ≡ right_of s m c -ℤ left_of s m c

truth-missed : (kind : Truth) (s : GeneralSetting) (m : Mechanism) → All (IsMissedOf s m) (truth_rows kind s)
truth-missed Dominant s m =
    All-up_to (IsMissedOf s m) (agent_count s) (dominant_rows s)
    (λ i h. All-up_to (IsMissedOf s m) (profile_count (sizes_of s)) (λ r. by_report (slice_index (sizes_of s) i) (slice_index (profile_at (sizes_of s) r) i) (dominant_row i (profile_at (sizes_of s) r)))
    (λ r l. all-by_report (IsMissedOf s m) (slice_index (sizes_of s) i) (slice_index (profile_at (sizes_of s) r) i) (dominant_row i (profile_at (sizes_of s) r)) (λ b k. refl)))
truth-missed Bayes s m =
    All-up_to (IsMissedOf s m) (agent_count s) (bayes_rows s)
    (λ i h. All-up_to (IsMissedOf s m) (slice_index (sizes_of s) i) (λ a. by_report (slice_index (sizes_of s) i) a (bayes_row i a))
    (λ a l. all-by_report (IsMissedOf s m) (slice_index (sizes_of s) i) a (bayes_row i a) (λ b k. bayes-missed s m i a b)))

rational-missed : (kind : Rational) (s : GeneralSetting) (m : Mechanism) → All (IsMissedOf s m) (rational_rows kind s)
rational-missed Free s m = All-nil (IsMissedOf s m)
rational-missed ExPost s m =
    All-up_to (IsMissedOf s m) (agent_count s) (ex_post_rows s)
    (λ i h. All-up_to (IsMissedOf s m) (profile_count (sizes_of s)) (λ r. ex_post_row i (profile_at (sizes_of s) r) ∷ [])
    (λ r l. all-one (IsMissedOf s m) (ex_post_row i (profile_at (sizes_of s) r)) refl))
rational-missed Interim s m =
    All-up_to (IsMissedOf s m) (agent_count s) (interim_rows s)
    (λ i h. All-up_to (IsMissedOf s m) (slice_index (sizes_of s) i) (λ a. interim_row i a ∷ [])
    (λ a l. all-one (IsMissedOf s m) (interim_row i a) (interim-missed s m i a)))

deficit-missed : (on : Bool) (s : GeneralSetting) (m : Mechanism) → All (IsMissedOf s m) (deficit_rows on s)
deficit-missed true s m =
    All-up_to (IsMissedOf s m) (profile_count (sizes_of s)) (λ r. deficit_row (profile_at (sizes_of s) r) ∷ [])
    (λ r l. all-one (IsMissedOf s m) (deficit_row (profile_at (sizes_of s) r)) (from_nothing (payments_at s m (profile_at (sizes_of s) r))))
deficit-missed false s m = All-nil (IsMissedOf s m)

-- each condition on truth, rationality and the deficit
demands-missed : (s : GeneralSetting) (m : Mechanism) → All (IsMissedOf s m) (demand_rows s)
demands-missed s m =
    All-append (IsMissedOf s m) (truth_rows s.truth s ++ rational_rows s.rational s) (deficit_rows s.no_deficit s)
    (All-append (IsMissedOf s m) (truth_rows s.truth s) (rational_rows s.rational s) (truth-missed s.truth s m) (rational-missed s.rational s m))
    (deficit-missed s.no_deficit s m)

demand-missed : (s : GeneralSetting) (m : Mechanism) (c : Condition) (row : ℕ) → slice_get (demand_rows s) row ≡ Some c → IsMissedOf s m c
demand-missed s m c row e =
    let inside : row < length (demand_rows s) = slice_get_within (demand_rows s) row c e in
    subst (IsMissedOf s m) (get_or_from_slice_get (demand_rows s) row c c e) (demands-missed s m row c inside)

above : (d : ℤ) → pos 1 ≤ℤ d → pos 0 <ℤ d
above d h = omega (arith, ints, h)

pub den-positive : (m : Mechanism) → pos 1 ≤ℤ m.den → pos 0 <ℤ m.den
den-positive m h = above m.den h

pub at_most_0 : (l r x : ℤ) → x ≡ r -ℤ l → (r ≤ℤ l) ↔ (x ≤ℤ pos 0)
at_most_0 l r x e = ((λ h. omega (arith, linear, e, h)), (λ h. omega (arith, linear, e, h)))

same-0 : (l r x : ℤ) → x ≡ r -ℤ l → (x ≡ pos 0) ↔ (l -ℤ r ≡ pos 0)
same-0 l r x e = ((λ h. omega (arith, linear, e, h)), (λ h. omega (arith, linear, e, h)))

-- it holds with equality where what is missed is 0
pub tight-missed : (s : GeneralSetting) (m : Mechanism) (c : Condition) (row : ℕ) → slice_get (demand_rows s) row ≡ Some c → (missed s m c ≡ pos 0) ↔ (left_of s m c -ℤ right_of s m c ≡ pos 0)
tight-missed s m c row e = same-0 (left_of s m c) (right_of s m c) (missed s m c) (demand-missed s m c row e)

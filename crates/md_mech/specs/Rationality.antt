-- When agents take part of their own will, and when the designer pays nothing on balance.
use Rattle.std.specs.Prelude.{◌≡◌, ◌<◌, ℕ, pos, ◌≤ℤ◌, ◌*ℤ◌, true, List, slice_index}
use Rattle.md_math.specs.Sums.{sum_to}
use Rattle.md_space.specs.Profiles.{IsProfile}
use Rattle.md_setting.specs.declared.kinds.Rational.{Rational}
use Rattle.md_setting.specs.declared.kinds.Rational.TheVariants.{None as Free, ExPost, Interim}
use Rattle.md_setting.specs.Setting.{GeneralSetting}
use Rattle.md_setting.specs.Meaning.{agent_count, sizes_of, outside_of, marginal_of}
use Rattle.md_mech.specs.declared.mechanism.Mechanism.{Mechanism}
use Rattle.md_mech.specs.Mechanism.{pay_of}
use Rattle.md_mech.specs.Utility.{expected_utility, weighted_given}

-- at each profile each agent gets at least what it has outside
abbrev pub IsExPostRational : GeneralSetting → Mechanism → Type 0
IsExPostRational s m =
    (i : ℕ) (t : List ℕ) → i < agent_count s → IsProfile (sizes_of s) t
    → (m.den *ℤ outside_of s i (slice_index t i)) ≤ℤ expected_utility s m i t t

-- each type of each agent gets on average at least what it has outside
abbrev pub IsInterimRational : GeneralSetting → Mechanism → Type 0
IsInterimRational s m =
    (i a : ℕ) → i < agent_count s → a < slice_index (sizes_of s) i
    → ((m.den *ℤ outside_of s i a) *ℤ marginal_of s i a) ≤ℤ weighted_given s i a (λ t. expected_utility s m i t t)

abbrev pub IsRationalBy : Rational → GeneralSetting → Mechanism → Type 0
IsRationalBy Free s m = Unit {0}
IsRationalBy ExPost s m = IsExPostRational s m
IsRationalBy Interim s m = IsInterimRational s m

-- the rationality that the setting asks for
abbrev pub IsRational : GeneralSetting → Mechanism → Type 0
IsRational s m = IsRationalBy s.rational s m

-- where no deficit is allowed, the payments of each profile add to at least 0
abbrev pub HasNoDeficit : GeneralSetting → Mechanism → Type 0
HasNoDeficit s m =
    s.no_deficit ≡ true → (t : List ℕ) → IsProfile (sizes_of s) t → pos 0 ≤ℤ sum_to (agent_count s) (λ i. pay_of s m i t)

-- The weights of the utilities of profiles in the rows that speak of averages.
use Rattle.std.specs.Prelude.{ℕ, ℤ, pos, neg_ℤ, List, slice_index, ◌==◌, if◌then◌else◌}
use Rattle.md_space.specs.Profiles.{replaced}
use Rattle.md_setting.specs.Setting.{GeneralSetting}
use Rattle.md_setting.specs.Meaning.{weight_of}

-- in the row of agent i of type a and the report b: a profile with the type is taken away by its weight, and one with the
-- report counts by the weight of the profile with the type in its place
abbrev pub bayes_share : GeneralSetting → ℕ → ℕ → ℕ → List ℕ → ℤ
bayes_share s i a b t =
    if slice_index t i == a then neg_ℤ (weight_of s t)
    else (if slice_index t i == b then weight_of s (replaced t i a) else pos 0)

-- in the row of agent i of type a
abbrev pub interim_share : GeneralSetting → ℕ → ℕ → List ℕ → ℤ
interim_share s i a t = if slice_index t i == a then neg_ℤ (weight_of s t) else pos 0

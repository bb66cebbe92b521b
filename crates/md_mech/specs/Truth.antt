-- When telling the truth is best.
use Rattle.std.specs.Prelude.{◌<◌, ℕ, ◌≤ℤ◌, List, slice_index}
use Rattle.md_space.specs.Profiles.{IsProfile, replaced}
use Rattle.md_setting.specs.declared.kinds.Truth.{Truth}
use Rattle.md_setting.specs.declared.kinds.Truth.TheVariants.{Dominant, Bayes}
use Rattle.md_setting.specs.Setting.{GeneralSetting}
use Rattle.md_setting.specs.Meaning.{agent_count, sizes_of}
use Rattle.md_mech.specs.declared.mechanism.Mechanism.{Mechanism}
use Rattle.md_mech.specs.Utility.{expected_utility, weighted_given}

-- whatever the others report, no report gives an agent more than its true type
abbrev pub IsDominantTruth : GeneralSetting → Mechanism → Type 0
IsDominantTruth s m =
    (i : ℕ) (t : List ℕ) (b : ℕ) → i < agent_count s → IsProfile (sizes_of s) t → b < slice_index (sizes_of s) i
    → expected_utility s m i t (replaced t i b) ≤ℤ expected_utility s m i t t

-- for each type of an agent, no report gives more on average over the others' true types than its true type
abbrev pub IsBayesTruth : GeneralSetting → Mechanism → Type 0
IsBayesTruth s m =
    (i a b : ℕ) → i < agent_count s → a < slice_index (sizes_of s) i → b < slice_index (sizes_of s) i
    → weighted_given s i a (λ t. expected_utility s m i t (replaced t i b)) ≤ℤ weighted_given s i a (λ t. expected_utility s m i t t)

abbrev pub IsTruthfulBy : Truth → GeneralSetting → Mechanism → Type 0
IsTruthfulBy Dominant s m = IsDominantTruth s m
IsTruthfulBy Bayes s m = IsBayesTruth s m

-- the truth that the setting asks for
abbrev pub IsTruthful : GeneralSetting → Mechanism → Type 0
IsTruthful s m = IsTruthfulBy s.truth s m

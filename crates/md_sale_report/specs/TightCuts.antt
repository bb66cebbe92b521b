-- The cuts of a list that hold with equality.
use Rattle.std.specs.Prelude.{ℕ, ℤ, Bool, List, [], ◌∷◌, length, slice_index, unsigned_abs, ◌==◌, if◌then◌else◌}
use Rattle.md_math.specs.Lists.{up_to}
use Rattle.md_setting.specs.Setting.{GeneralSetting}
use Rattle.md_asym_tables.specs.Odds.{excess_of}

-- by the odds over the denominator the pairs of the set ask for the item exactly as often as it can go to one of them
abbrev pub is_tight_cut : GeneralSetting → ℤ → List ℤ → ℕ → Bool
is_tight_cut s den odds set = unsigned_abs (excess_of s den odds set) == 0

-- the set, if this is so
abbrev pub tight_cut : GeneralSetting → ℤ → List ℤ → ℕ → List ℕ
tight_cut s den odds set = if is_tight_cut s den odds set then set ∷ [] else []

-- the sets of the list of which this is so, in their order
abbrev pub tight_cuts : GeneralSetting → ℤ → List ℤ → List ℕ → List ℕ
tight_cuts s den odds cuts = up_to (length cuts) (λ k. tight_cut s den odds (slice_index cuts k))

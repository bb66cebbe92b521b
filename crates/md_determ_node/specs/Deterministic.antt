-- Mechanisms without lotteries, and which of them are best (Conitzer and Sandholm 2002: a deterministic mechanism has no
-- lotteries).
use Rattle.std.specs.Prelude.{◌≡◌, ◌<◌, ◌⊎◌, ℕ, ℤ, pos, ◌+ℤ◌, ◌*ℤ◌, ◌≤ℤ◌, List}
use Rattle.md_math.specs.FirstFailure.{HoldsBelow, IsFirstFailure}
use Rattle.md_space.specs.Profiles.{IsProfile, profile_count, profile_at}
use Rattle.md_setting.specs.Setting.{GeneralSetting}
use Rattle.md_setting.specs.Meaning.{outcome_count, sizes_of}
use Rattle.md_mech.specs.declared.mechanism.Mechanism.{Mechanism}
use Rattle.md_mech.specs.Mechanism.{chance_of}
use Rattle.md_mech.specs.Admissible.{IsAdmissible}
use Rattle.md_mech.specs.Optimal.{worth_of, raised}

-- no chance, or the whole
abbrev pub IsAllOrNone : ℤ → ℤ → Type 0
IsAllOrNone den chance = (chance ≡ pos 0) ⊎ (chance ≡ den)

-- at the report t each outcome has either no chance or the whole
abbrev pub HasNoLottery : GeneralSetting → Mechanism → List ℕ → Type 0
HasNoLottery s m t = HoldsBelow (outcome_count s) (λ o. IsAllOrNone m.den (chance_of s m t o))

-- there is a lottery at no report; payments may be any
pub record IsDeterministic (s : GeneralSetting) (m : Mechanism) : Type 0 where
  pub at : (t : List ℕ) → IsProfile (sizes_of s) t → HasNoLottery s m t

-- the least rank of a profile at which there is a lottery
abbrev pub IsFirstLottery : GeneralSetting → Mechanism → ℕ → Type 0
IsFirstLottery s m rank = IsFirstFailure (profile_count (sizes_of s)) (λ r. HasNoLottery s m (profile_at (sizes_of s) r)) rank

-- the outcome that is chosen at the profile of each rank has the whole there
pub record IsChoice (s : GeneralSetting) (m : Mechanism) (choice : ℕ → ℕ) : Type 0 where
  pub below : (r : ℕ) → r < profile_count (sizes_of s) → choice r < outcome_count s
  pub whole : (r : ℕ) → r < profile_count (sizes_of s) → chance_of s m (profile_at (sizes_of s) r) (choice r) ≡ m.den

-- the mechanism chooses an outcome at each profile
pub record HasChoice (s : GeneralSetting) (m : Mechanism) : Type 0 where
  pub choice : ℕ → ℕ
  pub is_choice : IsChoice s m choice

-- it is admissible and deterministic, and no mechanism that is both, with any denominator, has a greater objective
pub record IsOptimalDeterministic (s : GeneralSetting) (m : Mechanism) : Type 0 where
  pub admissible : IsAdmissible s m
  pub deterministic : IsDeterministic s m
  pub best : (other : Mechanism) → IsAdmissible s other → IsDeterministic s other → (worth_of s other *ℤ m.den) ≤ℤ (worth_of s m *ℤ other.den)

-- no admissible mechanism is deterministic
abbrev pub HasNoDeterministic : GeneralSetting → Type 0
HasNoDeterministic s = (m : Mechanism) → IsAdmissible s m → ¬ IsDeterministic s m

-- however often the ray is added, the mechanism stays admissible and deterministic, and gains at least 1 each time
abbrev pub GrowsDeterministic : GeneralSetting → Mechanism → List ℤ → Type 0
GrowsDeterministic s m ray =
    (k : ℕ) → IsAdmissible s (raised m k ray) × IsDeterministic s (raised m k ray) × ((worth_of s m +ℤ pos k) ≤ℤ worth_of s (raised m k ray))

-- Where least is paid.
use Rattle.std.specs.Prelude.{◌≡◌, ℕ, ◌<◌, ℤ, ◌≤ℤ◌, ◌<ℤ◌, true, false, Option, MatchOption}
use Rattle.md_space.specs.Profiles.{profile_count, profile_at}
use Rattle.md_setting.specs.Setting.{GeneralSetting}
use Rattle.md_setting.specs.Meaning.{sizes_of}
use Rattle.md_mech.specs.declared.mechanism.Mechanism.{Mechanism}
use Rattle.md_report.specs.declared.deficit.Deficit.{Deficit}
use Rattle.md_report.specs.Ratio.{IsRatio}
use Rattle.md_report.specs.Regret.{payments_at}

-- what is paid at the profile of a rank
abbrev pub paid_at : GeneralSetting → Mechanism → ℕ → ℤ
paid_at s m r = payments_at s m (profile_at (sizes_of s) r)

-- of the first profiles the one at which least is paid; at each one before it more is
pub record IsLeastPaid (s : GeneralSetting) (m : Mechanism) (count rank : ℕ) : Type 0 where
  pub inside : rank < count
  pub least : (r : ℕ) → r < count → paid_at s m rank ≤ℤ paid_at s m r
  pub first : (r : ℕ) → r < rank → paid_at s m rank <ℤ paid_at s m r

-- it is that of all profiles, with what is paid there
pub record IsDeficit (s : GeneralSetting) (m : Mechanism) (told : Deficit) : Type 0 where
  pub rank : IsLeastPaid s m (profile_count (sizes_of s)) told.rank
  pub payments : IsRatio (paid_at s m told.rank) m.den told.payments

-- it is told where the setting allows no deficit
abbrev pub IsDeficitOf : GeneralSetting → Mechanism → Option Deficit → Type 0
IsDeficitOf s m told = MatchOption told (s.no_deficit ≡ false) (λ deficit. (s.no_deficit ≡ true) × IsDeficit s m deficit)

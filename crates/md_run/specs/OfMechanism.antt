-- What is drawn of a mechanism of a general setting, at a profile of reports.
use Rattle.std.specs.Prelude.{◌≡◌, ℕ, ◌<◌, ℤ, pos, ◌≤ℤ◌, ◌<ℤ◌, List, unsigned_abs}
use Rattle.md_math.specs.Lists.{list_to}
use Rattle.md_space.specs.Profiles.{IsProfile}
use Rattle.md_setting.specs.Setting.{GeneralSetting}
use Rattle.md_setting.specs.Meaning.{agent_count, outcome_count, sizes_of}
use Rattle.md_mech.specs.declared.mechanism.Mechanism.{Mechanism}
use Rattle.md_mech.specs.Mechanism.{chance_of, pay_of}
use Rattle.md_run.specs.Counting.{HasCountBelow}
use Rattle.md_run.specs.Lottery.{IsDrawnPlace}
use Rattle.md_run.specs.declared.drawn.Drawn.{Drawn}

-- the draws that may be: the first is one of as many as the denominator has units, and the second is 0
pub record IsDraw (den d1 d2 : ℤ) : Type 0 where
  pub from : pos 0 ≤ℤ d1
  pub below : d1 <ℤ den
  pub second : d2 ≡ pos 0

-- what is drawn: the outcome is the first at which the chances add to more than the first draw, and each agent pays what
-- it pays at the profile
pub record IsDrawnOf (s : GeneralSetting) (m : Mechanism) (t : List ℕ) (d1 d2 : ℤ) (drawn : Drawn) : Type 0 where
  pub profile : IsProfile (sizes_of s) t
  pub draw : IsDraw m.den d1 d2
  pub outcome : IsDrawnPlace (outcome_count s) (chance_of s m t) d1 drawn.outcome
  pub pays : drawn.pays ≡ list_to (agent_count s) (λ i. pay_of s m i t)
  pub den : drawn.den ≡ m.den

-- each outcome is drawn by as many of the first draws as its chance at the profile has units
abbrev pub IsLottery : GeneralSetting → Mechanism → List ℕ → Type 0
IsLottery s m t = (o : ℕ) → o < outcome_count s → HasCountBelow (unsigned_abs m.den) (λ d. IsDrawnPlace (outcome_count s) (chance_of s m t) (pos d) o) (unsigned_abs (chance_of s m t o))

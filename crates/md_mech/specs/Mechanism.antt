-- What a direct mechanism is (Conitzer and Sandholm 2002): a lottery over the outcomes and the payments, at each profile of reports.
use Rattle.std.specs.Prelude.{◌≡◌, ◌<◌, ◌+◌, ◌*◌, ℕ, ℤ, pos, ◌≤ℤ◌, false, List, length}
use Rattle.md_math.specs.Lists.{number_at}
use Rattle.md_math.specs.Sums.{sum_to}
use Rattle.md_space.specs.Profiles.{IsProfile, profile_count, rank_of}
use Rattle.md_setting.specs.Setting.{GeneralSetting}
use Rattle.md_setting.specs.Meaning.{agent_count, outcome_count, sizes_of}
use Rattle.md_mech.specs.declared.mechanism.Mechanism.{Mechanism}

-- the chance of outcome o at the report t, in units of one over the denominator
abbrev pub chance_of : GeneralSetting → Mechanism → List ℕ → ℕ → ℤ
chance_of s m t o = number_at m.chances (rank_of (sizes_of s) t * outcome_count s + o)

-- what agent i pays at the report t, in the same units
abbrev pub pay_of : GeneralSetting → Mechanism → ℕ → List ℕ → ℤ
pay_of s m i t = number_at m.pays (rank_of (sizes_of s) t * agent_count s + i)

-- A mechanism of the setting, with any denominator and numbers of any size: at each profile the chances are
-- not negative and add to the whole, and nothing is paid where payments are off.
pub record IsMechanism (s : GeneralSetting) (m : Mechanism) : Type 0 where
  pub den : pos 1 ≤ℤ m.den
  pub chance_count : length m.chances ≡ profile_count (sizes_of s) * outcome_count s
  pub pay_count : length m.pays ≡ profile_count (sizes_of s) * agent_count s
  pub not_negative : (t : List ℕ) (o : ℕ) → IsProfile (sizes_of s) t → o < outcome_count s → pos 0 ≤ℤ chance_of s m t o
  pub whole : (t : List ℕ) → IsProfile (sizes_of s) t → sum_to (outcome_count s) (chance_of s m t) ≡ m.den
  pub no_payment : s.payments ≡ false → (t : List ℕ) (i : ℕ) → IsProfile (sizes_of s) t → i < agent_count s → pay_of s m i t ≡ pos 0

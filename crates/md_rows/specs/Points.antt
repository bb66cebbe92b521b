-- Mechanisms and points of the program: which chances and payments a point says, and how a mechanism is written as a point.
use Rattle.std.specs.Prelude.{ℕ, ◌*◌, ℤ, pos, negsuc, suc, Bool, true, false, List, [], ◌++◌}
use Rattle.md_math.specs.Lists.{list_to, up_to}
use Rattle.md_space.specs.Profiles.{profile_count, profile_at}
use Rattle.md_setting.specs.Setting.{GeneralSetting}
use Rattle.md_setting.specs.Meaning.{agent_count, outcome_count, sizes_of}
use Rattle.md_mech.specs.declared.mechanism.Mechanism.{Mechanism}
use Rattle.md_mech.specs.Mechanism.{pay_of}
use Rattle.md_lp.specs.Program.{Program}
use Rattle.md_lp.specs.Point.{Meets}
use Rattle.md_rows.specs.Columns.{payment_in}
use Rattle.md_rows.specs.ProgramOf.{IsProgramOf}

-- what agents pay at a point, by the rank of the profile, then by agent: for each payment its plus part less its minus part
abbrev pub payments_in : GeneralSetting → (ℕ → ℤ) → List ℤ
payments_in s x =
    up_to (profile_count (sizes_of s)) (λ r. list_to (agent_count s) (λ i. payment_in s x i (profile_at (sizes_of s) r)))

-- the mechanism of a point: its chances and its payments, over its denominator
abbrev pub mechanism_of : GeneralSetting → ℤ → (ℕ → ℤ) → Mechanism
mechanism_of s den x = record {
  den = den;
  chances = list_to (profile_count (sizes_of s) * outcome_count s) x;
  pays = payments_in s x;
}

-- the positive and the negative part of a number, which is the first less the second
abbrev pub plus_part : ℤ → ℤ
plus_part (pos n) = pos n
plus_part (negsuc n) = pos 0

abbrev pub minus_part : ℤ → ℤ
minus_part (pos n) = pos 0
minus_part (negsuc n) = pos (suc n)

-- one part of each payment of a mechanism, by agent, then by the rank of the profile
abbrev pub parts : (ℤ → ℤ) → GeneralSetting → Mechanism → List ℤ
parts part s m =
    up_to (agent_count s) (λ i. list_to (profile_count (sizes_of s)) (λ r. part (pay_of s m i (profile_at (sizes_of s) r))))

abbrev pub payment_parts : Bool → GeneralSetting → Mechanism → List ℤ
payment_parts true s m = parts plus_part s m ++ parts minus_part s m
payment_parts false s m = []

-- the point of a mechanism: its chances, and the two parts of each payment where there are payments
abbrev pub point_of : GeneralSetting → Mechanism → List ℤ
point_of s m = m.chances ++ payment_parts s.payments s m

-- the numbers over the denominator are a point that meets the setting's program
pub record MeetsProgramOf (s : GeneralSetting) (den : ℤ) (x : ℕ → ℤ) : Type 0 where
  pub program : Program
  pub is_program : IsProgramOf s program
  pub meets : Meets program den x

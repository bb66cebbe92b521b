-- Why numbers make no mechanism of a setting.
use Rattle.std.specs.Prelude.{◌≡◌, ℕ, ◌+◌, ◌*◌, ℤ, pos, ◌≤ℤ◌, false, List, length}
use Rattle.md_math.specs.FirstFailure.{HoldsBelow, IsFirstFailure}
use Rattle.md_math.specs.Lists.{number_at}
use Rattle.md_math.specs.Sums.{sum_to}
use Rattle.md_math.specs.Sizes.{IsWithin}
use Rattle.md_space.specs.Profiles.{profile_count}
use Rattle.md_setting.specs.Setting.{GeneralSetting}
use Rattle.md_setting.specs.Meaning.{agent_count, outcome_count, sizes_of}
use Rattle.md_mech.specs.declared.mechanism.Mechanism.{Mechanism}
use Rattle.md_mech.specs.declared.refusal.MechRefusal.{MechRefusal}
use Rattle.md_mech.specs.declared.refusal.MechRefusal.TheVariants.{Shape, Den, Negative, Sum, Payment}
use Rattle.md_mech.specs.Accepted.{number_limit}

-- the lists have a chance for each profile and outcome, and a payment for each profile and agent
pub record HasShape (s : GeneralSetting) (m : Mechanism) : Type 0 where
  pub chances : length m.chances ≡ profile_count (sizes_of s) * outcome_count s
  pub pays : length m.pays ≡ profile_count (sizes_of s) * agent_count s

-- the denominator is 1 to 2^62 - 1
pub record HasDen (den : ℤ) : Type 0 where
  pub positive : pos 1 ≤ℤ den
  pub size : den ≤ℤ pos number_limit

-- the chance at a place is not negative
abbrev pub IsChanceAt : List ℤ → ℕ → Type 0
IsChanceAt chances k = pos 0 ≤ℤ number_at chances k

-- the chances of a rank add to the whole
abbrev pub IsWholeAt : ℤ → List ℤ → ℕ → ℕ → Type 0
IsWholeAt den chances outcomes r = sum_to outcomes (λ o. number_at chances (r * outcomes + o)) ≡ den

-- a payment is at most 2^62 - 1 in size, and 0 where payments are off
pub record IsPayment (s : GeneralSetting) (pay : ℤ) : Type 0 where
  pub size : IsWithin number_limit pay
  pub off : s.payments ≡ false → pay ≡ pos 0

abbrev pub IsPaymentAt : GeneralSetting → List ℤ → ℕ → Type 0
IsPaymentAt s pays k = IsPayment s (number_at pays k)

-- what is in order before the chances are looked at
pub record HasFrame (s : GeneralSetting) (m : Mechanism) : Type 0 where
  pub shape : HasShape s m
  pub den : HasDen m.den

-- and before their sums are
pub record HasChances (s : GeneralSetting) (m : Mechanism) : Type 0 where
  pub frame : HasFrame s m
  pub chances : HoldsBelow (length m.chances) (IsChanceAt m.chances)

-- and before the payments are
pub record HasWholes (s : GeneralSetting) (m : Mechanism) : Type 0 where
  pub chances : HasChances s m
  pub wholes : HoldsBelow (profile_count (sizes_of s)) (IsWholeAt m.den m.chances (outcome_count s))

-- the first reason for which m is refused
abbrev pub IsRefused : GeneralSetting → Mechanism → MechRefusal → Type 0
IsRefused s m Shape = ¬ HasShape s m
IsRefused s m Den = HasShape s m × ¬ HasDen m.den
IsRefused s m (Negative place) = HasFrame s m × IsFirstFailure (length m.chances) (IsChanceAt m.chances) place
IsRefused s m (Sum rank) = HasChances s m × IsFirstFailure (profile_count (sizes_of s)) (IsWholeAt m.den m.chances (outcome_count s)) rank
IsRefused s m (Payment place) = HasWholes s m × IsFirstFailure (length m.pays) (IsPaymentAt s m.pays) place

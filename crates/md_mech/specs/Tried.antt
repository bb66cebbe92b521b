-- A condition that was tried by its two sides.
use Rattle.std.specs.Prelude.{ℕ, ℤ, ◌≡◌, ◌≤ℤ◌, ◌<ℤ◌, Option, MatchOption}
use Rattle.md_setting.specs.Setting.{GeneralSetting}
use Rattle.md_mech.specs.declared.broken.Broken.{Broken}
use Rattle.md_mech.specs.declared.mechanism.Mechanism.{Mechanism}
use Rattle.md_mech.specs.Rows.{Condition, IsKept, left_of, right_of}

-- two sides, of which the left one is to be at least the right one
abbrev pub IsCompared : ℕ → ℤ → ℤ → Option Broken → Type 0
IsCompared row left right result =
    MatchOption result (right ≤ℤ left) (λ broken. (broken ≡ record { row = row; left = left; right = right }) × (left <ℤ right))

-- the condition is broken, and these are its number and its sides
pub record IsBrokenBy (s : GeneralSetting) (m : Mechanism) (condition : Condition) (row : ℕ) (broken : Broken) : Type 0 where
  pub number : broken.row ≡ row
  pub left : broken.left ≡ left_of s m condition
  pub right : broken.right ≡ right_of s m condition
  pub less : broken.left <ℤ broken.right

-- the condition is kept, or it is told how it is broken
abbrev pub IsTried : GeneralSetting → Mechanism → Condition → ℕ → Option Broken → Type 0
IsTried s m condition row result = MatchOption result (IsKept s m condition) (IsBrokenBy s m condition row)

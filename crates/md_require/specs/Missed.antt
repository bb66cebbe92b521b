-- What is told of a condition that is not met, by the number of the condition, and of its amounts one by one.
use Rattle.std.specs.Prelude.{◌≡◌, ℕ, ℤ, ◌<ℤ◌, [], ◌∷◌}
use Rattle.md_setting.specs.Setting.{GeneralSetting}
use Rattle.md_mech.specs.declared.mechanism.Mechanism.{Mechanism}
use Rattle.md_question.specs.declared.unmet.Unmet.{Unmet}
use Rattle.md_require.specs.declared.condition.Condition.{Condition}
use Rattle.md_require.specs.Amounts.{Amount}
use Rattle.md_require.specs.Conditions.{IsMissed, lower_of, upper_of}
use Rattle.md_require.specs.Named.{amounts_at}

-- the condition has this number
pub record IsMissedAs (s : GeneralSetting) (m : Mechanism) (c : Condition) (number : ℕ) (unmet : Unmet) : Type 0 where
  pub numbered : unmet.condition ≡ number
  pub missed : IsMissed s m c unmet

-- these are its sides, and the left one is less
pub record IsBelow (number : ℕ) (left right : ℤ) (unmet : Unmet) : Type 0 where
  pub numbered : unmet.condition ≡ number
  pub left_is : unmet.left ≡ left
  pub right_is : unmet.right ≡ right
  pub less : unmet.left <ℤ unmet.right

-- the amount does not stay
abbrev pub IsMissedBy : GeneralSetting → Mechanism → Condition → ℕ → Amount → Unmet → Type 0
IsMissedBy s m c number amount unmet = IsBelow number (upper_of s m c amount) (lower_of s m c amount) unmet

-- the amount that the condition has at a rank does not stay
pub record IsMissedAt (s : GeneralSetting) (m : Mechanism) (c : Condition) (rank number : ℕ) (unmet : Unmet) : Type 0 where
  pub amount : Amount
  pub here : amounts_at s c.measured rank ≡ amount ∷ []
  pub missed : IsMissedBy s m c number amount unmet

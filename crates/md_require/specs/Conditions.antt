-- When a mechanism meets the conditions that a designer adds to those of a setting.
use Rattle.std.specs.Prelude.{◌≡◌, ℤ, ◌*ℤ◌, ◌≤ℤ◌, ◌<ℤ◌, List, ◌∷◌, ◌++◌, length, All}
use Rattle.md_setting.specs.Setting.{GeneralSetting}
use Rattle.md_mech.specs.declared.mechanism.Mechanism.{Mechanism}
use Rattle.md_question.specs.declared.unmet.Unmet.{Unmet}
use Rattle.md_require.specs.declared.condition.Condition.{Condition}
use Rattle.md_require.specs.declared.condition.Side.{Side}
use Rattle.md_require.specs.declared.condition.Side.TheVariants.{Least, Most}
use Rattle.md_require.specs.Amounts.{Amount, amount_of, amounts_of, whole_of}

-- the amount of a mechanism, and the bound of a condition, over one denominator
abbrev pub told_of : GeneralSetting → Mechanism → Condition → Amount → ℤ
told_of s m c amount = c.den *ℤ amount_of s m amount

abbrev pub bound_of : GeneralSetting → Mechanism → Condition → Amount → ℤ
bound_of s m c amount = c.num *ℤ (m.den *ℤ whole_of s amount)

-- which of both is to be at most the other one, and which at least
abbrev pub lower_by : Side → ℤ → ℤ → ℤ
lower_by Least told bound = bound
lower_by Most told bound = told

abbrev pub upper_by : Side → ℤ → ℤ → ℤ
upper_by Least told bound = told
upper_by Most told bound = bound

abbrev pub lower_of : GeneralSetting → Mechanism → Condition → Amount → ℤ
lower_of s m c amount = lower_by c.side (told_of s m c amount) (bound_of s m c amount)

abbrev pub upper_of : GeneralSetting → Mechanism → Condition → Amount → ℤ
upper_of s m c amount = upper_by c.side (told_of s m c amount) (bound_of s m c amount)

-- the amount stays on its side of the bound
abbrev pub Stays : GeneralSetting → Mechanism → Condition → Amount → Type 0
Stays s m c amount = lower_of s m c amount ≤ℤ upper_of s m c amount

-- so does each amount that the condition is about
abbrev pub IsMet : GeneralSetting → Mechanism → Condition → Type 0
IsMet s m c = All (Stays s m c) (amounts_of s c.measured)

abbrev pub MeetsAll : GeneralSetting → List Condition → Mechanism → Type 0
MeetsAll s conditions m = All (IsMet s m) conditions

-- both sides at the first of the amounts of a condition that does not stay
pub record IsMissed (s : GeneralSetting) (m : Mechanism) (c : Condition) (unmet : Unmet) : Type 0 where
  pub before : List Amount
  pub amount : Amount
  pub after : List Amount
  pub parts : amounts_of s c.measured ≡ before ++ amount ∷ after
  pub stay : All (Stays s m c) before
  pub left : unmet.left ≡ upper_of s m c amount
  pub right : unmet.right ≡ lower_of s m c amount
  pub less : unmet.left <ℤ unmet.right

-- the first condition that is not met, by its number from 0
pub record IsFirstUnmet (s : GeneralSetting) (conditions : List Condition) (m : Mechanism) (unmet : Unmet) : Type 0 where
  pub before : List Condition
  pub condition : Condition
  pub after : List Condition
  pub parts : conditions ≡ before ++ condition ∷ after
  pub met : All (IsMet s m) before
  pub number : unmet.condition ≡ length before
  pub missed : IsMissed s m condition unmet

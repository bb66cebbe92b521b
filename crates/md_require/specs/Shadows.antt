-- What a unit of the bound of each condition brings the objective, or costs it: its shadow, or shadow price.
use Rattle.std.specs.Prelude.{◌≡◌, ◌⊎◌, ℕ, suc, ◌+◌, ℤ, pos, ◌+ℤ◌, ◌-ℤ◌, ◌*ℤ◌, ◌≤ℤ◌, ◌<ℤ◌, List, [], ◌∷◌, ◌++◌, length, All, Option, Some, None}
use Rattle.md_math.specs.Divisors.{IsLeastTerms}
use Rattle.md_math.specs.Lists.{number_at}
use Rattle.md_math.specs.Sizes.{IsWithin}
use Rattle.md_math.specs.Sums.{total}
use Rattle.md_num.specs.declared.frac.Frac.{Frac}
use Rattle.md_setting.specs.Setting.{GeneralSetting}
use Rattle.md_setting.specs.Meaning.{total_of}
use Rattle.md_setting.specs.Rows.{column_count}
use Rattle.md_mech.specs.declared.mechanism.Mechanism.{Mechanism}
use Rattle.md_mech.specs.Accepted.{number_limit}
use Rattle.md_mech.specs.Optimal.{worth_of}
use Rattle.md_mech.specs.Rows.{conditions_of}
use Rattle.md_lp.specs.Divided.{IsDivisorFor}
use Rattle.md_cert.specs.declared.bound.Bound.{Bound}
use Rattle.md_forms.specs.Forms.{number_of}
use Rattle.md_rows.specs.ProgramOf.{cost_of, forms_of}
use Rattle.md_require.specs.declared.condition.Condition.{Condition}
use Rattle.md_require.specs.Amounts.{Amount, amounts_of, whole_of}
use Rattle.md_require.specs.Conditions.{bound_of, told_of}
use Rattle.md_require.specs.Required.{IsRequired}
use Rattle.md_require.specs.RequireProgram.{amount_form, at_most_by}

-- ---- what shadows say

-- the second condition is the first one with another bound, over any denominator of at least 1
pub record IsMoved (c d : Condition) : Type 0 where
  pub measured : d.measured ≡ c.measured
  pub side : d.side ≡ c.side
  pub positive : pos 0 <ℤ d.den

-- what the bound moved by, over the product of both denominators
abbrev pub move_of : Condition → Condition → ℤ
move_of c d = d.num *ℤ c.den -ℤ c.num *ℤ d.den

-- Over the denominator k: the shadow times what the bound moved by. A bound whose shadow is not told does not move.
abbrev pub IsPart : ℤ → Condition → Condition → Option Frac → ℤ → Type 0
IsPart k c d (Some shadow) part = part *ℤ (shadow.den *ℤ (c.den *ℤ d.den)) ≡ k *ℤ (shadow.num *ℤ move_of c d)
IsPart k c d None part = (move_of c d ≡ pos 0) × (part ≡ pos 0)

-- so it is with each condition
abbrev pub AreParts : ℤ → List Condition → List Condition → List (Option Frac) → List ℤ → Type 0
AreParts k [] [] [] [] = Unit {0}
AreParts k (c ∷ cs) (d ∷ ds) (shadow ∷ shadows) (part ∷ parts) = IsMoved c d × IsPart k c d shadow part × AreParts k cs ds shadows parts
AreParts k _ _ _ _ = ⊥

-- Wherever the bounds move to, no admissible mechanism that meets the conditions then has a greater objective than this mechanism and
-- what the shadows say of the moves.
abbrev pub LimitGains : GeneralSetting → List Condition → Mechanism → List (Option Frac) → Type 0
LimitGains s conditions m shadows =
    (moved : List Condition) (k : ℤ) (parts : List ℤ) → pos 0 <ℤ k → AreParts k conditions moved shadows parts → (other : Mechanism) → IsRequired s moved other
    → (k *ℤ (worth_of s other *ℤ m.den)) ≤ℤ (k *ℤ (worth_of s m *ℤ other.den) +ℤ total parts *ℤ ((m.den *ℤ other.den) *ℤ total_of s))

-- one of some amounts is just the bound of the condition
pub record BindsAt (s : GeneralSetting) (m : Mechanism) (c : Condition) (amounts : List Amount) : Type 0 where
  pub before : List Amount
  pub amount : Amount
  pub after : List Amount
  pub parts : amounts ≡ before ++ amount ∷ after
  pub at_bound : told_of s m c amount ≡ bound_of s m c amount

-- the condition binds: the mechanism brings an amount of it to its bound
abbrev pub Binds : GeneralSetting → Mechanism → Condition → Type 0
Binds s m c = BindsAt s m c (amounts_of s c.measured)

-- complementary slackness: a shadow that is told is 0 where the condition does not bind
abbrev pub IsComplementary : GeneralSetting → Mechanism → Condition → Option Frac → Type 0
IsComplementary s m c (Some shadow) = (shadow.num ≡ pos 0) ⊎ Binds s m c
IsComplementary s m c None = Unit {0}

-- so it is with each condition
abbrev pub AreComplementary : GeneralSetting → Mechanism → List Condition → List (Option Frac) → Type 0
AreComplementary s m [] [] = Unit {0}
AreComplementary s m (c ∷ cs) (shadow ∷ shadows) = IsComplementary s m c shadow × AreComplementary s m cs shadows
AreComplementary s m _ _ = ⊥

-- what the shadows of a mechanism say
pub record AreShadows (s : GeneralSetting) (conditions : List Condition) (m : Mechanism) (shadows : List (Option Frac)) : Type 0 where
  pub gains : LimitGains s conditions m shadows
  pub complementary : AreComplementary s m conditions shadows

-- ---- how they are read off multipliers

-- the numbers from a place on
abbrev pub from : ℕ → (ℕ → ℤ) → ℕ → ℤ
from k numbers r = numbers (k + r)

-- the main multipliers of the rows of some amounts, each times the whole of its amount
abbrev pub priced : GeneralSetting → (ℕ → ℤ) → List Amount → ℤ
priced s main [] = pos 0
priced s main (amount ∷ amounts) = main 0 *ℤ whole_of s amount +ℤ priced s (λ r. main (suc r)) amounts

-- no row of theirs has a face multiplier
abbrev pub AreFirm : (ℕ → ℤ) → List Amount → Type 0
AreFirm face [] = Unit {0}
AreFirm face (amount ∷ amounts) = (face 0 ≡ pos 0) × AreFirm (λ r. face (suc r)) amounts

-- the row of an amount of a condition is divided by this number
abbrev pub IsDividedBy : GeneralSetting → Condition → ℤ → Amount → Type 0
IsDividedBy s c by amount = IsDivisorFor (suc (column_count s)) (number_of (amount_form s c amount)) by

-- so is each row of the condition: all its rows are divided by one number
pub record AreDividedBy (s : GeneralSetting) (c : Condition) (by : ℤ) : Type 0 where
  pub positive : pos 0 <ℤ by
  pub each : All (IsDividedBy s c by) (amounts_of s c.measured)

-- The shadow of a condition in least terms, where no row of it has a face multiplier: the main multipliers of its rows added up, over
-- their denominator, and brought back by what the cost and the rows were divided by.
pub record IsShadow (s : GeneralSetting) (c : Condition) (over : ℤ) (main face : ℕ → ℤ) (shadow : Frac) : Type 0 where
  pub least : IsLeastTerms shadow.num shadow.den
  pub firm : AreFirm face (amounts_of s c.measured)
  pub factor : ℤ
  pub cost : IsDivisorFor (column_count s) (cost_of s) factor
  pub by : ℤ
  pub rows : AreDividedBy s c by
  pub is : shadow.num *ℤ (over *ℤ (total_of s *ℤ by)) ≡ ((factor *ℤ c.den) *ℤ at_most_by c.side (priced s main (amounts_of s c.measured))) *ℤ shadow.den

-- both numbers have at most 62 bits
pub record IsShort (fraction : Frac) : Type 0 where
  pub num_size : IsWithin number_limit fraction.num
  pub den_size : IsWithin number_limit fraction.den

-- the shadow has a number of more bits
pub record IsTooLong (s : GeneralSetting) (c : Condition) (over : ℤ) (main face : ℕ → ℤ) : Type 0 where
  pub shadow : Frac
  pub is : IsShadow s c over main face shadow
  pub long : ¬ IsShort shadow

-- No shadow is told: a row has a face multiplier, or the shadow is too long. So no fraction of at most 62 bits is the shadow.
pub record IsUntold (s : GeneralSetting) (c : Condition) (over : ℤ) (main face : ℕ → ℤ) : Type 0 where
  pub cause : ¬ AreFirm face (amounts_of s c.measured) ⊎ IsTooLong s c over main face
  pub none : (shadow : Frac) → IsShort shadow → ¬ IsShadow s c over main face shadow

-- a shadow that is told, and one that is not
abbrev pub IsToldShadow : GeneralSetting → Condition → ℤ → (ℕ → ℤ) → (ℕ → ℤ) → Option Frac → Type 0
IsToldShadow s c over main face (Some shadow) = IsShadow s c over main face shadow × IsShort shadow
IsToldShadow s c over main face None = IsUntold s c over main face

abbrev pub AreToldShadows : GeneralSetting → List Condition → ℤ → (ℕ → ℤ) → (ℕ → ℤ) → List (Option Frac) → Type 0
AreToldShadows s [] over main face [] = Unit {0}
AreToldShadows s (c ∷ cs) over main face (shadow ∷ shadows) =
    IsToldShadow s c over main face shadow
    × AreToldShadows s cs over (from (length (amounts_of s c.measured)) main) (from (length (amounts_of s c.measured)) face) shadows
AreToldShadows s _ over main face _ = ⊥

-- those of all conditions; their rows stand behind those of the setting
abbrev pub AreShadowsBy : GeneralSetting → List Condition → Bound → List (Option Frac) → Type 0
AreShadowsBy s conditions bound shadows =
    let own = length (forms_of s (conditions_of s)) in
    AreToldShadows s conditions bound.den (from own (number_at bound.main)) (from own (number_at bound.face)) shadows

-- Amounts of a mechanism one by one, and which of them is furthest towards the wrong side of a bound.
use Rattle.std.specs.Prelude.{◌≡◌, ◌⊎◌, ◌^◌, ℤ, pos, ◌≤ℤ◌, ◌<ℤ◌, List, [], ◌∷◌, ◌++◌, Option, None, Some, All}
use Rattle.md_math.specs.Sizes.{IsWithin}
use Rattle.md_setting.specs.Setting.{GeneralSetting}
use Rattle.md_mech.specs.declared.mechanism.Mechanism.{Mechanism}
use Rattle.md_require.specs.declared.condition.Side.{Side}
use Rattle.md_require.specs.declared.condition.Side.TheVariants.{Least, Most}
use Rattle.md_require.specs.declared.standing.Figure.{Figure}
use Rattle.md_require.specs.Amounts.{Amount, amount_of, whole_of}

-- the first of two numbers is at least as far towards the wrong side of a bound
abbrev pub IsAsFar : Side → ℤ → ℤ → Type 0
IsAsFar Least far near = far ≤ℤ near
IsAsFar Most far near = near ≤ℤ far

-- so much an amount is by the mechanism, in units of one over the denominator times its whole
pub record IsFigureOf (s : GeneralSetting) (m : Mechanism) (amount : Amount) (figure : Figure) : Type 0 where
  pub sum_is : figure.sum ≡ amount_of s m amount
  pub whole_is : figure.whole ≡ whole_of s amount
  pub positive : pos 0 <ℤ figure.whole
  pub sum_size : IsWithin (2 ^ 121) figure.sum
  pub whole_size : IsWithin 1000000 figure.whole

-- it is that of one of some amounts, and none of them is further
pub record IsFurthest (s : GeneralSetting) (m : Mechanism) (side : Side) (amounts : List Amount) (figure : Figure) : Type 0 where
  pub before : List Amount
  pub amount : Amount
  pub after : List Amount
  pub parts : amounts ≡ before ++ amount ∷ after
  pub is : IsFigureOf s m amount figure
  pub others : All (λ other. IsAsFar side figure.sum (amount_of s m other)) amounts

-- there is none where there are no amounts
abbrev pub IsFurthestIfAny : GeneralSetting → Mechanism → Side → List Amount → Option Figure → Type 0
IsFurthestIfAny s m side amounts None = amounts ≡ []
IsFurthestIfAny s m side amounts (Some figure) = IsFurthest s m side amounts figure

-- the further one of two
abbrev pub IsFurtherOf : Side → Figure → Figure → Figure → Type 0
IsFurtherOf side kept next further = ((further ≡ kept) × IsAsFar side kept.sum next.sum) ⊎ ((further ≡ next) × IsAsFar side next.sum kept.sum)

-- the further one of what was kept before, if anything was, and the next one
abbrev pub IsFurther : Side → Option Figure → Figure → Figure → Type 0
IsFurther side None next further = further ≡ next
IsFurther side (Some kept) next further = IsFurtherOf side kept next further

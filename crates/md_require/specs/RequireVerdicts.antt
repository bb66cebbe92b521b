-- What an answer about the best mechanism that meets conditions of the designer claims, and the verdict on one that tells shadows: it is
-- that on what was found, and where this is valid, the shadows are looked at in the order of their conditions.
use Rattle.std.specs.Prelude.{◌≡◌, ◌≢◌, ℕ, ◌<◌, List, length, Option, Some}
use Rattle.std.specs.List.{slice_get}
use Rattle.md_num.specs.declared.frac.Frac.{Frac}
use Rattle.md_setting.specs.Setting.{GeneralSetting}
use Rattle.md_cert.specs.declared.bound.Bound.{Bound}
use Rattle.md_mech.specs.declared.mechanism.Mechanism.{Mechanism}
use Rattle.md_mech.specs.Value.{HasValue}
use Rattle.md_question.specs.declared.finding.Finding.{Finding}
use Rattle.md_question.specs.declared.finding.Finding.TheVariants.{Optimal, Infeasible, Unbounded}
use Rattle.md_question_check.specs.declared.verdict.Verdict.TheVariants as verdicts
use Rattle.md_question_check.specs.Verdicts.{IsVerdictOn}
use Rattle.md_require.specs.declared.condition.Condition.{Condition}
use Rattle.md_require.specs.declared.required_verdict.RequiredVerdict.{RequiredVerdict}
use Rattle.md_require.specs.declared.required_verdict.RequiredVerdict.TheVariants.{Valid, Rejected, Shadow}
use Rattle.md_require.specs.Required.{GrowsRequired, IsOptimalRequired, IsRequired}
use Rattle.md_require.specs.RequireQuestion.{require_question}
use Rattle.md_require.specs.Shadows.{AreShadows, AreShadowsBy}

-- no admissible mechanism meets the conditions
abbrev pub IsNoneRequired : GeneralSetting → List Condition → Type 0
IsNoneRequired s conditions = (m : Mechanism) → ¬ IsRequired s conditions m

-- the claim of an answer is so, over mechanisms of any denominator, with numbers of any size
abbrev pub ClaimHolds : GeneralSetting → List Condition → Finding → Type 0
ClaimHolds s conditions (Optimal value m bound) = IsOptimalRequired s conditions m × HasValue s m value
ClaimHolds s conditions (Infeasible face) = IsNoneRequired s conditions
ClaimHolds s conditions (Unbounded m ray) = GrowsRequired s conditions m ray

-- so is what an answer claims that tells shadows: where it is optimal, also what they say of bounds that move
abbrev pub AnswerHolds : GeneralSetting → List Condition → Finding → List (Option Frac) → Type 0
AnswerHolds s conditions (Optimal value m bound) shadows = ClaimHolds s conditions (Optimal value m bound) × AreShadows s conditions m shadows
AnswerHolds s conditions finding shadows = ClaimHolds s conditions finding

-- ---- the verdict on shadows that are told

-- an optimal answer tells a shadow, or that there is none, for each condition
abbrev pub TellsEach : List Condition → Finding → List (Option Frac) → Type 0
TellsEach conditions (Optimal value m bound) shadows = length shadows ≡ length conditions
TellsEach conditions finding shadows = Unit {0}

-- an optimal answer tells the shadows that its multipliers say
abbrev pub TellsRightly : GeneralSetting → List Condition → Finding → List (Option Frac) → Type 0
TellsRightly s conditions (Optimal value m bound) shadows = AreShadowsBy s conditions bound shadows
TellsRightly s conditions finding shadows = Unit {0}

-- Of shadows that are told, the one at this index, counted from 0, is the first that is not as it is right, and the right one is this.
pub record IsFirstApart (rights shadows : List (Option Frac)) (index : ℕ) (right : Option Frac) : Type 0 where
  pub before : (k : ℕ) → k < index → slice_get shadows k ≡ slice_get rights k
  pub right_is : slice_get rights index ≡ Some right
  pub other : slice_get shadows index ≢ Some right

-- so it is with the shadows that multipliers say
pub record IsFirstWrong (s : GeneralSetting) (conditions : List Condition) (bound : Bound) (shadows : List (Option Frac)) (index : ℕ) (right : Option Frac) : Type 0 where
  pub rights : List (Option Frac)
  pub are : AreShadowsBy s conditions bound rights
  pub first : IsFirstApart rights shadows index right

abbrev pub IsFirstOther : GeneralSetting → List Condition → Finding → List (Option Frac) → ℕ → Option Frac → Type 0
IsFirstOther s conditions (Optimal value m bound) shadows index right = IsFirstWrong s conditions bound shadows index right
IsFirstOther s conditions finding shadows index right = ⊥

-- ---- the verdict on the answer

abbrev pub IsRequiredVerdict : GeneralSetting → List Condition → Finding → List (Option Frac) → RequiredVerdict → Type 0
IsRequiredVerdict s conditions finding shadows Valid = IsVerdictOn (require_question s conditions) finding verdicts.Valid × TellsRightly s conditions finding shadows
IsRequiredVerdict s conditions finding shadows (Rejected reject) = IsVerdictOn (require_question s conditions) finding (verdicts.Rejected reject)
IsRequiredVerdict s conditions finding shadows (Shadow index right) =
    IsVerdictOn (require_question s conditions) finding verdicts.Valid × IsFirstOther s conditions finding shadows index right

-- ---- its last part, where what was found is valid

-- the verdict on some shadows beside the right ones
abbrev pub IsComparison : List (Option Frac) → List (Option Frac) → RequiredVerdict → Type 0
IsComparison rights shadows Valid = shadows ≡ rights
IsComparison rights shadows (Rejected reject) = ⊥
IsComparison rights shadows (Shadow index right) = IsFirstApart rights shadows index right

-- the verdict on the shadows of an answer
abbrev pub IsShadowVerdict : GeneralSetting → List Condition → Finding → List (Option Frac) → RequiredVerdict → Type 0
IsShadowVerdict s conditions finding shadows Valid = TellsRightly s conditions finding shadows
IsShadowVerdict s conditions finding shadows (Rejected reject) = ⊥
IsShadowVerdict s conditions finding shadows (Shadow index right) = IsFirstOther s conditions finding shadows index right

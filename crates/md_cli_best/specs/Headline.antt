-- What `solve` prints of a setting, in the words of mechanisms. Each text is read back by the rules for answer files.
use Rattle.std.specs.Prelude.{◌≡◌, ◌≢◌, ◌⊎◌, ◌↔◌, ℕ, ℤ, List, [], Ok, Some}
use Rattle.md_num.specs.declared.frac.Frac.{Frac}
use Rattle.md_setting.specs.Setting.{GeneralSetting}
use Rattle.md_lp.specs.Program.{Program}
use Rattle.md_lp.specs.declared.pivot.Pivot.{Pivot}
use Rattle.md_lp.specs.declared.wide.Wide.{Wide}
use Rattle.md_mech.specs.declared.mechanism.Mechanism.{Mechanism}
use Rattle.md_mech.specs.Optimal.{Grows, IsInfeasible, IsOptimal}
use Rattle.md_cert.specs.declared.bound.Bound.{Bound}
use Rattle.md_rows.specs.ProgramOf.{IsProgramOf}
use Rattle.md_simplex.specs.declared.order.Order.{Order}
use Rattle.md_simplex.specs.declared.order.Order.TheVariants.{Forward, Backward}
use Rattle.md_simplex.specs.declared.step.Step.{Step}
use Rattle.md_simplex.specs.declared.step.Step.TheVariants as steps
use Rattle.md_simplex.specs.Runs.{IsFirstWideOf, IsTaken, MeetsWideBasis}
use Rattle.md_answer.specs.Answers.{answer_of}
use Rattle.md_answer.specs.declared.answer.Answer.TheVariants.{Optimal, Infeasible, Unbounded, TooWide}
use Rattle.md_check.specs.Verdicts.{IsVerdict}
use Rattle.md_question_check.specs.declared.verdict.Verdict.TheVariants.{Valid}
use Rattle.md_solve.specs.Bounds.{HasNoBound}
use Rattle.md_mech.specs.Value.{IsValueOf}

-- a mechanism that is admissible, and than which no admissible mechanism of any denominator has a greater objective, with its value, which is that of each such mechanism; the checker finds the answer valid
pub record PrintsOptimal (s : GeneralSetting) (text : List ℕ) : Type 0 where
  pub value : Frac
  pub mechanism : Mechanism
  pub bound : Bound
  pub read_back : answer_of s text ≡ Ok (Optimal value mechanism bound)
  pub optimal : IsOptimal s mechanism
  pub is_value : IsValueOf s mechanism value
  pub same_value : (best : Mechanism) → IsOptimal s best → IsValueOf s best value
  pub valid : IsVerdict s (Optimal value mechanism bound) Valid

-- no mechanism of any denominator is admissible, as the multipliers show to the checker
pub record PrintsInfeasible (s : GeneralSetting) (text : List ℕ) : Type 0 where
  pub face : List ℤ
  pub read_back : answer_of s text ≡ Ok (Infeasible face)
  pub infeasible : IsInfeasible s
  pub valid : IsVerdict s (Infeasible face) Valid

-- an admissible mechanism, with payments that may be added to it again and again with a gain each time, as the checker finds
pub record PrintsUnbounded (s : GeneralSetting) (text : List ℕ) : Type 0 where
  pub mechanism : Mechanism
  pub ray : List ℤ
  pub read_back : answer_of s text ≡ Ok (Unbounded mechanism ray)
  pub grows : Grows s mechanism ray
  pub valid : IsVerdict s (Unbounded mechanism ray) Valid

-- of the forward path of the setting's program and of the backward one, the pivots to the first wide basis and the first wide entry of that
pub record PrintsTooWide (s : GeneralSetting) (width : ℕ) (text : List ℕ) : Type 0 where
  pub first : Wide
  pub second : Wide
  pub read_back : answer_of s text ≡ Ok (TooWide [] first (Some second))
  pub forward : (p : Program) → IsProgramOf s p → IsFirstWideOf Forward p width first
  pub backward : (p : Program) → IsProgramOf s p → IsFirstWideOf Backward p width second

-- the statuses of what is printed
abbrev pub IsSolveStatus : ℕ → Type 0
IsSolveStatus status = (status ≡ 0) ⊎ ((status ≡ 10) ⊎ ((status ≡ 11) ⊎ (status ≡ 12)))

-- the status that tells how a path ends
abbrev pub IsEndStatus : Step → ℕ → Type 0
IsEndStatus steps.Optimal status = status ≡ 0
IsEndStatus steps.Infeasible status = status ≡ 10
IsEndStatus (steps.Unbounded column) status = status ≡ 11
IsEndStatus (steps.Pivot pivot) status = ⊥

-- what is printed with a status, and which status it is
pub record IsHeadline (s : GeneralSetting) (width status : ℕ) (text : List ℕ) : Type 0 where
  -- the setting has a program
  pub program : Program
  pub is_program : IsProgramOf s program
  pub optimal : status ≡ 0 → PrintsOptimal s text
  pub infeasible : status ≡ 10 → PrintsInfeasible s text
  pub unbounded : status ≡ 11 → PrintsUnbounded s text
  pub too_wide : status ≡ 12 → PrintsTooWide s width text
  pub one_of : IsSolveStatus status
  -- where both paths of the setting's program come to a wide basis, it is 12, and where a path is taken, it tells how that ends
  pub wide : (p : Program) → IsProgramOf s p → MeetsWideBasis Forward p width → MeetsWideBasis Backward p width → status ≡ 12
  pub taken : (p : Program) (order : Order) (pivots : List Pivot) (step : Step) → IsProgramOf s p → IsTaken order p width pivots step → IsEndStatus step status
  -- where it is not 12, it tells exactly where no mechanism is admissible, and where the values of the admissible ones have no bound
  pub none : status ≢ 12 → (status ≡ 10) ↔ IsInfeasible s
  pub no_bound : status ≢ 12 → (status ≡ 11) ↔ HasNoBound s

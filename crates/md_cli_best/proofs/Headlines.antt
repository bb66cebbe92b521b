-- What the answer of the solver shows, by its kind.
use Rattle.std.proofs.Common.{◌≡◌, ◌↔◌, ℕ, ℤ, List, [], Ok, Option, None, Some, ap, ◌∙◌, subst, inl, inr, arith}
use Rattle.md_math.proofs.SizeLaws.{IsWithin-zero}
use Rattle.md_num.specs.declared.frac.Frac.{Frac}
use Rattle.md_setting.specs.Setting.{GeneralSetting}
use Rattle.md_lp.specs.Program.{Program}
use Rattle.md_lp.specs.declared.pivot.Pivot.{Pivot}
use Rattle.md_lp.specs.declared.wide.Wide.{Wide}
use Rattle.md_mech.specs.declared.mechanism.Mechanism.{Mechanism}
use Rattle.md_mech.specs.Accepted.{number_limit}
use Rattle.md_mech.specs.Optimal.{Grows, IsInfeasible, IsOptimal}
use Rattle.md_cert.specs.declared.bound.Bound.{Bound}
use Rattle.md_mech.specs.Admissible.{IsAdmissible}
use Rattle.md_rows.specs.ProgramOf.{IsProgramOf}
use Rattle.md_simplex.specs.declared.order.Order.{Order}
use Rattle.md_simplex.specs.declared.order.Order.TheVariants.{Forward, Backward}
use Rattle.md_simplex.specs.declared.step.Step.{Step}
use Rattle.md_simplex.specs.declared.step.Step.TheVariants as steps
use Rattle.md_simplex.specs.Runs.{IsTaken, MeetsWideBasis}
use Rattle.md_answer.specs.Answers.{answer_of}
use Rattle.md_answer.specs.declared.answer.Answer.{Answer}
use Rattle.md_answer.specs.declared.answer.Answer.TheVariants.{Table, Optimal, Infeasible, Unbounded, AuctionOptimal, TooWide}
use Rattle.md_check.specs.Verdicts.{IsVerdict}
use Rattle.md_question_check.specs.declared.verdict.Verdict.TheVariants.{Valid}
use Rattle.md_solve.specs.Certifies.{IsCertifiedAnswer}
use Rattle.md_solve.specs.Answered.{ClaimsEnd, ClaimsInfeasible, ClaimsUnbounded, IsMechanismAlone, IsTooWide, WhereInfeasible, WhereOptimal, WhereUnbounded}
use Rattle.md_solve.specs.Bounds.{HasNoBound}
use Rattle.md_mech.specs.Value.{IsValueOf}
use Rattle.md_solve.specs.Solved.{IsSolved, IsSolvedBy}
use Rattle.md_check.proofs.OptimalValues.{value-of_each}
use Rattle.md_cli_best.specs.Headline.{IsEndStatus, IsHeadline}
use Rattle.md_cli_best.specs.Solving.{status_of_answer}

-- what is known of an answer: what it claims is so, the checker finds it valid, and it tells what the paths come to
pub record IsShownBy (s : GeneralSetting) (width : ℕ) (answer : Answer) : Type 0 where
  pub solved : IsSolved s width answer
  pub optimal : WhereOptimal (λ value mechanism bound. IsOptimal s mechanism) answer
  pub value : WhereOptimal (λ value mechanism bound. IsValueOf s mechanism value) answer
  pub infeasible : WhereInfeasible (λ face. IsInfeasible s) answer
  pub unbounded : WhereUnbounded (λ mechanism ray. Grows s mechanism ray) answer
  pub taken : (p : Program) (order : Order) (pivots : List Pivot) (step : Step) → IsProgramOf s p → IsTaken order p width pivots step → ClaimsEnd step answer
  pub none : ¬ IsTooWide answer → ClaimsInfeasible answer ↔ IsInfeasible s
  pub no_bound : ¬ IsTooWide answer → ClaimsUnbounded answer ↔ HasNoBound s
  pub wide : (p : Program) → IsProgramOf s p → MeetsWideBasis Forward p width → MeetsWideBasis Backward p width → IsTooWide answer
  pub every_program : (p : Program) → IsProgramOf s p → IsSolvedBy s p width answer
  pub admissible : WhereUnbounded (λ mechanism ray. IsAdmissible s mechanism) answer
  pub claims : ¬ IsMechanismAlone answer
  pub certified : (p : Program) → IsProgramOf s p → IsCertifiedAnswer s p answer

-- the checker finds it valid
valid : (s : GeneralSetting) (width : ℕ) (answer : Answer) → IsShownBy s width answer → ¬ IsTooWide answer → IsVerdict s answer Valid
valid s width (Table m) h narrow = absurd (h.claims tt)
valid s width (Optimal value m bound) h narrow = (
  record { admitted = h.optimal.admissible; value = h.value.is_value },
  IsWithin-zero number_limit,
  record { program = h.solved.program; is_program = h.solved.is_program; holds = h.certified },
)
valid s width (Infeasible face) h narrow = record { program = h.solved.program; is_program = h.solved.is_program; holds = h.certified }
valid s width (Unbounded m ray) h narrow = (h.admissible, IsWithin-zero number_limit, record { program = h.solved.program; is_program = h.solved.is_program; holds = h.certified })
valid s width (AuctionOptimal value interim masses cuts bound) h narrow = absurd (h.certified h.solved.program h.solved.is_program)
valid s width (TooWide cuts first second) h narrow = absurd (narrow tt)

-- the status tells the end of the path
optimal_end : (value : Frac) (m : Mechanism) (bound : Bound) (status : ℕ) → status ≡ 0 → (step : Step) → ClaimsEnd step (Optimal value m bound) → IsEndStatus step status
optimal_end value m bound status is steps.Optimal h = is
optimal_end value m bound status is steps.Infeasible h = absurd h
optimal_end value m bound status is (steps.Unbounded column) h = absurd h
optimal_end value m bound status is (steps.Pivot pivot) h = absurd h

infeasible_end : (face : List ℤ) (status : ℕ) → status ≡ 10 → (step : Step) → ClaimsEnd step (Infeasible face) → IsEndStatus step status
infeasible_end face status is steps.Optimal h = absurd h
infeasible_end face status is steps.Infeasible h = is
infeasible_end face status is (steps.Unbounded column) h = absurd h
infeasible_end face status is (steps.Pivot pivot) h = absurd h

unbounded_end : (m : Mechanism) (ray : List ℤ) (status : ℕ) → status ≡ 11 → (step : Step) → ClaimsEnd step (Unbounded m ray) → IsEndStatus step status
unbounded_end m ray status is steps.Optimal h = absurd h
unbounded_end m ray status is steps.Infeasible h = absurd h
unbounded_end m ray status is (steps.Unbounded column) h = is
unbounded_end m ray status is (steps.Pivot pivot) h = absurd h

wide_end : (cuts : List ℕ) (first : Wide) (second : Option Wide) (status : ℕ) (step : Step) → ClaimsEnd step (TooWide cuts first second) → IsEndStatus step status
wide_end cuts first second status steps.Optimal h = absurd h
wide_end cuts first second status steps.Infeasible h = absurd h
wide_end cuts first second status (steps.Unbounded column) h = absurd h
wide_end cuts first second status (steps.Pivot pivot) h = absurd h

module _ (s : GeneralSetting) (width status : ℕ) (text : List ℕ) where
  of_optimal : (value : Frac) (m : Mechanism) (bound : Bound) → IsShownBy s width (Optimal value m bound)
      → status ≡ 0 → answer_of s text ≡ Ok (Optimal value m bound) → IsHeadline s width status text
  of_optimal value m bound h is reads =
      record {
        program = h.solved.program;
        is_program = h.solved.is_program;
        optimal = λ _. record { value = value; mechanism = m; bound = bound; read_back = reads; optimal = h.optimal; is_value = h.value; same_value = λ best other. value-of_each s m best value h.optimal h.value other; valid = valid s width (Optimal value m bound) h (λ no. no) };
        infeasible = λ other. absurd (omega (arith, is, other));
        unbounded = λ other. absurd (omega (arith, is, other));
        too_wide = λ other. absurd (omega (arith, is, other));
        one_of = inl is;
        wide = λ p program forward backward. absurd (h.wide p program forward backward);
        taken = λ p order pivots step program way. optimal_end value m bound status is step (h.taken p order pivots step program way);
        none = λ _. (λ other. absurd (omega (arith, is, other)), λ so. absurd ((h.none (λ no. no)).1 so));
        no_bound = λ _. (λ other. absurd (omega (arith, is, other)), λ so. absurd ((h.no_bound (λ no. no)).1 so));
      }

  of_infeasible : (face : List ℤ) → IsShownBy s width (Infeasible face)
      → status ≡ 10 → answer_of s text ≡ Ok (Infeasible face) → IsHeadline s width status text
  of_infeasible face h is reads =
      record {
        program = h.solved.program;
        is_program = h.solved.is_program;
        optimal = λ other. absurd (omega (arith, is, other));
        infeasible = λ _. record { face = face; read_back = reads; infeasible = h.infeasible; valid = valid s width (Infeasible face) h (λ no. no) };
        unbounded = λ other. absurd (omega (arith, is, other));
        too_wide = λ other. absurd (omega (arith, is, other));
        one_of = inr (inl is);
        wide = λ p program forward backward. absurd (h.wide p program forward backward);
        taken = λ p order pivots step program way. infeasible_end face status is step (h.taken p order pivots step program way);
        none = λ _. (λ _. h.infeasible, λ _. is);
        no_bound = λ _. (λ other. absurd (omega (arith, is, other)), λ so. absurd ((h.no_bound (λ no. no)).1 so));
      }

  of_unbounded : (m : Mechanism) (ray : List ℤ) → IsShownBy s width (Unbounded m ray)
      → status ≡ 11 → answer_of s text ≡ Ok (Unbounded m ray) → IsHeadline s width status text
  of_unbounded m ray h is reads =
      record {
        program = h.solved.program;
        is_program = h.solved.is_program;
        optimal = λ other. absurd (omega (arith, is, other));
        infeasible = λ other. absurd (omega (arith, is, other));
        unbounded = λ _. record { mechanism = m; ray = ray; read_back = reads; grows = h.unbounded; valid = valid s width (Unbounded m ray) h (λ no. no) };
        too_wide = λ other. absurd (omega (arith, is, other));
        one_of = inr (inr (inl is));
        wide = λ p program forward backward. absurd (h.wide p program forward backward);
        taken = λ p order pivots step program way. unbounded_end m ray status is step (h.taken p order pivots step program way);
        none = λ _. (λ other. absurd (omega (arith, is, other)), λ so. absurd ((h.none (λ no. no)).1 so));
        no_bound = λ _. (λ _. (h.no_bound (λ no. no)).0 tt, λ _. is);
      }

  of_too_wide : (first second : Wide) → IsShownBy s width (TooWide [] first (Some second))
      → status ≡ 12 → answer_of s text ≡ Ok (TooWide [] first (Some second)) → IsHeadline s width status text
  of_too_wide first second h is reads =
      record {
        program = h.solved.program;
        is_program = h.solved.is_program;
        optimal = λ other. absurd (omega (arith, is, other));
        infeasible = λ other. absurd (omega (arith, is, other));
        unbounded = λ other. absurd (omega (arith, is, other));
        too_wide = λ _. record {
          first = first;
          second = second;
          read_back = reads;
          forward = λ p program. (h.every_program p program).1;
          backward = λ p program. (h.every_program p program).2;
        };
        one_of = inr (inr (inr is));
        wide = λ p program forward backward. is;
        taken = λ p order pivots step program way. wide_end [] first (Some second) status step (h.taken p order pivots step program way);
        none = λ other. absurd (other is);
        no_bound = λ other. absurd (other is);
      }

  -- whatever the answer is
  pub headline : (answer : Answer) → IsShownBy s width answer → status ≡ status_of_answer answer → answer_of s text ≡ Ok answer → IsHeadline s width status text
  headline (Table m) h is reads = absurd (h.claims tt)
  headline (Optimal value m bound) h is reads = of_optimal value m bound h is reads
  headline (Infeasible face) h is reads = of_infeasible face h is reads
  headline (Unbounded m ray) h is reads = of_unbounded m ray h is reads
  headline (AuctionOptimal value interim masses cuts bound) h is reads = absurd (h.certified h.solved.program h.solved.is_program)
  headline (TooWide cuts first None) h is reads = absurd h.solved.solved.2
  headline (TooWide cuts first (Some second)) h is reads =
      let none : cuts ≡ [] = h.solved.solved.0 in
      of_too_wide first second (subst (λ c. IsShownBy s width (TooWide c first (Some second))) none h) is (reads ∙ ap (λ c. Ok (TooWide c first (Some second))) none)

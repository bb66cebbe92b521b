-- What the answer of the fair program shows, by its kind.
use Rattle.std.proofs.Common.{◌≡◌, ◌≢◌, ◌↔◌, ℕ, List, Ok, inl, inr, arith}
use Rattle.md_math.specs.Sizes.{IsWithin}
use Rattle.md_setting.specs.Setting.{GeneralSetting}
use Rattle.md_lp.specs.Program.{Program}
use Rattle.md_lp.specs.declared.pivot.Pivot.{Pivot}
use Rattle.md_lp.specs.declared.wide.Wide.{Wide}
use Rattle.md_mech.specs.Accepted.{number_limit}
use Rattle.md_mech.specs.Admissible.{IsAdmissible}
use Rattle.md_mech.specs.Optimal.{IsInfeasible}
use Rattle.md_simplex.specs.declared.order.Order.{Order}
use Rattle.md_simplex.specs.declared.order.Order.TheVariants.{Forward, Backward}
use Rattle.md_simplex.specs.declared.simplex_error.SimplexError.TheVariants as errors
use Rattle.md_simplex.specs.declared.step.Step.{Step}
use Rattle.md_simplex.specs.declared.step.Step.TheVariants as steps
use Rattle.md_simplex.specs.Runs.{IsLeft, IsTaken, MeetsWideBasis}
use Rattle.md_question.specs.Findings.{ClaimsInfeasible, ClaimsUnbounded, WhereInfeasible, WhereOptimal, WhereUnbounded}
use Rattle.md_question.specs.Question.{Question}
use Rattle.md_question.specs.Shown.{IsShown, IsSo}
use Rattle.md_question.specs.declared.finding.Finding.{Finding}
use Rattle.md_question.specs.declared.finding.Finding.TheVariants.{Optimal, Infeasible, Unbounded}
use Rattle.md_question_check.specs.Verdicts.{HasNarrowLevel, IsVerdictOn}
use Rattle.md_question_check.specs.declared.verdict.Verdict.TheVariants.{Valid}
use Rattle.md_question_solve.specs.Found.{ClaimsEnd, IsFound, IsWideFor}
use Rattle.md_fair.specs.Bounds.{HasNoLeastBound}
use Rattle.md_fair.specs.FairProgram.{IsFairProgram}
use Rattle.md_fair.specs.Fairest.{GrowsFair, IsOptimalFair}
use Rattle.md_fair.specs.FairQuestion.{fair_question}
use Rattle.md_fair.specs.FairRows.{text_of_fair}
use Rattle.md_fair.specs.FairText.{fair_answer_of}
use Rattle.md_fair.specs.declared.answer.FairAnswer.TheVariants.{Found, TooWide}
use Rattle.md_fair.specs.Least.{IsLeastValueOf, least_of}
use Rattle.md_cli_best.specs.Fair.{IsFairSaying, status_of_finding}
use Rattle.md_cli_best.specs.Headline.{IsEndStatus}
use Rattle.md_cli_driver.specs.Saying.{Saying}

-- what is known of an answer: what it claims is so, and it tells what the paths come to
pub record IsShownFair (s : GeneralSetting) (width : ℕ) (answer : Finding) : Type 0 where
  pub solved : IsFound (fair_question s) width answer
  pub only : (other : Finding) → IsFound (fair_question s) width other → answer ≡ other
  pub optimal : WhereOptimal (λ value mechanism bound. IsOptimalFair s mechanism) answer
  pub value : WhereOptimal (λ value mechanism bound. IsLeastValueOf s mechanism value) answer
  pub infeasible : WhereInfeasible (λ face. IsInfeasible s) answer
  pub unbounded : WhereUnbounded (GrowsFair s) answer
  pub admissible : WhereUnbounded (λ mechanism ray. IsAdmissible s mechanism) answer
  pub narrow : WhereOptimal (λ value mechanism bound. IsWithin number_limit (least_of s mechanism)) answer
  pub certified : (p : Program) → IsFairProgram s p → IsShown (fair_question s) p answer
  pub wide : (p : Program) → IsFairProgram s p → MeetsWideBasis Forward p width → MeetsWideBasis Backward p width → ⊥
  pub taken : (p : Program) (order : Order) (pivots : List Pivot) (step : Step) → IsFairProgram s p → IsTaken order p width pivots step → ClaimsEnd step answer
  pub none : ClaimsInfeasible answer ↔ IsInfeasible s
  pub no_bound : ClaimsUnbounded answer ↔ HasNoLeastBound s

-- the claim is so
so : (s : GeneralSetting) (width : ℕ) (answer : Finding) → IsShownFair s width answer → IsSo (fair_question s) answer
so s width (Optimal value m bound) h = (h.optimal, h.value)
so s width (Infeasible face) h = h.infeasible
so s width (Unbounded m ray) h = h.unbounded

-- the level of the mechanism that was found, if there is one, has at most 62 bits
abbrev pub HasNarrowLevelIn : Question → Finding → Type 0
HasNarrowLevelIn q (Optimal value mechanism bound) = HasNarrowLevel q mechanism
HasNarrowLevelIn q (Infeasible face) = Unit {0}
HasNarrowLevelIn q (Unbounded mechanism ray) = HasNarrowLevel q mechanism

-- so it has where that of a best one has, and that of one without a bound
pub narrow-in : (q : Question) (finding : Finding) → WhereOptimal (λ value mechanism bound. HasNarrowLevel q mechanism) finding → WhereUnbounded (λ mechanism ray. HasNarrowLevel q mechanism) finding
    → HasNarrowLevelIn q finding
narrow-in q (Optimal value mechanism bound) best unbounded = best
narrow-in q (Infeasible face) best unbounded = tt
narrow-in q (Unbounded mechanism ray) best unbounded = unbounded

-- where the level is narrow, the checker finds it valid
pub fair-valid : (s : GeneralSetting) (p : Program) (finding : Finding) → IsFairProgram s p → ((r : Program) → IsFairProgram s r → IsShown (fair_question s) r finding) → IsSo (fair_question s) finding
    → WhereUnbounded (λ mechanism ray. IsAdmissible s mechanism) finding → HasNarrowLevelIn (fair_question s) finding → IsVerdictOn (fair_question s) finding Valid
fair-valid s p (Optimal value m bound) is shown so admissible narrow =
    let best : IsOptimalFair s m = so.0 in
    (record { admitted = best.admissible; value = so.1 }, narrow, record { program = p; is_program = is; holds = shown })
fair-valid s p (Infeasible face) is shown so admissible narrow = record { program = p; is_program = is; holds = shown }
fair-valid s p (Unbounded m ray) is shown so admissible narrow = (admissible, narrow, record { program = p; is_program = is; holds = shown })

-- the status tells the end of the path
end-status : (status : ℕ) (answer : Finding) → status ≡ status_of_finding answer → (step : Step) → ClaimsEnd step answer → IsEndStatus step status
end-status status (Optimal value m bound) is steps.Optimal h = is
end-status status (Optimal value m bound) is steps.Infeasible h = absurd h
end-status status (Optimal value m bound) is (steps.Unbounded column) h = absurd h
end-status status (Optimal value m bound) is (steps.Pivot pivot) h = absurd h
end-status status (Infeasible face) is steps.Optimal h = absurd h
end-status status (Infeasible face) is steps.Infeasible h = is
end-status status (Infeasible face) is (steps.Unbounded column) h = absurd h
end-status status (Infeasible face) is (steps.Pivot pivot) h = absurd h
end-status status (Unbounded m ray) is steps.Optimal h = absurd h
end-status status (Unbounded m ray) is steps.Infeasible h = absurd h
end-status status (Unbounded m ray) is (steps.Unbounded column) h = is
end-status status (Unbounded m ray) is (steps.Pivot pivot) h = absurd h

-- it is 10 exactly where there is none
pub none-status : (None : Type 0) (status : ℕ) (answer : Finding) → status ≡ status_of_finding answer → ClaimsInfeasible answer ↔ None
    → (status ≡ 10) ↔ None
none-status None status (Optimal value m bound) is h = (λ other. absurd (omega (arith, is, other)), λ none. absurd (h.1 none))
none-status None status (Infeasible face) is h = (λ _. h.0 tt, λ _. is)
none-status None status (Unbounded m ray) is h = (λ other. absurd (omega (arith, is, other)), λ none. absurd (h.1 none))

-- it is 11 exactly where there is no bound
pub no_bound-status : (NoBound : Type 0) (status : ℕ) (answer : Finding) → status ≡ status_of_finding answer → ClaimsUnbounded answer ↔ NoBound
    → (status ≡ 11) ↔ NoBound
no_bound-status NoBound status (Optimal value m bound) is h = (λ other. absurd (omega (arith, is, other)), λ none. absurd (h.1 none))
no_bound-status NoBound status (Infeasible face) is h = (λ other. absurd (omega (arith, is, other)), λ none. absurd (h.1 none))
no_bound-status NoBound status (Unbounded m ray) is h = (λ _. h.0 tt, λ _. is)

-- an answer
pub of_answer : (s : GeneralSetting) (width : ℕ) (saying : Saying) (answer : Finding) → IsShownFair s width answer
    → saying.status ≡ status_of_finding answer → saying.text ≡ text_of_fair s (Found answer) → fair_answer_of s saying.text ≡ Ok (Found answer) → IsFairSaying s width saying
of_answer s width saying answer h is text reads =
    record {
      told = inl (record {
        answer = answer;
        solved = h.solved;
        only = h.only;
        shows = so s width answer h;
        admissible = h.admissible;
        certified = h.certified;
        valid = λ unbounded. fair-valid s h.solved.program answer h.solved.is_program h.certified (so s width answer h) h.admissible (narrow-in (fair_question s) answer h.narrow unbounded);
        status = is;
        text = text;
        read_back = reads;
      });
      wide = λ p program forward backward. absurd (h.wide p program forward backward);
      taken = λ p order pivots step program way. end-status saying.status answer is step (h.taken p order pivots step program way);
      none = λ _. none-status (IsInfeasible s) saying.status answer is h.none;
      no_bound = λ _. no_bound-status (HasNoLeastBound s) saying.status answer is h.no_bound;
    }

-- no error but want of memory is that
not_memory : (first second : Wide) → errors.TooWide first second ≢ errors.Memory
not_memory first second same = let e = same in cc

-- both paths have a wide basis, so that none is taken
pub of_wide : (s : GeneralSetting) (width : ℕ) (saying : Saying) (first second : Wide)
    → IsWideFor (fair_question s) width first second
    → ((p : Program) → IsFairProgram s p → IsLeft p width (errors.TooWide first second))
    → ((p : Program) (order : Order) (pivots : List Pivot) (step : Step) → IsFairProgram s p → IsTaken order p width pivots step → errors.TooWide first second ≡ errors.Memory)
    → saying.status ≡ 12 → saying.text ≡ text_of_fair s (TooWide first second) → fair_answer_of s saying.text ≡ Ok (TooWide first second) → IsFairSaying s width saying
of_wide s width saying first second wide left taken is text reads =
    record {
      told = inr (record {
        first = first;
        second = second;
        wide = wide;
        forward = λ p program. (left p program).0;
        backward = λ p program. (left p program).1;
        status = is;
        text = text;
        read_back = reads;
      });
      wide = λ p program forward backward. is;
      taken = λ p order pivots step program way. absurd (not_memory first second (taken p order pivots step program way));
      none = λ other. absurd (other is);
      no_bound = λ other. absurd (other is);
    }

-- What is said of what was found, by its kind, and where nothing was.
use Rattle.std.proofs.Common.{◌≡◌, ◌≢◌, ◌↔◌, ℕ, ℤ, List, Ok, inl, inr, arith}
use Rattle.md_math.proofs.SizeLaws.{IsWithin-zero}
use Rattle.md_num.specs.declared.frac.Frac.{Frac}
use Rattle.md_setting.specs.Setting.{GeneralSetting}
use Rattle.md_mech.specs.declared.mechanism.Mechanism.{Mechanism}
use Rattle.md_mech.specs.Accepted.{number_limit}
use Rattle.md_mech.specs.Optimal.{IsInfeasible}
use Rattle.md_cert.specs.declared.bound.Bound.{Bound}
use Rattle.md_question.specs.Best.{best_question}
use Rattle.md_question.specs.Certified.{IsCertifiedFinding}
use Rattle.md_question.specs.Question.{AdmitsNone, Question}
use Rattle.md_question.specs.declared.finding.Finding.{Finding}
use Rattle.md_question.specs.declared.finding.Finding.TheVariants.{Optimal, Infeasible, Unbounded}
use Rattle.md_question.specs.Findings as findings
use Rattle.md_question_solve.specs.Found.{HasWidePaths}
use Rattle.md_question_solve.proofs.FoundLaws.{not-found}
use Rattle.md_answer.specs.Answers.{answer_of}
use Rattle.md_answer.specs.Rows.{text_of_answer}
use Rattle.md_answer.specs.declared.answer.Answer.{Answer}
use Rattle.md_answer.specs.declared.answer.Answer.TheVariants as answers
use Rattle.md_check.specs.Verdicts.{IsVerdict}
use Rattle.md_question_check.specs.Verdicts.{HasNarrowLevel, IsVerdictOn}
use Rattle.md_question_check.specs.declared.verdict.Verdict.TheVariants.{Valid}
use Rattle.md_solve.specs.Answered.{ClaimsUnbounded, IsTooWide}
use Rattle.md_solve.specs.Bounds.{HasNoBound}
use Rattle.md_solve.specs.Solved as solved
use Rattle.md_check.proofs.OptimalValues.{value-of_each}
use Rattle.md_cli_driver.specs.Saying.{Saying, undecided_text}
use Rattle.md_cli_best.specs.Fair.{status_of_finding}
use Rattle.md_cli_best.specs.Finding.{IsFindHeadline, IsFinding, IsFindingBy, IsFindStatus}
use Rattle.md_cli_best.specs.Headline.{PrintsInfeasible, PrintsOptimal, PrintsUnbounded}
use Rattle.md_cli_best.proofs.Fairest.{HasNarrowLevelIn, no_bound-status, none-status}

-- ---- by any question

-- a status of what was found is not 22
pub found-status : (status : ℕ) (finding : Finding) → status ≡ status_of_finding finding → status ≢ 22
found-status status (Optimal value m bound) is other = absurd (omega (arith, is, other))
found-status status (Infeasible face) is other = absurd (omega (arith, is, other))
found-status status (Unbounded m ray) is other = absurd (omega (arith, is, other))

module _ (q : Question) (NoBound : Type 0) (text_of : Finding → List ℕ) (Reads : List ℕ → Finding → Type 0) (saying : Saying) where
  pub said-found : (finding : Finding) → IsCertifiedFinding q finding → findings.ClaimsUnbounded finding ↔ NoBound → saying.status ≡ status_of_finding finding → saying.text ≡ text_of finding
      → Reads saying.text finding → (findings.WhereUnbounded (λ m ray. HasNarrowLevel q m) finding → IsVerdictOn q finding Valid) → IsFindingBy q NoBound text_of Reads saying
  said-found finding h unbounded is text reads valid = record {
    told = inl (record { finding = finding; certified = h; valid = valid; status = is; text = text; read_back = reads });
    answered = λ other found. found-status saying.status finding is;
    none = λ _. none-status (AdmitsNone q) saying.status finding is h.none;
    no_bound = λ _. no_bound-status NoBound saying.status finding is unbounded;
  }

  pub said-not_found : HasWidePaths q 62 → saying.status ≡ 22 → saying.text ≡ undecided_text → IsFindingBy q NoBound text_of Reads saying
  said-not_found wide is text = record {
    told = inr (record { wide = wide; status = is; text = text });
    answered = λ other found. absurd (not-found q 62 other wide found);
    none = λ other. absurd (other is);
    no_bound = λ other. absurd (other is);
  }

-- by a question whose best mechanisms are admitted, and whose values in least terms are values
module _ (q : Question) (admitted : (m : Mechanism) → q.is_optimal m → q.admits m) (value_of : (m : Mechanism) (value : Frac) → q.is_value m value → q.has_value m value) where
  pub certified-valid : (finding : Finding) → HasNarrowLevelIn q finding → IsCertifiedFinding q finding → IsVerdictOn q finding Valid
  certified-valid (Optimal value m bound) narrow h =
      (record { admitted = admitted m h.so.0; value = value_of m value h.so.1 }, narrow, record { program = h.program; is_program = h.is_program; holds = h.shown })
  certified-valid (Infeasible face) narrow h = record { program = h.program; is_program = h.is_program; holds = h.shown }
  certified-valid (Unbounded m ray) narrow h = (h.admitted, narrow, record { program = h.program; is_program = h.is_program; holds = h.shown })

pub find-status : (status : ℕ) (finding : Finding) → status ≡ status_of_finding finding → IsFindStatus status
find-status status (Optimal value m bound) is = inl is
find-status status (Infeasible face) is = inr (inl is)
find-status status (Unbounded m ray) is = inr (inr (inl is))

-- ---- by the setting's own

module _ (s : GeneralSetting) where
  pub best-valid : (finding : Finding) → IsCertifiedFinding (best_question s) finding → IsVerdictOn (best_question s) finding Valid
  best-valid finding h = certified-valid (best_question s) (λ m best. best.admissible) (λ m value is. is.is_value) finding (narrow finding) h
    where
      narrow : (finding : Finding) → HasNarrowLevelIn (best_question s) finding
      narrow (Optimal value m bound) = IsWithin-zero number_limit
      narrow (Infeasible face) = tt
      narrow (Unbounded m ray) = IsWithin-zero number_limit

  valid : (finding : Finding) → IsCertifiedFinding (best_question s) finding → IsVerdict s (solved.answer_of finding) Valid
  valid (Optimal value m bound) h = best-valid (Optimal value m bound) h
  valid (Infeasible face) h = best-valid (Infeasible face) h
  valid (Unbounded m ray) h = best-valid (Unbounded m ray) h

  -- the answer claims what the finding does
  pub claims-unbounded : (finding : Finding) → ClaimsUnbounded (solved.answer_of finding) ↔ HasNoBound s → findings.ClaimsUnbounded finding ↔ HasNoBound s
  claims-unbounded (Optimal value m bound) h = h
  claims-unbounded (Infeasible face) h = h
  claims-unbounded (Unbounded m ray) h = h

  module _ (text : List ℕ) where
    prints-optimal : (value : Frac) (m : Mechanism) (bound : Bound) → IsCertifiedFinding (best_question s) (Optimal value m bound)
        → answer_of s text ≡ Ok (answers.Optimal value m bound) → PrintsOptimal s text
    prints-optimal value m bound h reads =
        record { value = value; mechanism = m; bound = bound; read_back = reads; optimal = h.so.0; is_value = h.so.1; same_value = λ best is. value-of_each s m best value h.so.0 h.so.1 is; valid = valid (Optimal value m bound) h }

    prints-infeasible : (face : List ℤ) → IsCertifiedFinding (best_question s) (Infeasible face) → answer_of s text ≡ Ok (answers.Infeasible face) → PrintsInfeasible s text
    prints-infeasible face h reads = record { face = face; read_back = reads; infeasible = h.so; valid = valid (Infeasible face) h }

    prints-unbounded : (m : Mechanism) (ray : List ℤ) → IsCertifiedFinding (best_question s) (Unbounded m ray) → answer_of s text ≡ Ok (answers.Unbounded m ray) → PrintsUnbounded s text
    prints-unbounded m ray h reads = record { mechanism = m; ray = ray; read_back = reads; grows = h.so; valid = valid (Unbounded m ray) h }

    pub headline-found : (status : ℕ) (finding : Finding) → IsCertifiedFinding (best_question s) finding → ClaimsUnbounded (solved.answer_of finding) ↔ HasNoBound s
        → status ≡ status_of_finding finding → answer_of s text ≡ Ok (solved.answer_of finding) → IsFindHeadline s status text
    headline-found status (Optimal value m bound) h unbounded is reads = record {
      optimal = λ _. prints-optimal value m bound h reads;
      infeasible = λ other. absurd (omega (arith, is, other));
      unbounded = λ other. absurd (omega (arith, is, other));
      one_of = find-status status (Optimal value m bound) is;
      wide = λ other. absurd (omega (arith, is, other));
      answered = λ answer is_solved narrow. found-status status (Optimal value m bound) is;
      none = λ _. none-status (IsInfeasible s) status (Optimal value m bound) is h.none;
      no_bound = λ _. (λ other. absurd (omega (arith, is, other)), λ none. absurd (unbounded.1 none));
    }
    headline-found status (Infeasible face) h unbounded is reads = record {
      optimal = λ other. absurd (omega (arith, is, other));
      infeasible = λ _. prints-infeasible face h reads;
      unbounded = λ other. absurd (omega (arith, is, other));
      one_of = find-status status (Infeasible face) is;
      wide = λ other. absurd (omega (arith, is, other));
      answered = λ answer is_solved narrow. found-status status (Infeasible face) is;
      none = λ _. none-status (IsInfeasible s) status (Infeasible face) is h.none;
      no_bound = λ _. (λ other. absurd (omega (arith, is, other)), λ none. absurd (unbounded.1 none));
    }
    headline-found status (Unbounded m ray) h unbounded is reads = record {
      optimal = λ other. absurd (omega (arith, is, other));
      infeasible = λ other. absurd (omega (arith, is, other));
      unbounded = λ _. prints-unbounded m ray h reads;
      one_of = find-status status (Unbounded m ray) is;
      wide = λ other. absurd (omega (arith, is, other));
      answered = λ answer is_solved narrow. found-status status (Unbounded m ray) is;
      none = λ _. none-status (IsInfeasible s) status (Unbounded m ray) is h.none;
      no_bound = λ _. (λ _. unbounded.0 tt, λ _. is);
    }

    -- where both paths are wide, `solve` has no answer either
    not-solved : (answer : Answer) → HasWidePaths (best_question s) 62 → solved.IsSolved s 62 answer → IsTooWide answer
    not-solved (answers.Table m) wide h = absurd h.solved
    not-solved (answers.Optimal value m bound) wide h = absurd (not-found (best_question s) 62 (Optimal value m bound) wide (record { program = h.program; is_program = h.is_program; found = h.solved }))
    not-solved (answers.Infeasible face) wide h = absurd (not-found (best_question s) 62 (Infeasible face) wide (record { program = h.program; is_program = h.is_program; found = h.solved }))
    not-solved (answers.Unbounded m ray) wide h = absurd (not-found (best_question s) 62 (Unbounded m ray) wide (record { program = h.program; is_program = h.is_program; found = h.solved }))
    not-solved (answers.AuctionOptimal value interim masses cuts bound) wide h = absurd h.solved
    not-solved (answers.TooWide cuts first second) wide h = tt

    pub headline-not_found : (status : ℕ) → HasWidePaths (best_question s) 62 → status ≡ 22 → IsFindHeadline s status text
    headline-not_found status wide is = record {
      optimal = λ other. absurd (omega (arith, is, other));
      infeasible = λ other. absurd (omega (arith, is, other));
      unbounded = λ other. absurd (omega (arith, is, other));
      one_of = inr (inr (inr is));
      wide = λ _. wide;
      answered = λ answer is_solved narrow. absurd (narrow (not-solved answer wide is_solved));
      none = λ other. absurd (other is);
      no_bound = λ other. absurd (other is);
    }

  pub not_found : (saying : Saying) → HasWidePaths (best_question s) 62 → saying.status ≡ 22 → saying.text ≡ undecided_text → IsFinding s saying
  not_found saying wide is text = record {
    told = said-not_found (best_question s) (HasNoBound s) (λ f. text_of_answer s (solved.answer_of f)) (λ t f. answer_of s t ≡ Ok (solved.answer_of f)) saying wide is text;
    headline = headline-not_found saying.text saying.status wide is;
  }

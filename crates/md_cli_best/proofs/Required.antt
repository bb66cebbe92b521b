-- What is said of what was found under conditions of the designer, with the shadows of these, and where nothing was.
use Rattle.std.proofs.Common.{◌≡◌, ◌≤ℤ◌, pos, List, [], Option, Ok, refl, inl, inr, arith}
use Rattle.std.proofs.lemmas.Int.{ints}
use Rattle.std.proofs.lemmas.List.Elements.{All-nil}
use Rattle.md_math.proofs.SizeLaws.{IsWithin-zero}
use Rattle.md_num.specs.declared.frac.Frac.{Frac}
use Rattle.md_setting.specs.Setting.{GeneralSetting}
use Rattle.md_setting.specs.Meaning.{total_of}
use Rattle.md_mech.specs.Accepted.{number_limit}
use Rattle.md_question.specs.Certified.{IsCertifiedFinding}
use Rattle.md_question.specs.Question.{AdmitsNone}
use Rattle.md_question.specs.declared.finding.Finding.{Finding}
use Rattle.md_question.specs.declared.finding.Finding.TheVariants.{Optimal, Infeasible, Unbounded}
use Rattle.md_question_solve.specs.Found.{HasWidePaths}
use Rattle.md_question_solve.proofs.FoundLaws.{not-found}
use Rattle.md_require.specs.declared.condition.Condition.{Condition}
use Rattle.md_require.specs.declared.required_verdict.RequiredVerdict.TheVariants.{Valid}
use Rattle.md_require.specs.Limits.{AreConditionsFor}
use Rattle.md_require.specs.RequireQuestion.{require_question}
use Rattle.md_require.specs.RequireVerdicts.{ClaimHolds, IsRequiredVerdict, TellsRightly}
use Rattle.md_require.proofs.ToldVerdicts.{answer-claim}
use Rattle.md_require_text.specs.RequiredRows.{text_of_required}
use Rattle.md_require_text.specs.RequiredText.{required_answer_of}
use Rattle.md_require_text.specs.Told.{AreShadowsFor, IsFractionIfTold}
use Rattle.md_cli_driver.specs.Saying.{Saying, undecided_text}
use Rattle.md_cli_best.specs.Fair.{status_of_finding}
use Rattle.md_cli_best.specs.Requiring.{IsRequiring, with_conditions}
use Rattle.md_cli_best.specs.RequiredBounds.{HasNoRequiredBound}
use Rattle.md_cli_best.proofs.Fairest.{HasNarrowLevelIn, no_bound-status, none-status}
use Rattle.md_cli_best.proofs.Found.{certified-valid, found-status}
use Rattle.md_cli_best.proofs.RequiredBounds.{exactly_unbounded}

-- no shadow is told of none
pub no-shadows : AreShadowsFor 0 []
no-shadows = record { one_each = refl; each = All-nil IsFractionIfTold }

module _ (s : GeneralSetting) (conditions : List Condition) where
  -- the level is 0
  narrow : (finding : Finding) → HasNarrowLevelIn (require_question s conditions) finding
  narrow (Optimal value m bound) = IsWithin-zero number_limit
  narrow (Infeasible face) = tt
  narrow (Unbounded m ray) = IsWithin-zero number_limit

  claim : (finding : Finding) → IsCertifiedFinding (require_question s conditions) finding → ClaimHolds s conditions finding
  claim (Optimal value m bound) h = (h.so.0, h.so.1.is_value)
  claim (Infeasible face) h = h.so
  claim (Unbounded m ray) h = h.so

  valid : (finding : Finding) (shadows : List (Option Frac)) → IsCertifiedFinding (require_question s conditions) finding → TellsRightly s conditions finding shadows
      → IsRequiredVerdict s conditions finding shadows Valid
  valid finding shadows h told = (certified-valid (require_question s conditions) (λ m best. best.required) (λ m value is. is.is_value) finding (narrow finding) h, told)

  pub said-required : (saying : Saying) (finding : Finding) (shadows : List (Option Frac)) → pos 1 ≤ℤ total_of s → AreConditionsFor s conditions
      → IsCertifiedFinding (require_question s conditions) finding → TellsRightly s conditions finding shadows
      → saying.status ≡ status_of_finding finding → saying.text ≡ text_of_required s (with_conditions conditions finding shadows)
      → required_answer_of s saying.text ≡ Ok (with_conditions conditions finding shadows) → IsRequiring s conditions saying
  said-required saying finding shadows total fit h told is text reads =
      let verdict = valid finding shadows h told in
      record {
        told = inl (record {
          finding = finding;
          shadows = shadows;
          certified = h;
          valid = verdict;
          holds = answer-claim s conditions finding shadows (omega (arith, ints, total)) fit verdict (claim finding h);
          status = is;
          text = text;
          read_back = reads;
        });
        answered = λ other found. found-status saying.status finding is;
        none = λ _. none-status (AdmitsNone (require_question s conditions)) saying.status finding is h.none;
        no_bound = λ _. no_bound-status (HasNoRequiredBound s conditions) saying.status finding is (exactly_unbounded s conditions finding total h.so);
      }

  pub said-not_found : (saying : Saying) → HasWidePaths (require_question s conditions) 62 → saying.status ≡ 22 → saying.text ≡ undecided_text → IsRequiring s conditions saying
  said-not_found saying wide is text = record {
    told = inr (record { wide = wide; status = is; text = text });
    answered = λ other found. absurd (not-found (require_question s conditions) 62 other wide found);
    none = λ other. absurd (other is);
    no_bound = λ other. absurd (other is);
  }

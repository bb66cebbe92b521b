-- The verdict on an answer to a question, by conditions that are tried in their order. Those of an optimal answer are:
--   1. the mechanism is admissible;
--   17. it meets the conditions of the question beyond those of the setting;
--   2. the value is that of the mechanism;
--   11. the level of the mechanism has at most 62 bits;
--   3. on each row that says at most, the pair of multipliers is lexicographically not negative;
--   4. at each column, so are the two sums of the column: of the face multipliers, and of the main multipliers less the cost;
--   5. the face multipliers times the right sides are 0;
--   6. the main multipliers times the right sides, over their denominator, are the cost of the mechanism's point.
-- Those of an infeasible answer are the third to fifth of the face multipliers alone, where the fifth wants a negative sum.
-- Those of an unbounded answer are the first, the seventeenth and the eleventh, and then:
--   7. the ray gives each row at most 0 (a row that is exact: 0);
--   8. the ray's cost is positive.
-- Rows and columns are those of the question's program, in ascending order. An answer all of whose conditions hold is valid;
-- else it is rejected with the first condition that fails, with its numbers.
use Rattle.std.specs.Prelude.{◌≡◌, ℤ, List}
use Rattle.md_math.specs.Sizes.{IsWithin}
use Rattle.md_num.specs.declared.frac.Frac.{Frac}
use Rattle.md_mech.specs.declared.mechanism.Mechanism.{Mechanism}
use Rattle.md_mech.specs.Accepted.{number_limit}
use Rattle.md_mech.specs.Admissible.{IsAdmissible}
use Rattle.md_mech.specs.Rows.{IsFirstBroken, conditions_of}
use Rattle.md_cert.specs.declared.bound.Bound.{Bound}
use Rattle.md_cert.specs.declared.certificate.Certificate.TheVariants as certificates
use Rattle.md_question.specs.Question.{Question, optimal_certificate, unbounded_certificate}
use Rattle.md_question.specs.declared.finding.Finding.{Finding}
use Rattle.md_question.specs.declared.finding.Finding.TheVariants.{Optimal, Infeasible, Unbounded}
use Rattle.md_question_check.specs.declared.verdict.Reject.{Reject}
use Rattle.md_question_check.specs.declared.verdict.Reject.TheVariants.{Audit, Value, Level, Unmet}
use Rattle.md_question_check.specs.declared.verdict.Verdict.{Verdict}
use Rattle.md_question_check.specs.declared.verdict.Verdict.TheVariants.{Rejected}
use Rattle.md_question_check.specs.Certificates.{IsJudged}

-- ---- conditions on the mechanism

-- the first three conditions of an optimal answer
pub record IsRightly (q : Question) (m : Mechanism) (printed : Frac) : Type 0 where
  pub admitted : q.admits m
  pub value : q.has_value m printed

-- the first condition on the mechanism that fails: one of the setting, or else one of the question
abbrev pub TellsNotAdmitted : Question → Mechanism → Reject → Type 0
TellsNotAdmitted q m (Audit broken) = IsFirstBroken q.setting m (conditions_of q.setting) 0 broken
TellsNotAdmitted q m (Unmet unmet) = IsAdmissible q.setting m × q.is_unmet m unmet
TellsNotAdmitted q m _ = ⊥

-- the value is this one, in least terms, and not the printed fraction
pub record IsOtherValue (q : Question) (m : Mechanism) (printed value : Frac) : Type 0 where
  pub other : ¬ q.has_value m printed
  pub right : q.is_value m value

-- the level of the mechanism has at most 62 bits
abbrev pub HasNarrowLevel : Question → Mechanism → Type 0
HasNarrowLevel q m = IsWithin number_limit (q.level m)

-- it is this one, and has more
pub record IsWideLevel (q : Question) (m : Mechanism) (level : ℤ) : Type 0 where
  pub is : level ≡ q.level m
  pub wide : ¬ HasNarrowLevel q m

-- ---- the verdict

abbrev pub IsOptimalVerdict : Question → Frac → Mechanism → Bound → Verdict → Type 0
IsOptimalVerdict q value m bound (Rejected (Audit broken)) = TellsNotAdmitted q m (Audit broken)
IsOptimalVerdict q value m bound (Rejected (Unmet unmet)) = TellsNotAdmitted q m (Unmet unmet)
IsOptimalVerdict q value m bound (Rejected (Value right)) = q.admits m × IsOtherValue q m value right
IsOptimalVerdict q value m bound (Rejected (Level level)) = IsRightly q m value × IsWideLevel q m level
IsOptimalVerdict q value m bound verdict = IsRightly q m value × HasNarrowLevel q m × IsJudged q (optimal_certificate q m bound) verdict

abbrev pub IsUnboundedVerdict : Question → Mechanism → List ℤ → Verdict → Type 0
IsUnboundedVerdict q m ray (Rejected (Audit broken)) = TellsNotAdmitted q m (Audit broken)
IsUnboundedVerdict q m ray (Rejected (Unmet unmet)) = TellsNotAdmitted q m (Unmet unmet)
IsUnboundedVerdict q m ray (Rejected (Level level)) = q.admits m × IsWideLevel q m level
IsUnboundedVerdict q m ray verdict = q.admits m × HasNarrowLevel q m × IsJudged q (unbounded_certificate q m ray) verdict

abbrev pub IsVerdictOn : Question → Finding → Verdict → Type 0
IsVerdictOn q (Optimal value m bound) verdict = IsOptimalVerdict q value m bound verdict
IsVerdictOn q (Infeasible face) verdict = IsJudged q (certificates.Infeasible face) verdict
IsVerdictOn q (Unbounded m ray) verdict = IsUnboundedVerdict q m ray verdict

-- What follows of a finding whose claim is so.
use Rattle.std.proofs.Common.{◌≡◌, ◌↔◌, ℤ, pos, ◌+ℤ◌, ◌*ℤ◌, List, length, ap, ◌∙◌, subst, arith}
use Rattle.md_math.specs.Lists.{number_at}
use Rattle.md_math.proofs.Builders.{list_to-same, list_to-get_or}
use Rattle.md_math.proofs.Ring.{linear, zero-*ℤ}
use Rattle.md_mech.specs.declared.mechanism.Mechanism.{Mechanism}
use Rattle.md_mech.specs.Optimal.{raised}
use Rattle.md_lp.specs.Program.{Program, row_count}
use Rattle.md_cert.proofs.SameCertificates.{certified-same}
use Rattle.md_forms.proofs.BuiltLaws.{rows-count}
use Rattle.md_forms.proofs.OneProgram as forms
use Rattle.md_lp.proofs.SamePrograms.{IsSameProgram}
use Rattle.md_question.specs.Findings.{ClaimsInfeasible, WhereInfeasible, WhereOptimal, WhereUnbounded}
use Rattle.md_question.specs.Question.{AdmitsNone, IsProgramFor, IsQuestion, Question}
use Rattle.md_question.specs.Shown.{IsShown, IsSo, certificate_of}
use Rattle.md_question.specs.declared.finding.Finding.{Finding}
use Rattle.md_question.specs.declared.finding.Finding.TheVariants.{Optimal, Infeasible, Unbounded}

-- no payment is changed where a ray is not added once
none-raised : (m : Mechanism) (ray : List ℤ) → raised m 0 ray ≡ m
none-raised m ray =
    ap (λ pays. record { den = m.den; chances = m.chances; pays = pays })
    (list_to-same (length m.pays) (λ j. number_at m.pays j +ℤ pos 0 *ℤ number_at ray j) (number_at m.pays) (λ j b. same (number_at m.pays j) (number_at ray j))
    ∙ list_to-get_or m.pays (pos 0))
  where
    same : (x y : ℤ) → x +ℤ pos 0 *ℤ y ≡ x
    same x y = let none : pos 0 *ℤ y ≡ pos 0 = zero-*ℤ y in omega (arith, linear, none)

module _ (q : Question) where
  -- a question has one program
  pub same_program : (p r : Program) → IsProgramFor q p → IsProgramFor q r → IsSameProgram p r
  same_program p r here there = forms.same_program q.columns q.forms q.cost p r here there

  -- what one program shows each shows
  pub shown-every : (p r : Program) (finding : Finding) → IsProgramFor q p → IsProgramFor q r → IsShown q p finding → IsShown q r finding
  shown-every p r finding here there h = certified-same p r (same_program p r here there) (certificate_of q finding) h

  -- ---- kinds

  pub so-optimal : (finding : Finding) → IsSo q finding → WhereOptimal (λ value m bound. q.is_optimal m) finding
  so-optimal (Optimal value m bound) h = h.0
  so-optimal (Infeasible face) h = tt
  so-optimal (Unbounded m ray) h = tt

  pub so-value : (finding : Finding) → IsSo q finding → WhereOptimal (λ value m bound. q.is_value m value) finding
  so-value (Optimal value m bound) h = h.1
  so-value (Infeasible face) h = tt
  so-value (Unbounded m ray) h = tt

  pub so-infeasible : (finding : Finding) → IsSo q finding → WhereInfeasible (λ face. AdmitsNone q) finding
  so-infeasible (Optimal value m bound) h = tt
  so-infeasible (Infeasible face) h = h
  so-infeasible (Unbounded m ray) h = tt

  pub so-unbounded : (finding : Finding) → IsSo q finding → WhereUnbounded q.grows finding
  so-unbounded (Optimal value m bound) h = tt
  so-unbounded (Infeasible face) h = tt
  so-unbounded (Unbounded m ray) h = h

  module _ (laws : IsQuestion q) where
    pub so-admitted : (finding : Finding) → IsSo q finding → WhereUnbounded (λ m ray. q.admits m) finding
    so-admitted (Optimal value m bound) h = tt
    so-admitted (Infeasible face) h = tt
    so-admitted (Unbounded m ray) h = subst q.admits (none-raised m ray) (laws.stays m ray 0 h)

    -- infeasibility is claimed wherever it is so
    pub exactly_infeasible : (finding : Finding) → IsSo q finding → ClaimsInfeasible finding ↔ AdmitsNone q
    exactly_infeasible (Optimal value m bound) h = (λ none. absurd none, λ none. none m (laws.admitted m h.0))
    exactly_infeasible (Infeasible face) h = (λ _. h, λ _. tt)
    exactly_infeasible (Unbounded m ray) h = (λ none. absurd none, λ none. none (raised m 0 ray) (laws.stays m ray 0 h))

    -- ---- the question's programs

    pub program-rows : (p : Program) → IsProgramFor q p → row_count p ≡ q.rows
    program-rows p is = rows-count q.columns q.forms q.cost p is ∙ laws.row_count

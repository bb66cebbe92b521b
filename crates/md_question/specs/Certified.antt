-- A finding that its numbers show.
use Rattle.std.specs.Prelude.{◌↔◌}
use Rattle.md_lp.specs.Program.{Program}
use Rattle.md_question.specs.Findings.{ClaimsInfeasible, WhereUnbounded}
use Rattle.md_question.specs.Question.{AdmitsNone, IsProgramFor, Question}
use Rattle.md_question.specs.Shown.{IsFindingTo, IsShown, IsSo}
use Rattle.md_question.specs.declared.finding.Finding.{Finding}

-- What it claims is so, over mechanisms of any denominator, with numbers of any size, and its numbers show it: the question has a
-- program, and in whatever terms that is written, they are a certificate of it. That none is admitted is claimed wherever it is
-- so. The finding can be written.
pub record IsCertifiedFinding (q : Question) (finding : Finding) : Type 0 where
  pub program : Program
  pub is_program : IsProgramFor q program
  pub shown : (p : Program) → IsProgramFor q p → IsShown q p finding
  pub so : IsSo q finding
  pub admitted : WhereUnbounded (λ mechanism ray. q.admits mechanism) finding
  pub none : ClaimsInfeasible finding ↔ AdmitsNone q
  pub writable : IsFindingTo q finding

-- What a verdict shows.
use Rattle.std.proofs.Common.{◌≡◌, ◌≢◌, Option, Some, None, MatchOption, ℤ, pos, ◌≤ℤ◌, ◌<ℤ◌, List, ◌∙◌, subst, arith}
use Rattle.std.proofs.lemmas.Int.{ints}
use Rattle.md_math.specs.Lists.{number_at}
use Rattle.md_math.proofs.FirstFailures.{HoldsBelow-no_failure}
use Rattle.md_math.proofs.Ring.{linear}
use Rattle.md_num.specs.declared.frac.Frac.{Frac}
use Rattle.md_setting.specs.Setting.{GeneralSetting}
use Rattle.md_mech.specs.declared.mechanism.Mechanism.{Mechanism}
use Rattle.md_mech.specs.Accepted.{IsAccepted}
use Rattle.md_mech.specs.Mechanism.{IsMechanism}
use Rattle.md_mech.specs.Value.{HasValue}
use Rattle.md_lp.specs.Program.{Program, row_count}
use Rattle.md_cert.specs.declared.bound.Bound.{Bound}
use Rattle.md_cert.specs.declared.certificate.Certificate.{Certificate}
use Rattle.md_cert.specs.declared.certificate.Certificate.TheVariants as certificates
use Rattle.md_cert.specs.Certified.{Certified, PairHolds, ColumnHolds, FaceHolds, FaceSumHolds, RayHolds}
use Rattle.md_cert.specs.Fitting.{Fits, IsDenominator}
use Rattle.md_cert.proofs.Duality.{optimal-claim, infeasible-claim}
use Rattle.md_parts.specs.Fitting.{AreMultipliers, IsBoundOver, IsRayFor}
use Rattle.md_rows.specs.Points.{mechanism_of}
use Rattle.md_claims.specs.Values as values
use Rattle.md_claims.proofs.FitLaws.{fits-rows}
use Rattle.md_question.specs.Best.{best_question}
use Rattle.md_question.specs.Question.{AdmitsNone, IsProgramFor, IsQuestion, Question, optimal_certificate, unbounded_certificate}
use Rattle.md_question.specs.declared.finding.Finding.{Finding}
use Rattle.md_question.specs.declared.finding.Finding.TheVariants.{Optimal, Infeasible, Unbounded}
use Rattle.md_question.proofs.FindingLaws.{program-rows, same_program}
use Rattle.md_question_check.specs.declared.verdict.Reject.{Reject}
use Rattle.md_question_check.specs.declared.verdict.Reject.TheVariants.{Audit, Value, Pair, Column, FaceRight, MainRight, RayRow, RayGain, Masses, Reduced, Level, Unmet}
use Rattle.md_question_check.specs.declared.verdict.Verdict.{Verdict}
use Rattle.md_question_check.specs.declared.verdict.Verdict.TheVariants.{Valid, Undecided, Rejected}
use Rattle.md_question_check.specs.Certificates.{IsJudged, Judges, TellsFault}
use Rattle.md_question_check.specs.Verdicts.{HasNarrowLevel, IsOptimalVerdict, IsOtherValue, IsRightly, IsUnboundedVerdict, IsVerdictOn, TellsNotAdmitted}
use Rattle.md_question_check.proofs.SameVerdict.{judges-to}

-- ---- what is certified has no fault

negative-not : (sum right : ℤ) → sum ≡ right → pos 0 ≤ℤ sum → right <ℤ pos 0 → ⊥
negative-not sum right same above below = omega (arith, linear)

positive-not : (sum gain : ℤ) → sum ≡ gain → sum ≤ℤ pos 0 → pos 0 <ℤ gain → ⊥
positive-not sum gain same below above = omega (arith, linear)

pub certified-no_fault : (p : Program) (c : Certificate) (reject : Reject) → Certified p c → TellsFault p c reject → ⊥
certified-no_fault p c (Audit broken) h t = t
certified-no_fault p c (Value right) h t = t
certified-no_fault p c (Masses kind sum demand) h t = t
certified-no_fault p c (Reduced row left right) h t = t
certified-no_fault p c (Level level) h t = t
certified-no_fault p c (Unmet unmet) h t = t
certified-no_fault p (certificates.Optimal den point bound) (Pair row f m) h t =
    HoldsBelow-no_failure (PairHolds p (number_at bound.face) (number_at bound.main)) (row_count p) row h.pairs t.1.first
certified-no_fault p (certificates.Optimal den point bound) (Column column f m) h t =
    HoldsBelow-no_failure (ColumnHolds p bound.den (number_at bound.face) (number_at bound.main)) p.columns column h.columns t.2.first
certified-no_fault p (certificates.Optimal den point bound) (FaceRight sum) h t = t.3.1 (t.3.0 ∙ h.face_right)
certified-no_fault p (certificates.Optimal den point bound) (MainRight limit cost) h t = t.3.1 h.main_right
certified-no_fault p (certificates.Optimal den point bound) (RayRow row sum) h t = t.3
certified-no_fault p (certificates.Optimal den point bound) (RayGain sum) h t = t.3
certified-no_fault p (certificates.Infeasible face) (Pair row f m) h t = HoldsBelow-no_failure (FaceHolds p (number_at face)) (row_count p) row h.pairs t.first
certified-no_fault p (certificates.Infeasible face) (Column column f m) h t = HoldsBelow-no_failure (FaceSumHolds p (number_at face)) p.columns column h.columns t.1.first
certified-no_fault p (certificates.Infeasible face) (FaceRight sum) h t = negative-not sum _ t.2 t.3 h.face_right
certified-no_fault p (certificates.Infeasible face) (MainRight limit cost) h t = t
certified-no_fault p (certificates.Infeasible face) (RayRow row sum) h t = t
certified-no_fault p (certificates.Infeasible face) (RayGain sum) h t = t
certified-no_fault p (certificates.Unbounded den point ray) (RayRow row sum) h t = HoldsBelow-no_failure (RayHolds p (number_at ray)) (row_count p) row h.rows t.1.first
certified-no_fault p (certificates.Unbounded den point ray) (RayGain sum) h t = positive-not sum _ t.2 t.3 h.gain
certified-no_fault p (certificates.Unbounded den point ray) (Pair row f m) h t = t
certified-no_fault p (certificates.Unbounded den point ray) (Column column f m) h t = t
certified-no_fault p (certificates.Unbounded den point ray) (FaceRight sum) h t = t
certified-no_fault p (certificates.Unbounded den point ray) (MainRight limit cost) h t = t

-- ---- values

pub if_other : (s : GeneralSetting) (m : Mechanism) (printed : Frac) (o : Option Frac) → MatchOption o (HasValue s m printed) (values.IsOtherValue s m printed)
    → MatchOption o (HasValue s m printed) (IsOtherValue (best_question s) m printed)
if_other s m printed None h = h
if_other s m printed (Some right) h = record { other = h.other; right = h.right }

module _ (q : Question) where
  -- ---- the program of a question is one

  pub judged-on_all : (p : Program) (c : Certificate) (v : Verdict) → IsProgramFor q p → Judges p c v → IsJudged q c v
  judged-on_all p c v here j = record { program = p; is_program = here; holds = λ r there. judges-to p r c v (same_program q r p there here) j }

  -- ---- conditions in their order

  never : (c : Certificate) (v : Verdict) → IsJudged q c v → ((p : Program) → Judges p c v → ⊥) → ⊥
  never c v j none = none j.program (j.holds j.program j.is_program)

  -- the verdict on a mechanism on which all conditions hold
  pub optimal-verdict : (value : Frac) (m : Mechanism) (bound : Bound) (v : Verdict) → IsRightly q m value → HasNarrowLevel q m → IsJudged q (optimal_certificate q m bound) v
      → IsOptimalVerdict q value m bound v
  optimal-verdict value m bound (Rejected (Audit broken)) r n j = absurd (never (optimal_certificate q m bound) (Rejected (Audit broken)) j (λ p h. h))
  optimal-verdict value m bound (Rejected (Value right)) r n j = absurd (never (optimal_certificate q m bound) (Rejected (Value right)) j (λ p h. h))
  optimal-verdict value m bound (Rejected (Level level)) r n j = absurd (never (optimal_certificate q m bound) (Rejected (Level level)) j (λ p h. h))
  optimal-verdict value m bound (Rejected (Unmet unmet)) r n j = absurd (never (optimal_certificate q m bound) (Rejected (Unmet unmet)) j (λ p h. h))
  optimal-verdict value m bound _ r n j = (r, n, j)

  pub unbounded-verdict : (m : Mechanism) (ray : List ℤ) (v : Verdict) → q.admits m → HasNarrowLevel q m → IsJudged q (unbounded_certificate q m ray) v → IsUnboundedVerdict q m ray v
  unbounded-verdict m ray (Rejected (Audit broken)) a n j = absurd (never (unbounded_certificate q m ray) (Rejected (Audit broken)) j (λ p h. h))
  unbounded-verdict m ray (Rejected (Level level)) a n j = absurd (never (unbounded_certificate q m ray) (Rejected (Level level)) j (λ p h. h))
  unbounded-verdict m ray (Rejected (Unmet unmet)) a n j = absurd (never (unbounded_certificate q m ray) (Rejected (Unmet unmet)) j (λ p h. h))
  unbounded-verdict m ray _ a n j = (a, n, j)

  -- the verdict on a mechanism that is not admitted
  pub not-admitted_optimal : (value : Frac) (m : Mechanism) (bound : Bound) (reject : Reject) → TellsNotAdmitted q m reject → IsOptimalVerdict q value m bound (Rejected reject)
  not-admitted_optimal value m bound (Audit broken) h = h
  not-admitted_optimal value m bound (Unmet unmet) h = h
  not-admitted_optimal value m bound _ h = absurd h

  pub not-admitted_unbounded : (m : Mechanism) (ray : List ℤ) (reject : Reject) → TellsNotAdmitted q m reject → IsUnboundedVerdict q m ray (Rejected reject)
  not-admitted_unbounded m ray (Audit broken) h = h
  not-admitted_unbounded m ray (Unmet unmet) h = h
  not-admitted_unbounded m ray _ h = absurd h

  -- ---- something is decided

  decided : (c : Certificate) (v : Verdict) → IsJudged q c v → v ≢ Undecided
  decided c Valid j = λ e. cc
  decided c Undecided j = absurd (never c Undecided j (λ p h. h))
  decided c (Rejected reject) j = λ e. cc

  optimal-decided : (value : Frac) (m : Mechanism) (bound : Bound) (v : Verdict) → IsOptimalVerdict q value m bound v → v ≢ Undecided
  optimal-decided value m bound Valid v = λ e. cc
  optimal-decided value m bound Undecided v = absurd (never (optimal_certificate q m bound) Undecided v.2 (λ p h. h))
  optimal-decided value m bound (Rejected reject) v = λ e. cc

  unbounded-decided : (m : Mechanism) (ray : List ℤ) (v : Verdict) → IsUnboundedVerdict q m ray v → v ≢ Undecided
  unbounded-decided m ray Valid v = λ e. cc
  unbounded-decided m ray Undecided v = absurd (never (unbounded_certificate q m ray) Undecided v.2 (λ p h. h))
  unbounded-decided m ray (Rejected reject) v = λ e. cc

  pub verdict-decided : (finding : Finding) (v : Verdict) → IsVerdictOn q finding v → v ≢ Undecided
  verdict-decided (Optimal value m bound) v h = optimal-decided value m bound v h
  verdict-decided (Infeasible face) v h = decided (certificates.Infeasible face) v h
  verdict-decided (Unbounded m ray) v h = unbounded-decided m ray v h

  module _ (laws : IsQuestion q) where
    -- ---- sizes

    fits-den : (m : Mechanism) → IsAccepted q.setting m → IsDenominator m.den
    fits-den m h = record { positive = (let one : pos 1 ≤ℤ m.den = h.mechanism.den in omega (arith, ints)); size = h.den_size }

    pub fits-optimal : (p : Program) (m : Mechanism) (bound : Bound) → IsProgramFor q p → IsAccepted q.setting m → HasNarrowLevel q m → IsBoundOver q.rows bound → Fits p (optimal_certificate q m bound)
    fits-optimal p m bound is h n b =
        let count = program-rows q laws p is in
        (fits-den m h, laws.fits_point p m is h n, record { den = b.den; main = fits-rows p q.rows bound.main count b.main; face = fits-rows p q.rows bound.face count b.face })

    pub fits-infeasible : (p : Program) (face : List ℤ) → IsProgramFor q p → AreMultipliers q.rows face → Fits p (certificates.Infeasible face)
    fits-infeasible p face is h = fits-rows p q.rows face (program-rows q laws p is) h

    pub fits-unbounded : (p : Program) (m : Mechanism) (ray : List ℤ) → IsProgramFor q p → IsAccepted q.setting m → HasNarrowLevel q m → IsRayFor q.setting ray → Fits p (unbounded_certificate q m ray)
    fits-unbounded p m ray is h n r = (fits-den m h, laws.fits_point p m is h n, laws.fits_ray p m ray is h r)

    -- ---- what is claimed

    pub optimal-claimed : (m : Mechanism) (bound : Bound) (v : Verdict) → IsMechanism q.setting m → IsJudged q (optimal_certificate q m bound) v → v ≡ Valid → q.is_optimal m
    optimal-claimed m bound v mechanism judged valid =
        let j = subst (IsJudged q (optimal_certificate q m bound)) valid judged in
        let p = j.program in
        subst q.is_optimal (laws.same_mechanism m mechanism)
        (laws.optimal p m.den (number_at (q.point m)) j.is_program (optimal-claim p m.den bound.den (number_at (q.point m)) (number_at bound.main) (number_at bound.face) (j.holds p j.is_program)))

    pub infeasible-claimed : (face : List ℤ) (v : Verdict) → IsJudged q (certificates.Infeasible face) v → v ≡ Valid → AdmitsNone q
    infeasible-claimed face v judged valid =
        let j = subst (IsJudged q (certificates.Infeasible face)) valid judged in
        laws.none j.program j.is_program (infeasible-claim j.program (number_at face) (j.holds j.program j.is_program))

    pub unbounded-claimed : (m : Mechanism) (ray : List ℤ) (v : Verdict) → IsMechanism q.setting m → IsRayFor q.setting ray → IsJudged q (unbounded_certificate q m ray) v → v ≡ Valid → q.grows m ray
    unbounded-claimed m ray v mechanism h judged valid =
        let j = subst (IsJudged q (unbounded_certificate q m ray)) valid judged in
        let p = j.program in
        subst (λ k. q.grows k ray) (laws.same_mechanism m mechanism)
        (subst (q.grows (mechanism_of q.setting m.den (number_at (q.point m)))) (laws.same_pays ray h) (laws.grown p m.den (number_at (q.point m)) (number_at (q.ray ray)) j.is_program (j.holds p j.is_program)))

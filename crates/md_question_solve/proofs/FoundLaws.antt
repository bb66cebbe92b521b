-- What is so of a question where a finding tells what is read off its program, and that a question and a width have one finding.
use Rattle.std.proofs.Common.{◌≡◌, ◌≤◌, ℕ, ℤ, List, Result, Ok, Err, IfOk, MatchResult, sym, ap, ◌∙◌, subst}
use Rattle.std.specs.Prelude.{IfErr}
use Rattle.md_math.specs.Lists.{number_at}
use Rattle.md_setting.specs.Setting.{GeneralSetting}
use Rattle.md_setting.specs.Rows.{column_count}
use Rattle.md_lp.specs.Program.{Program, row_count}
use Rattle.md_lp.specs.declared.pivot.Pivot.{Pivot}
use Rattle.md_lp.specs.declared.wide.Wide.{Wide}
use Rattle.md_lp.proofs.SamePrograms.{IsSameProgram}
use Rattle.md_mech.specs.Accepted.{IsAccepted}
use Rattle.md_mech.specs.declared.mechanism.Mechanism.{Mechanism}
use Rattle.md_cert.specs.Certified.{Certified}
use Rattle.md_cert.specs.Fitting.{Fits}
use Rattle.md_cert.specs.declared.certificate.Certificate.{Certificate}
use Rattle.md_cert.specs.declared.certificate.Certificate.TheVariants as certificates
use Rattle.md_cert.proofs.Duality.{optimal-claim, infeasible-claim}
use Rattle.md_rows.specs.Points.{mechanism_of}
use Rattle.md_simplex.specs.declared.end.End.{End}
use Rattle.md_simplex.specs.declared.order.Order.{Order}
use Rattle.md_simplex.specs.declared.order.Order.TheVariants.{Forward, Backward}
use Rattle.md_simplex.specs.declared.simplex_error.SimplexError.{SimplexError}
use Rattle.md_simplex.specs.declared.simplex_error.SimplexError.TheVariants.{TooWide, Memory}
use Rattle.md_simplex.specs.declared.step.Step.{Step}
use Rattle.md_simplex.specs.declared.step.Step.TheVariants as steps
use Rattle.md_simplex.specs.Reading.{IsReading}
use Rattle.md_simplex.specs.Runs.{IsFirstWideOf, IsLeft, IsTaken, MeetsWideBasis, TellsOf, basis_of}
use Rattle.md_simplex.proofs.OneRun.{one_run}
use Rattle.md_simplex.proofs.RunLaws.{decided_first_wide, decided_taken, decided_wide, first_meets, one_taken}
use Rattle.md_simplex.proofs.SamePaths.{first_wide-same, meets-same}
use Rattle.md_simplex.proofs.SameRuns.{run-same}
use Rattle.md_parts.specs.Fitting.{IsFraction}
use Rattle.md_question.specs.Certified.{IsCertifiedFinding}
use Rattle.md_question.specs.Findings.{WhereOptimal}
use Rattle.md_question.specs.Question.{IsProgramFor, IsQuestion, Question, optimal_certificate, unbounded_certificate}
use Rattle.md_question.specs.Shown.{IsFindingTo, IsShown, IsSo}
use Rattle.md_question.specs.declared.finding.Finding.{Finding}
use Rattle.md_question.specs.declared.finding.Finding.TheVariants.{Optimal, Infeasible, Unbounded}
use Rattle.md_question.proofs.FindingLaws.{exactly_infeasible, program-rows, same_program, shown-every, so-admitted}
use Rattle.md_question_solve.specs.Found.{ClaimsEnd, HasValueIn, HasWidePaths, IsFound, IsFoundBy, IsLeftFor, IsOfPoint, IsWideFor, reading_in}
use Rattle.md_question_solve.specs.Readings.{FitsReading, HasOwnPoints, IsOfBestPoint, TellsCertificate, WhereBest}
use Rattle.md_question_solve.specs.declared.reading.Reading.{Reading}
use Rattle.md_question_solve.specs.declared.reading.Reading.TheVariants as readings
use Rattle.md_question_solve.proofs.RunCertified.{run-certified}

-- ---- results

pub if_err : {T E : Type 0} → (r : Result T E) (P Q : E → Type 0) → ((e : E) → P e → Q e) → IfErr r P → IfErr r Q
if_err (Ok x) P Q f h = tt
if_err (Err e) P Q f h = f e h

-- what follows of both facts of an answer
pub if_both : {T E : Type 0} → (r : Result T E) (P Q R : T → Type 0) → ((x : T) → P x → Q x → R x) → IfOk r P → IfOk r Q → IfOk r R
if_both (Ok x) P Q R f h k = f x h k
if_both (Err e) P Q R f h k = tt

pub left-same : (p r : Program) (width : ℕ) (error : SimplexError) → IsSameProgram p r → IsLeft p width error → IsLeft r width error
left-same p r width (TooWide first second) h left = (first_wide-same p r h Forward width first.path first.entry left.0, first_wide-same p r h Backward width second.path second.entry left.1)
left-same p r width Memory h left = tt

-- the mechanism of a best point that was read is of the sizes of accepted ones
pub best-accepted : (s : GeneralSetting) (rows : ℕ) (reading : Reading) → FitsReading s rows reading → WhereBest (IsAccepted s) reading
best-accepted s rows (readings.Optimal m bound) h = h.0
best-accepted s rows (readings.Infeasible face) h = tt
best-accepted s rows (readings.Unbounded m ray) h = tt

-- ---- the mechanism of a best point

pub of-best_point : (s : GeneralSetting) (p : Program) (c : Certificate) (reading : Reading) → Certified p c → Fits p c → TellsCertificate s c reading → WhereBest (IsOfBestPoint s p) reading
of-best_point s p (certificates.Optimal den point bound) (readings.Optimal m told) c fits h = record {
  den = den;
  point = point;
  best = optimal-claim p den bound.den (number_at point) (number_at bound.main) (number_at bound.face) c;
  fits = fits.1;
  is = h.0;
}
of-best_point s p c (readings.Infeasible face) certified fits h = tt
of-best_point s p c (readings.Unbounded m ray) certified fits h = tt
of-best_point s p (certificates.Infeasible face) (readings.Optimal m told) c fits h = absurd h
of-best_point s p (certificates.Unbounded den point ray) (readings.Optimal m told) c fits h = absurd h

-- of a finding that tells the reading
pub where-best : (P : Mechanism → Type 0) (finding : Finding) → WhereBest P (reading_in finding) → WhereOptimal (λ value m bound. P m) finding
where-best P (Optimal value m bound) h = h
where-best P (Infeasible face) h = tt
where-best P (Unbounded m ray) h = tt

module _ (q : Question) where
  pub of-point : (p : Program) (finding : Finding) → IsProgramFor q p → WhereOptimal (λ value m bound. IsOfBestPoint q.setting p m) finding → WhereOptimal (λ value m bound. IsOfPoint q m) finding
  of-point p (Optimal value m bound) is h = record { program = p; is_program = is; of_best = h }
  of-point p (Infeasible face) is h = tt
  of-point p (Unbounded m ray) is h = tt

  pub found-same : (p r : Program) (width : ℕ) (finding : Finding) → IsProgramFor q p → IsProgramFor q r → IsFoundBy q p width finding → IsFoundBy q r width finding
  found-same p r width finding here there h = (record { end = h.0.end; run = run-same p r (same_program q p r here there) width h.0.end h.0.run; tells = h.0.tells }, h.1)

  pub left-for : (p : Program) (width : ℕ) (error : SimplexError) → IsProgramFor q p → IsLeft p width error → IsLeftFor q width error
  left-for p width (TooWide first second) is left = record { program = p; is_program = is; forward = left.0; backward = left.1 }
  left-for p width Memory is left = tt

  -- ---- the claim is that of the end of the path

  claims-end : (p : Program) (basis : ℕ → ℕ) (den : ℤ) (e : ℕ → ℕ → ℤ) (step : Step) (c : Certificate) (finding : Finding) → IsReading p basis den e step c → TellsCertificate q.setting c (reading_in finding)
      → ClaimsEnd step finding
  claims-end p basis den e steps.Optimal (certificates.Optimal over point bound) (Optimal value m told) h t = tt
  claims-end p basis den e steps.Infeasible (certificates.Infeasible face) (Infeasible told) h t = tt
  claims-end p basis den e (steps.Unbounded column) (certificates.Unbounded over point ray) (Unbounded m pays) h t = tt
  claims-end p basis den e steps.Optimal (certificates.Optimal over point bound) _ h t = absurd t
  claims-end p basis den e steps.Infeasible (certificates.Infeasible face) _ h t = absurd t
  claims-end p basis den e (steps.Unbounded column) (certificates.Unbounded over point ray) _ h t = absurd t
  claims-end p basis den e steps.Optimal _ finding h t = absurd h
  claims-end p basis den e steps.Infeasible _ finding h t = absurd h
  claims-end p basis den e (steps.Unbounded column) _ finding h t = absurd h
  claims-end p basis den e (steps.Pivot pivot) c finding h t = absurd h

  pub taken-of : (p : Program) (width : ℕ) (r : Result Finding SimplexError) → IfOk r (IsFoundBy q p width) → IfErr r (IsLeft p width)
      → (order : Order) (pivots : List Pivot) (step : Step) → IsTaken order p width pivots step → MatchResult r (ClaimsEnd step) (λ error. error ≡ Memory)
  taken-of p width (Ok finding) h left order pivots step taken =
      let end = h.0.end in
      let run = h.0.run in
      let same = one_taken p width run.order order end.path pivots run.run.step step run.tried taken.tried run.run.whole run.run.narrow taken.whole taken.narrow in
      subst (λ z. ClaimsEnd z finding) same.1 (claims-end p (basis_of p end.path) run.run.read.den run.run.read.table run.run.step end.certificate finding run.run.read.reading h.0.tells)
  taken-of p width (Err error) h left order pivots step taken = decided_taken p width (Err error) tt left order pivots step taken

  pub wide-of : (p : Program) (width : ℕ) (r : Result Finding SimplexError) → IfOk r (IsFoundBy q p width) → MeetsWideBasis Forward p width → MeetsWideBasis Backward p width → IfOk r (λ _. ⊥)
  wide-of p width (Ok finding) h forward backward = decided_wide p width (Ok h.0.end) h.0.run forward backward
  wide-of p width (Err error) h forward backward = tt

  pub first_wide-of : (p : Program) (width : ℕ) (r : Result Finding SimplexError) → IfErr r (IsLeft p width) → (first second : Wide)
      → IsFirstWideOf Forward p width first → IsFirstWideOf Backward p width second → IfErr r (TellsOf first second)
  first_wide-of p width (Ok finding) left first second h k = tt
  first_wide-of p width (Err error) left first second h k = decided_first_wide p width (Err error) left first second h k

  -- ---- both paths are wide

  pub wide-paths : (width : ℕ) (first second : Wide) → IsWideFor q width first second → HasWidePaths q width
  wide-paths width first second h =
      let meets : (p : Program) → IsProgramFor q p → MeetsWideBasis Forward p width × MeetsWideBasis Backward p width = λ p is.
      let same = same_program q h.program p h.is_program is in (
        meets-same h.program p same Forward width (first_meets h.program Forward width first h.forward),
        meets-same h.program p same Backward width (first_meets h.program Backward width second h.backward),
      ) in
      record { program = h.program; is_program = h.is_program; forward = λ p is. (meets p is).0; backward = λ p is. (meets p is).1 }

  -- so they give nothing
  pub not-found : (width : ℕ) (finding : Finding) → HasWidePaths q width → ¬ IsFound q width finding
  not-found width finding h found =
      wide-of found.program width (Ok finding) found.found (h.forward found.program found.is_program) (h.backward found.program found.is_program)

  module _ (laws : IsQuestion q) where
    pub own-points : (p : Program) → IsProgramFor q p → HasOwnPoints q.setting p
    own-points p is = record {
      columns = subst (λ n. column_count q.setting ≤ n) (sym is.columns) laws.own_columns;
      meets = λ den x meets. laws.own_point p den x is meets;
    }

    pub finding-fits : (p : Program) (finding : Finding) → IsProgramFor q p → FitsReading q.setting (row_count p) (reading_in finding) → WhereOptimal (λ value m bound. IsFraction value.num value.den) finding
        → IsFindingTo q finding
    finding-fits p (Optimal value m bound) is fits fraction = (
      fraction,
      fits.0,
      record {
        den = fits.1.den;
        main = record { one_each = fits.1.main.one_each ∙ program-rows q laws p is; sizes = fits.1.main.sizes };
        face = record { one_each = fits.1.face.one_each ∙ program-rows q laws p is; sizes = fits.1.face.sizes };
      },
    )
    finding-fits p (Infeasible face) is fits fraction = record { one_each = fits.one_each ∙ program-rows q laws p is; sizes = fits.sizes }
    finding-fits p (Unbounded m ray) is fits fraction = fits

    -- ---- it is so, and the numbers show it

    so-told : (p : Program) (c : Certificate) (finding : Finding) → IsProgramFor q p → Certified p c → TellsCertificate q.setting c (reading_in finding) → HasValueIn q finding → IsSo q finding
    so-told p (certificates.Optimal den point bound) (Optimal value m told) is c h v =
        (subst q.is_optimal (sym h.0) (laws.optimal p den (number_at point) is (optimal-claim p den bound.den (number_at point) (number_at bound.main) (number_at bound.face) c)), v)
    so-told p (certificates.Infeasible face) (Infeasible told) is c h v = laws.none p is (infeasible-claim p (number_at face) c)
    so-told p (certificates.Unbounded den point ray) (Unbounded m pays) is c h v =
        subst (λ k. q.grows k pays) (sym h.0) (subst (q.grows (mechanism_of q.setting den (number_at point))) (sym h.1) (laws.grown p den (number_at point) (number_at ray) is c))
    so-told p (certificates.Optimal den point bound) _ is c h v = absurd h
    so-told p (certificates.Infeasible face) _ is c h v = absurd h
    so-told p (certificates.Unbounded den point ray) _ is c h v = absurd h

    pub so : (p : Program) (width : ℕ) (finding : Finding) → IsProgramFor q p → IsFoundBy q p width finding → IsSo q finding
    so p width finding is h = so-told p h.0.end.certificate finding is (run-certified p width h.0.end h.0.run) h.0.tells h.1

    shown-told : (p : Program) (c : Certificate) (finding : Finding) → IsProgramFor q p → Certified p c → TellsCertificate q.setting c (reading_in finding) → IsShown q p finding
    shown-told p (certificates.Optimal den point bound) (Optimal value m told) is c h =
        subst (λ k. Certified p (optimal_certificate q k told)) (sym h.0) (subst (λ b. Certified p (optimal_certificate q (mechanism_of q.setting den (number_at point)) b)) (sym h.1) (laws.shown p den point bound is c))
    shown-told p (certificates.Infeasible face) (Infeasible told) is c h = subst (λ f. Certified p (certificates.Infeasible f)) (sym h) c
    shown-told p (certificates.Unbounded den point ray) (Unbounded m pays) is c h =
        subst (λ k. Certified p (unbounded_certificate q k pays)) (sym h.0)
        (subst (λ ps. Certified p (unbounded_certificate q (mechanism_of q.setting den (number_at point)) ps)) (sym h.1) (laws.shown_ray p den (number_at point) (number_at ray) is c))
    shown-told p (certificates.Optimal den point bound) _ is c h = absurd h
    shown-told p (certificates.Infeasible face) _ is c h = absurd h
    shown-told p (certificates.Unbounded den point ray) _ is c h = absurd h

    pub shown : (p : Program) (width : ℕ) (finding : Finding) → IsProgramFor q p → IsFoundBy q p width finding → IsShown q p finding
    shown p width finding is h = shown-told p h.0.end.certificate finding is (run-certified p width h.0.end h.0.run) h.0.tells

    -- what tells a certificate is a finding that its numbers show
    pub certified-told : (p : Program) (c : Certificate) (finding : Finding) → IsProgramFor q p → Certified p c → TellsCertificate q.setting c (reading_in finding) → HasValueIn q finding
        → IsFindingTo q finding → IsCertifiedFinding q finding
    certified-told p c finding is certified tells value fits =
        let claim = so-told p c finding is certified tells value in
        record {
          program = p;
          is_program = is;
          shown = λ r there. shown-every q p r finding is there (shown-told p c finding is certified tells);
          so = claim;
          admitted = so-admitted q laws finding claim;
          none = exactly_infeasible q laws finding claim;
          writable = fits;
        }

    -- what the paths give is one
    pub certified-found : (p : Program) (width : ℕ) (finding : Finding) → IsProgramFor q p → IsFoundBy q p width finding → IsFindingTo q finding → IsCertifiedFinding q finding
    certified-found p width finding is h fits = certified-told p h.0.end.certificate finding is (run-certified p width h.0.end h.0.run) h.0.tells h.1 fits

    -- ---- one finding

    tells-one : (c : Certificate) (a b : Finding) → IsSo q a → TellsCertificate q.setting c (reading_in a) → TellsCertificate q.setting c (reading_in b) → HasValueIn q b → a ≡ b
    tells-one (certificates.Optimal den point bound) (Optimal v m t) (Optimal w n u) so h k value =
        let same : m ≡ n = h.0 ∙ sym k.0 in
        let one : v ≡ w = laws.one_value m v w (laws.admitted m so.0) so.1 (subst (λ x. q.is_value x w) (sym same) value) in
        ap (λ x. Optimal x m t) one ∙ ap (λ x. Optimal w x t) same ∙ ap (λ x. Optimal w n x) (h.1 ∙ sym k.1)
    tells-one (certificates.Infeasible face) (Infeasible t) (Infeasible u) so h k value = ap Infeasible (h ∙ sym k)
    tells-one (certificates.Unbounded den point ray) (Unbounded m t) (Unbounded n u) so h k value = ap (λ x. Unbounded x t) (h.0 ∙ sym k.0) ∙ ap (λ x. Unbounded n x) (h.1 ∙ sym k.1)
    tells-one (certificates.Optimal den point bound) (Optimal v m t) _ so h k value = absurd k
    tells-one (certificates.Infeasible face) (Infeasible t) _ so h k value = absurd k
    tells-one (certificates.Unbounded den point ray) (Unbounded m t) _ so h k value = absurd k
    tells-one (certificates.Optimal den point bound) _ b so h k value = absurd h
    tells-one (certificates.Infeasible face) _ b so h k value = absurd h
    tells-one (certificates.Unbounded den point ray) _ b so h k value = absurd h

    pub one-finding : (p : Program) (width : ℕ) (a b : Finding) → IsProgramFor q p → IsFoundBy q p width a → IsFoundBy q p width b → a ≡ b
    one-finding p width a b is h k =
        let same : h.0.end ≡ k.0.end = one_run p width h.0.end k.0.end h.0.run k.0.run in
        tells-one k.0.end.certificate a b (so p width a is h) (subst (λ (e : End). TellsCertificate q.setting e.certificate (reading_in a)) same h.0.tells) k.0.tells k.1

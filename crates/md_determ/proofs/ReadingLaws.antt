-- What is read at a node is certified for the node's program, and it is one thing.
use Rattle.std.proofs.Common.{◌≡◌, ℕ, ℤ, pos, ◌*ℤ◌, ◌<ℤ◌, List, Option, sym, ap, ap₂, ◌∙◌, subst}
use Rattle.md_math.specs.Lists.{number_at}
use Rattle.md_math.proofs.Order.{*ℤ_cancel}
use Rattle.md_setting.specs.Setting.{GeneralSetting}
use Rattle.md_setting.specs.Rows.{column_count}
use Rattle.md_mech.specs.declared.mechanism.Mechanism.{Mechanism}
use Rattle.md_mech.specs.Admissible.{IsAdmissible}
use Rattle.md_lp.specs.Program.{Program}
use Rattle.md_lp.specs.Point.{Meets, cost_sum}
use Rattle.md_lp.specs.declared.wide.Wide.{Wide}
use Rattle.md_lp.proofs.Dividing.{IsDivisorFor-positive}
use Rattle.md_lp.proofs.SamePrograms.{IsSameProgram}
use Rattle.md_cert.specs.declared.bound.Bound.{Bound}
use Rattle.md_cert.specs.declared.certificate.Certificate.{Certificate}
use Rattle.md_cert.specs.declared.certificate.Certificate.TheVariants as certificates
use Rattle.md_cert.specs.Certified.{Certified}
use Rattle.md_rows.specs.Points.{mechanism_of, point_of}
use Rattle.md_rows.specs.ProgramOf.{cost_of}
use Rattle.md_claims.specs.Certificates.{optimal_certificate}
use Rattle.md_claims.specs.Rays.{pays_along}
use Rattle.md_simplex.specs.declared.end.End.{End}
use Rattle.md_simplex.specs.declared.order.Order.TheVariants.{Forward, Backward}
use Rattle.md_simplex.specs.Runs.{IsRun}
use Rattle.md_simplex.proofs.OneRun.{one_run}
use Rattle.md_simplex.proofs.RunLaws.{one_first_wide, taken_not_left}
use Rattle.md_simplex.proofs.SamePaths.{first_wide-same}
use Rattle.md_simplex.proofs.SameRuns.{run-same}
use Rattle.md_question.proofs.PointCertificates.{unbounded-there}
use Rattle.md_determ_node.specs.Law.{IsNodeProgramWithLaws}
use Rattle.md_determ_node.specs.NodeProgram.{HasFixed, IsNode, IsNodeProgram}
use Rattle.md_determ_node.proofs.Laws.{root-certified, same_program}
use Rattle.md_determ_node.proofs.OwnProgram.{own}
use Rattle.md_determ_node.proofs.PointLaws.{with_laws}
use Rattle.md_tree.specs.Leaves.{IsCertified}
use Rattle.md_tree.specs.Verdicts.{HasGrowth}
use Rattle.md_question_solve.specs.Readings.{TellsCertificate}
use Rattle.md_determ.specs.Readings.{IsReadAt, IsWideAt}
use Rattle.md_question_solve.specs.declared.reading.Reading.{Reading}
use Rattle.md_question_solve.specs.declared.reading.Reading.TheVariants.{Optimal, Infeasible, Unbounded}
use Rattle.md_question_solve.proofs.RunCertified.{run-certified}

-- ---- what tells a certificate

abbrev pub reading_of : GeneralSetting → Certificate → Reading
reading_of s (certificates.Optimal den point bound) = Optimal (mechanism_of s den (number_at point)) bound
reading_of s (certificates.Infeasible face) = Infeasible face
reading_of s (certificates.Unbounded den point ray) = Unbounded (mechanism_of s den (number_at point)) (pays_along s (number_at ray))

told : (s : GeneralSetting) (c : Certificate) (reading : Reading) → TellsCertificate s c reading → reading ≡ reading_of s c
told s (certificates.Optimal den point bound) (Optimal m b) h = ap₂ Optimal h.0 h.1
told s (certificates.Infeasible face) (Infeasible f) h = ap Infeasible h
told s (certificates.Unbounded den point ray) (Unbounded m pays) h = ap₂ Unbounded h.0 h.1
told s (certificates.Optimal den point bound) (Infeasible f) h = absurd h
told s (certificates.Optimal den point bound) (Unbounded m pays) h = absurd h
told s (certificates.Infeasible face) (Optimal m b) h = absurd h
told s (certificates.Infeasible face) (Unbounded m pays) h = absurd h
told s (certificates.Unbounded den point ray) (Optimal m b) h = absurd h
told s (certificates.Unbounded den point ray) (Infeasible f) h = absurd h

-- ---- it is certified

-- What the program of a node shows of the setting: a leaf is certified there, and a ray is certified for the setting's own program.
abbrev pub IsShownAt : GeneralSetting → List (Option ℕ) → Reading → Type 0
IsShownAt s fixed (Optimal m bound) = IsAdmissible s m × HasFixed s fixed m × IsCertified s fixed (optimal_certificate s m bound)
IsShownAt s fixed (Infeasible face) = IsCertified s fixed (certificates.Infeasible face)
IsShownAt s fixed (Unbounded m pays) = IsAdmissible s m × HasFixed s fixed m × HasGrowth s m pays

module _ (s : GeneralSetting) (fixed : List (Option ℕ)) (node : IsNode s fixed) (p : Program) (is : IsNodeProgram s fixed p) where
  laws : IsNodeProgramWithLaws s fixed p
  laws = with_laws s fixed p node is

  optimal-shown : (den : ℤ) (point : List ℤ) (bound : Bound) → Certified p (certificates.Optimal den point bound) → IsShownAt s fixed (Optimal (mechanism_of s den (number_at point)) bound)
  optimal-shown den point bound c = (admitted.0, admitted.1, record { program = p; is_program = is; certified = there })
    where
      m : Mechanism
      m = mechanism_of s den (number_at point)

      admitted : IsAdmissible s m × HasFixed s fixed m
      admitted = laws.admits_mechanisms den (number_at point) c.meets

      meets : Meets p den (number_at (point_of s m))
      meets = (laws.admits_points m admitted.0.mechanism).1 admitted

      same : cost_sum p (number_at (point_of s m)) ≡ cost_sum p (number_at point)
      same =
          *ℤ_cancel p.factor (cost_sum p (number_at (point_of s m))) (cost_sum p (number_at point)) (IsDivisorFor-positive (column_count s) (cost_of s) p.factor is.has_cost.factor)
          (laws.costs_points m admitted.0.mechanism ∙ sym (laws.costs_mechanisms den (number_at point)))

      there : Certified p (optimal_certificate s m bound)
      there = record {
        meets = meets;
        positive = c.positive;
        pairs = c.pairs;
        columns = c.columns;
        face_right = c.face_right;
        main_right = c.main_right ∙ ap (λ z. bound.den *ℤ z) (sym same);
      }

  unbounded-shown : (den : ℤ) (point ray : List ℤ) → Certified p (certificates.Unbounded den point ray) → IsShownAt s fixed (Unbounded (mechanism_of s den (number_at point)) (pays_along s (number_at ray)))
  unbounded-shown den point ray c =
      let admitted = laws.admits_mechanisms den (number_at point) c.meets in
      let root = own s fixed p is in
      let q : Program = record p { rows = root.first } in (
        admitted.0,
        admitted.1,
        record {
          program = q;
          is_program = root.is;
          certified = unbounded-there s q root.is den (number_at point) (number_at ray) (root-certified s fixed p q den point ray is root.is c);
        },
      )

  certificate-shown : (c : Certificate) → Certified p c → IsShownAt s fixed (reading_of s c)
  certificate-shown (certificates.Optimal den point bound) c = optimal-shown den point bound c
  certificate-shown (certificates.Infeasible face) c = record { program = p; is_program = is; certified = c }
  certificate-shown (certificates.Unbounded den point ray) c = unbounded-shown den point ray c

pub read-shown : (s : GeneralSetting) (width : ℕ) (fixed : List (Option ℕ)) (reading : Reading) → IsNode s fixed → IsReadAt s width fixed reading → IsShownAt s fixed reading
read-shown s width fixed reading node read =
    subst (IsShownAt s fixed) (sym (told s read.end.certificate reading read.tells))
    (certificate-shown s fixed node read.program read.is_program read.end.certificate (run-certified read.program width read.end read.run))

-- the mechanism of a best point has a positive denominator
pub read-positive : (s : GeneralSetting) (width : ℕ) (fixed : List (Option ℕ)) (m : Mechanism) (bound : Bound) → IsReadAt s width fixed (Optimal m bound) → pos 0 <ℤ m.den
read-positive s width fixed m bound read = at read.end.certificate (run-certified read.program width read.end read.run) read.tells
  where
    at : (c : Certificate) → Certified read.program c → TellsCertificate s c (Optimal m bound) → pos 0 <ℤ m.den
    at (certificates.Optimal den point b) c h = subst (λ k. pos 0 <ℤ k.den) (sym h.0) c.meets.point.positive
    at (certificates.Infeasible face) c h = absurd h
    at (certificates.Unbounded den point ray) c h = absurd h

-- ---- one reading

module _ (s : GeneralSetting) (width : ℕ) (fixed : List (Option ℕ)) where
  one-program : (p q : Program) → IsNodeProgram s fixed p → IsNodeProgram s fixed q → IsSameProgram p q
  one-program p q a b = same_program s fixed p q a b

  pub one-reading : (a b : Reading) → IsReadAt s width fixed a → IsReadAt s width fixed b → a ≡ b
  one-reading a b h k =
      let run : IsRun k.program width h.end = run-same h.program k.program (one-program h.program k.program h.is_program k.is_program) width h.end h.run in
      let ends : h.end ≡ k.end = one_run k.program width h.end k.end run k.run in
      told s h.end.certificate a h.tells ∙ ap (λ (e : End). reading_of s e.certificate) ends ∙ sym (told s k.end.certificate b k.tells)

  -- a path is not taken where both have a wide basis
  pub read-not_wide : (reading : Reading) (first second : Wide) → IsReadAt s width fixed reading → IsWideAt s width fixed first second → ⊥
  read-not_wide reading first second h k =
      let run : IsRun k.program width h.end = run-same h.program k.program (one-program h.program k.program h.is_program k.is_program) width h.end h.run in
      taken_not_left k.program width run.order first second h.end.path run.run.step (k.forward, k.backward) run.run.whole run.run.narrow

  pub one-wide : (first second other last : Wide) → IsWideAt s width fixed first second → IsWideAt s width fixed other last → (first ≡ other) × (second ≡ last)
  one-wide first second other last h k =
      let same = one-program h.program k.program h.is_program k.is_program in (
        one_first_wide k.program Forward width first other (first_wide-same h.program k.program same Forward width first.path first.entry h.forward) k.forward,
        one_first_wide k.program Backward width second last (first_wide-same h.program k.program same Backward width second.path second.entry h.backward) k.backward,
      )

-- Programs that say the same are judged alike.
use Rattle.std.proofs.Common.{◌≡◌, ℕ, ◌<◌, ℤ, ◌*ℤ◌, sym, ap, ◌∙◌, subst, arith}
use Rattle.md_math.specs.FirstFailure.{HoldsBelow, IsFirstFailure}
use Rattle.md_math.specs.Lists.{number_at}
use Rattle.md_lp.specs.Program.{Program, row_count}
use Rattle.md_lp.specs.Point.{Meets, MeetsRow}
use Rattle.md_lp.proofs.SamePrograms.{IsSameProgram, IsSameProgram-sym, row_sum-same, right_sum-same, cost_sum-same, column_sum-same}
use Rattle.md_cert.specs.declared.certificate.Certificate.{Certificate}
use Rattle.md_cert.specs.declared.certificate.Certificate.TheVariants.{Optimal, Infeasible, Unbounded}
use Rattle.md_cert.specs.Certified.{PairHolds, ColumnHolds, FaceHolds, FaceSumHolds, RayHolds}
use Rattle.md_cert.specs.Fault.{BreaksRow, BreaksPair, BreaksFace, BreaksColumn, BreaksFaceSum, BreaksRay, MeetsRows, HasPairs, HasColumns, HasFaces, HasFaceSums, HasRays}
use Rattle.md_cert.proofs.SameCertificates.{certified-same}
use Rattle.md_question_check.specs.declared.verdict.Reject.{Reject}
use Rattle.md_question_check.specs.declared.verdict.Reject.TheVariants.{Audit, Value, Pair, Column, FaceRight, MainRight, RayRow, RayGain, Masses, Reduced, Level, Unmet}
use Rattle.md_question_check.specs.declared.verdict.Verdict.{Verdict}
use Rattle.md_question_check.specs.declared.verdict.Verdict.TheVariants.{Valid, Undecided, Rejected}
use Rattle.md_question_check.specs.Certificates.{TellsFault, Judges}

-- ---- places

each : (m n : ℕ) (C D : ℕ → Type 0) → m ≡ n → ((k : ℕ) → k < n → C k → D k) → HoldsBelow m C → HoldsBelow n D
each m n C D same to h = record { holds = λ k b. to k b (h.holds k (omega (arith, same, b))) }

first : (m n : ℕ) (C D : ℕ → Type 0) (k : ℕ) → m ≡ n → ((j : ℕ) → j < n → C j → D j) → ((j : ℕ) → j < n → D j → C j) → IsFirstFailure m C k → IsFirstFailure n D k
first m n C D k same to back h =
    let below : k < n = omega (arith, same, h.below) in
    record {
      below = below;
      fails = λ d. h.fails (back k below d);
      before = record { holds = λ j b. to j (omega (arith, b, below)) (h.before.holds j b) };
    }

-- ---- conditions

row-to : (p q : Program) (den : ℤ) (x : ℕ → ℤ) (r : ℕ) → IsSameProgram q p → MeetsRow p den x r → MeetsRow q den x r
row-to p q den x r h m = rw (h.kinds r, row_sum-same q p h x r, h.rights r) m

row-back : (p q : Program) (den : ℤ) (x : ℕ → ℤ) (r : ℕ) → IsSameProgram q p → MeetsRow q den x r → MeetsRow p den x r
row-back p q den x r h m = rw (h.kinds r, row_sum-same q p h x r, h.rights r) at m

pair-to : (p q : Program) (face main : ℕ → ℤ) (r : ℕ) → IsSameProgram q p → PairHolds p face main r → PairHolds q face main r
pair-to p q face main r h m = rw (h.kinds r) m

pair-back : (p q : Program) (face main : ℕ → ℤ) (r : ℕ) → IsSameProgram q p → PairHolds q face main r → PairHolds p face main r
pair-back p q face main r h m = rw (h.kinds r) at m

face-to : (p q : Program) (face : ℕ → ℤ) (r : ℕ) → IsSameProgram q p → FaceHolds p face r → FaceHolds q face r
face-to p q face r h m = rw (h.kinds r) m

face-back : (p q : Program) (face : ℕ → ℤ) (r : ℕ) → IsSameProgram q p → FaceHolds q face r → FaceHolds p face r
face-back p q face r h m = rw (h.kinds r) at m

column-to : (p q : Program) (over : ℤ) (face main : ℕ → ℤ) (j : ℕ) → IsSameProgram q p → j < q.columns → ColumnHolds p over face main j → ColumnHolds q over face main j
column-to p q over face main j h b m = rw (column_sum-same q p h face j b, column_sum-same q p h main j b, h.costs j b) m

column-back : (p q : Program) (over : ℤ) (face main : ℕ → ℤ) (j : ℕ) → IsSameProgram q p → j < q.columns → ColumnHolds q over face main j → ColumnHolds p over face main j
column-back p q over face main j h b m = rw (column_sum-same q p h face j b, column_sum-same q p h main j b, h.costs j b) at m

face_sum-to : (p q : Program) (face : ℕ → ℤ) (j : ℕ) → IsSameProgram q p → j < q.columns → FaceSumHolds p face j → FaceSumHolds q face j
face_sum-to p q face j h b m = rw (column_sum-same q p h face j b) m

face_sum-back : (p q : Program) (face : ℕ → ℤ) (j : ℕ) → IsSameProgram q p → j < q.columns → FaceSumHolds q face j → FaceSumHolds p face j
face_sum-back p q face j h b m = rw (column_sum-same q p h face j b) at m

ray-to : (p q : Program) (ray : ℕ → ℤ) (r : ℕ) → IsSameProgram q p → RayHolds p ray r → RayHolds q ray r
ray-to p q ray r h m = rw (h.kinds r, row_sum-same q p h ray r) m

ray-back : (p q : Program) (ray : ℕ → ℤ) (r : ℕ) → IsSameProgram q p → RayHolds q ray r → RayHolds p ray r
ray-back p q ray r h m = rw (h.kinds r, row_sum-same q p h ray r) at m

-- ---- all of them

meets_rows-to : (p q : Program) (den : ℤ) (x : ℕ → ℤ) → IsSameProgram q p → MeetsRows p den x → MeetsRows q den x
meets_rows-to p q den x h = each (row_count p) (row_count q) (MeetsRow p den x) (MeetsRow q den x) (sym h.rows) (λ r b. row-to p q den x r h)

pairs-to : (p q : Program) (face main : ℕ → ℤ) → IsSameProgram q p → HasPairs p face main → HasPairs q face main
pairs-to p q face main h = each (row_count p) (row_count q) (PairHolds p face main) (PairHolds q face main) (sym h.rows) (λ r b. pair-to p q face main r h)

columns-to : (p q : Program) (over : ℤ) (face main : ℕ → ℤ) → IsSameProgram q p → HasColumns p over face main → HasColumns q over face main
columns-to p q over face main h =
    each p.columns q.columns (ColumnHolds p over face main) (ColumnHolds q over face main) (sym h.columns) (λ j b. column-to p q over face main j h b)

faces-to : (p q : Program) (face : ℕ → ℤ) → IsSameProgram q p → HasFaces p face → HasFaces q face
faces-to p q face h = each (row_count p) (row_count q) (FaceHolds p face) (FaceHolds q face) (sym h.rows) (λ r b. face-to p q face r h)

face_sums-to : (p q : Program) (face : ℕ → ℤ) → IsSameProgram q p → HasFaceSums p face → HasFaceSums q face
face_sums-to p q face h = each p.columns q.columns (FaceSumHolds p face) (FaceSumHolds q face) (sym h.columns) (λ j b. face_sum-to p q face j h b)

rays-to : (p q : Program) (ray : ℕ → ℤ) → IsSameProgram q p → HasRays p ray → HasRays q ray
rays-to p q ray h = each (row_count p) (row_count q) (RayHolds p ray) (RayHolds q ray) (sym h.rows) (λ r b. ray-to p q ray r h)

pub meets-to : (p q : Program) (den : ℤ) (x : ℕ → ℤ) → IsSameProgram q p → Meets p den x → Meets q den x
meets-to p q den x h m = record {
  point = record { positive = m.point.positive; nonneg = λ j l. m.point.nonneg j (subst (λ n. j < n) h.columns l) };
  rows = meets_rows-to p q den x h m.rows;
}

-- ---- the first that fails

pub row-first : (p q : Program) (den : ℤ) (x : ℕ → ℤ) (row : ℕ) (left right : ℤ) → IsSameProgram q p → BreaksRow p den x row left right → BreaksRow q den x row left right
row-first p q den x row left right h b = record {
  first = first (row_count p) (row_count q) (MeetsRow p den x) (MeetsRow q den x) row (sym h.rows) (λ r l. row-to p q den x r h) (λ r l. row-back p q den x r h) b.first;
  left_is = b.left_is ∙ sym (row_sum-same q p h x row);
  right_is = b.right_is ∙ ap (λ z. den *ℤ z) (sym (h.rights row));
}

pair-first : (p q : Program) (face main : ℕ → ℤ) (row : ℕ) (f m : ℤ) → IsSameProgram q p → BreaksPair p face main row f m → BreaksPair q face main row f m
pair-first p q face main row f m h b = record {
  first = first (row_count p) (row_count q) (PairHolds p face main) (PairHolds q face main) row (sym h.rows) (λ r l. pair-to p q face main r h) (λ r l. pair-back p q face main r h) b.first;
  face_is = b.face_is;
  main_is = b.main_is;
}

face-first : (p q : Program) (face : ℕ → ℤ) (row : ℕ) (f m : ℤ) → IsSameProgram q p → BreaksFace p face row f m → BreaksFace q face row f m
face-first p q face row f m h b = record {
  first = first (row_count p) (row_count q) (FaceHolds p face) (FaceHolds q face) row (sym h.rows) (λ r l. face-to p q face r h) (λ r l. face-back p q face r h) b.first;
  face_is = b.face_is;
  main_is = b.main_is;
}

column-first : (p q : Program) (over : ℤ) (face main : ℕ → ℤ) (column : ℕ) (f m : ℤ) → IsSameProgram q p → BreaksColumn p over face main column f m → BreaksColumn q over face main column f m
column-first p q over face main column f m h b =
    let failure : IsFirstFailure q.columns (ColumnHolds q over face main) column =
    first p.columns q.columns (ColumnHolds p over face main) (ColumnHolds q over face main) column (sym h.columns)
    (λ j l. column-to p q over face main j h l) (λ j l. column-back p q over face main j h l) b.first in
    record {
      first = failure;
      face_is = b.face_is ∙ sym (column_sum-same q p h face column failure.below);
      main_is = rw (column_sum-same q p h main column failure.below, h.costs column failure.below) b.main_is;
    }

face_sum-first : (p q : Program) (face : ℕ → ℤ) (column : ℕ) (f m : ℤ) → IsSameProgram q p → BreaksFaceSum p face column f m → BreaksFaceSum q face column f m
face_sum-first p q face column f m h b =
    let failure : IsFirstFailure q.columns (FaceSumHolds q face) column =
    first p.columns q.columns (FaceSumHolds p face) (FaceSumHolds q face) column (sym h.columns) (λ j l. face_sum-to p q face j h l) (λ j l. face_sum-back p q face j h l) b.first in
    record {
      first = failure;
      face_is = b.face_is ∙ sym (column_sum-same q p h face column failure.below);
      main_is = b.main_is;
    }

ray-first : (p q : Program) (ray : ℕ → ℤ) (row : ℕ) (sum : ℤ) → IsSameProgram q p → BreaksRay p ray row sum → BreaksRay q ray row sum
ray-first p q ray row sum h b = record {
  first = first (row_count p) (row_count q) (RayHolds p ray) (RayHolds q ray) row (sym h.rows) (λ r l. ray-to p q ray r h) (λ r l. ray-back p q ray r h) b.first;
  sum_is = b.sum_is ∙ sym (row_sum-same q p h ray row);
}

told-to : (p q : Program) (c : Certificate) (reject : Reject) → IsSameProgram q p → TellsFault p c reject → TellsFault q c reject
told-to p q (Optimal den point bound) (Pair row f m) h t =
    (meets_rows-to p q den (number_at point) h t.0, pair-first p q (number_at bound.face) (number_at bound.main) row f m h t.1)
told-to p q (Optimal den point bound) (Column column f m) h t = (
  meets_rows-to p q den (number_at point) h t.0,
  pairs-to p q (number_at bound.face) (number_at bound.main) h t.1,
  column-first p q bound.den (number_at bound.face) (number_at bound.main) column f m h t.2,
)
told-to p q (Optimal den point bound) (FaceRight sum) h t = (
  meets_rows-to p q den (number_at point) h t.0,
  pairs-to p q (number_at bound.face) (number_at bound.main) h t.1,
  columns-to p q bound.den (number_at bound.face) (number_at bound.main) h t.2,
  (t.3.0 ∙ sym (right_sum-same q p h (number_at bound.face)), t.3.1),
)
told-to p q (Optimal den point bound) (MainRight limit cost) h t = (
  meets_rows-to p q den (number_at point) h t.0,
  pairs-to p q (number_at bound.face) (number_at bound.main) h t.1,
  columns-to p q bound.den (number_at bound.face) (number_at bound.main) h t.2,
  (
    right_sum-same q p h (number_at bound.face) ∙ t.3.0,
    rw (right_sum-same q p h (number_at bound.main), cost_sum-same q p h (number_at point)) t.3.1,
    rw (right_sum-same q p h (number_at bound.main)) t.3.2,
    rw (cost_sum-same q p h (number_at point)) t.3.3,
  ),
)
told-to p q (Optimal den point bound) (RayRow row sum) h t = absurd t.3
told-to p q (Optimal den point bound) (RayGain sum) h t = absurd t.3
told-to p q (Infeasible face) (Pair row f m) h t = face-first p q (number_at face) row f m h t
told-to p q (Infeasible face) (Column column f m) h t = (faces-to p q (number_at face) h t.0, face_sum-first p q (number_at face) column f m h t.1)
told-to p q (Infeasible face) (FaceRight sum) h t =
    (faces-to p q (number_at face) h t.0, face_sums-to p q (number_at face) h t.1, t.2 ∙ sym (right_sum-same q p h (number_at face)), t.3)
told-to p q (Infeasible face) (MainRight limit cost) h t = absurd t
told-to p q (Infeasible face) (RayRow row sum) h t = absurd t
told-to p q (Infeasible face) (RayGain sum) h t = absurd t
told-to p q (Unbounded den point ray) (RayRow row sum) h t = (meets_rows-to p q den (number_at point) h t.0, ray-first p q (number_at ray) row sum h t.1)
told-to p q (Unbounded den point ray) (RayGain sum) h t =
    (meets_rows-to p q den (number_at point) h t.0, rays-to p q (number_at ray) h t.1, t.2 ∙ sym (cost_sum-same q p h (number_at ray)), t.3)
told-to p q (Unbounded den point ray) (Pair row f m) h t = absurd t
told-to p q (Unbounded den point ray) (Column column f m) h t = absurd t
told-to p q (Unbounded den point ray) (FaceRight sum) h t = absurd t
told-to p q (Unbounded den point ray) (MainRight limit cost) h t = absurd t
told-to p q c (Audit broken) h t = absurd t
told-to p q c (Value right) h t = absurd t
told-to p q c (Masses kind sum demand) h t = absurd t
told-to p q c (Reduced row left right) h t = absurd t
told-to p q c (Level level) h t = absurd t
told-to p q c (Unmet unmet) h t = absurd t

pub judges-to : (p q : Program) (c : Certificate) (v : Verdict) → IsSameProgram q p → Judges p c v → Judges q c v
judges-to p q c Valid h j = certified-same p q (IsSameProgram-sym q p h) c j
judges-to p q c Undecided h j = absurd j
judges-to p q c (Rejected reject) h j = told-to p q c reject h j

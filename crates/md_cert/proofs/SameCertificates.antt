-- A certificate of a program is one of each program with the same numbers at the same places.
use Rattle.std.proofs.Common.{◌≡◌, ℕ, ◌<◌, ℤ, pos, ◌*ℤ◌, ◌≤ℤ◌, ◌<ℤ◌, refl, sym, ap, ◌∙◌, subst}
use Rattle.md_math.specs.FirstFailure.{HoldsBelow}
use Rattle.md_math.specs.Lists.{number_at}
use Rattle.md_math.specs.LexOrder.{IsPairNonNegative}
use Rattle.md_lp.specs.declared.row_kind.RowKind.{RowKind}
use Rattle.md_lp.specs.Program.{Program, row_count, kind_at, right_at, Keeps}
use Rattle.md_lp.specs.Point.{Meets, MeetsRow, row_sum, column_sum}
use Rattle.md_lp.proofs.SamePrograms.{IsSameProgram, row_sum-same, cost_sum-same, column_sum-same, right_sum-same}
use Rattle.md_cert.specs.Certified.{Certified, IsOptimalCertified, IsInfeasibleCertified, IsUnboundedCertified, PairHolds, ColumnHolds, FaceHolds, FaceSumHolds, RayHolds, reduced_cost}
use Rattle.md_cert.specs.Pairs.{IsPairFor, IsFaceFor, RayKeeps}
use Rattle.md_cert.specs.declared.certificate.Certificate.{Certificate}
use Rattle.md_cert.specs.declared.certificate.Certificate.TheVariants.{Optimal, Infeasible, Unbounded}

keeps-same : (k l : RowKind) (a b c d : ℤ) → k ≡ l → a ≡ b → c ≡ d → Keeps k a c → Keeps l b d
keeps-same k l a b c d e f g h = subst (λ x. Keeps x b d) e (subst (λ x. Keeps k x d) f (subst (λ x. Keeps k a x) g h))

below-same : (m n : ℕ) (C D : ℕ → Type 0) → m ≡ n → ((r : ℕ) → r < m → C r → D r) → HoldsBelow m C → HoldsBelow n D
below-same m n C D e f h = record { holds = λ r b. let inside : r < m = subst (λ k. r < k) (sym e) b in f r inside (h.holds r inside) }

module _ (p q : Program) (h : IsSameProgram p q) where
  meets-same : (den : ℤ) (x : ℕ → ℤ) → Meets p den x → Meets q den x
  meets-same den x m = record {
    point = record { positive = m.point.positive; nonneg = λ j l. m.point.nonneg j (subst (λ k. j < k) (sym h.columns) l) };
    rows = below-same (row_count p) (row_count q) (MeetsRow p den x) (MeetsRow q den x) h.rows
        (λ r b k. keeps-same (kind_at p r) (kind_at q r) (row_sum p x r) (row_sum q x r) (den *ℤ right_at p r) (den *ℤ right_at q r) (h.kinds r) (row_sum-same p q h x r) (ap (λ z. den *ℤ z) (h.rights r)) k)
        m.rows;
  }

  optimal-same : (den : ℤ) (x : ℕ → ℤ) (over : ℤ) (main face : ℕ → ℤ) → IsOptimalCertified p den x over main face → IsOptimalCertified q den x over main face
  optimal-same den x over main face c = record {
    meets = meets-same den x c.meets;
    positive = c.positive;
    pairs = below-same (row_count p) (row_count q) (PairHolds p face main) (PairHolds q face main) h.rows (λ r b k. subst (λ kind. IsPairFor kind (face r) (main r)) (h.kinds r) k) c.pairs;
    columns = below-same p.columns q.columns (ColumnHolds p over face main) (ColumnHolds q over face main) h.columns
        (λ j l k. subst (λ z. IsPairNonNegative z (reduced_cost q over main j)) (column_sum-same p q h face j l)
        (subst (IsPairNonNegative (column_sum p face j)) (reduced-same over main j l) k))
        c.columns;
    face_right = sym (right_sum-same p q h face) ∙ c.face_right;
    main_right = ap (λ z. den *ℤ z) (sym (right_sum-same p q h main)) ∙ c.main_right ∙ ap (λ z. over *ℤ z) (cost_sum-same p q h x);
  }
    where
      reduced-same : (over : ℤ) (main : ℕ → ℤ) (j : ℕ) → j < p.columns → reduced_cost p over main j ≡ reduced_cost q over main j
      reduced-same over main j l = rw (column_sum-same p q h main j l, h.costs j l) refl

  infeasible-same : (face : ℕ → ℤ) → IsInfeasibleCertified p face → IsInfeasibleCertified q face
  infeasible-same face c = record {
    pairs = below-same (row_count p) (row_count q) (FaceHolds p face) (FaceHolds q face) h.rows (λ r b k. subst (λ kind. IsFaceFor kind (face r)) (h.kinds r) k) c.pairs;
    columns = below-same p.columns q.columns (FaceSumHolds p face) (FaceSumHolds q face) h.columns (λ j l k. subst (λ z. pos 0 ≤ℤ z) (column_sum-same p q h face j l) k) c.columns;
    face_right = subst (λ z. z <ℤ pos 0) (right_sum-same p q h face) c.face_right;
  }

  unbounded-same : (den : ℤ) (x ray : ℕ → ℤ) → IsUnboundedCertified p den x ray → IsUnboundedCertified q den x ray
  unbounded-same den x ray c = record {
    meets = meets-same den x c.meets;
    nonneg = λ j l. c.nonneg j (subst (λ k. j < k) (sym h.columns) l);
    rows = below-same (row_count p) (row_count q) (RayHolds p ray) (RayHolds q ray) h.rows
        (λ r b k. subst (λ kind. RayKeeps kind (row_sum q ray r)) (h.kinds r) (subst (RayKeeps (kind_at p r)) (row_sum-same p q h ray r) k))
        c.rows;
    gain = subst (λ z. pos 0 <ℤ z) (cost_sum-same p q h ray) c.gain;
  }

  pub certified-same : (c : Certificate) → Certified p c → Certified q c
  certified-same (Optimal den point bound) c = optimal-same den (number_at point) bound.den (number_at bound.main) (number_at bound.face) c
  certified-same (Infeasible face) c = infeasible-same (number_at face) c
  certified-same (Unbounded den point ray) c = unbounded-same den (number_at point) (number_at ray) c

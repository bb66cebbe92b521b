-- The conditions under which a certificate shows what it claims: weak duality and the lemma of Farkas, on two levels.
-- They speak of sums over the rows and the columns of the program alone, and of no basis.
use Rattle.std.specs.Prelude.{ℕ, ℤ, pos, ◌-ℤ◌, ◌*ℤ◌, ◌≤ℤ◌, ◌<ℤ◌, ◌≡◌, ◌<◌}
use Rattle.md_math.specs.FirstFailure.{HoldsBelow}
use Rattle.md_math.specs.Lists.{number_at}
use Rattle.md_lp.specs.Program.{Program, row_count, kind_at, cost_at}
use Rattle.md_lp.specs.Point.{Meets, row_sum, cost_sum, column_sum, right_sum}
use Rattle.md_math.specs.LexOrder.{IsPairNonNegative}
use Rattle.md_cert.specs.Pairs.{IsPairFor, IsFaceFor, RayKeeps}
use Rattle.md_cert.specs.Claims.{IsOptimalPoint, HasNoPoint, GrowsAlong}
use Rattle.md_cert.specs.declared.certificate.Certificate.{Certificate}
use Rattle.md_cert.specs.declared.certificate.Certificate.TheVariants.{Optimal, Infeasible, Unbounded}

-- how far the main multipliers exceed the cost of a column, over their denominator
abbrev pub reduced_cost : Program → ℤ → (ℕ → ℤ) → ℕ → ℤ
reduced_cost p den main j = column_sum p main j -ℤ den *ℤ cost_at p j

-- the multipliers of a row: face first
abbrev pub PairHolds : Program → (ℕ → ℤ) → (ℕ → ℤ) → ℕ → Type 0
PairHolds p face main r = IsPairFor (kind_at p r) (face r) (main r)

-- the sums of a column: face first
abbrev pub ColumnHolds : Program → ℤ → (ℕ → ℤ) → (ℕ → ℤ) → ℕ → Type 0
ColumnHolds p den face main j = IsPairNonNegative (column_sum p face j) (reduced_cost p den main j)

-- `point` over `den`, and the bound with the multipliers `main` over `over`, and `face`
pub record IsOptimalCertified (p : Program) (den : ℤ) (point : ℕ → ℤ) (over : ℤ) (main face : ℕ → ℤ) : Type 0 where
  pub meets : Meets p den point
  pub positive : pos 0 <ℤ over
  pub pairs : HoldsBelow (row_count p) (PairHolds p face main)
  pub columns : HoldsBelow p.columns (ColumnHolds p over face main)
  pub face_right : right_sum p face ≡ pos 0
  pub main_right : den *ℤ right_sum p main ≡ over *ℤ cost_sum p point

-- the face multiplier of a row
abbrev pub FaceHolds : Program → (ℕ → ℤ) → ℕ → Type 0
FaceHolds p face r = IsFaceFor (kind_at p r) (face r)

-- the face sum of a column
abbrev pub FaceSumHolds : Program → (ℕ → ℤ) → ℕ → Type 0
FaceSumHolds p face j = pos 0 ≤ℤ column_sum p face j

pub record IsInfeasibleCertified (p : Program) (face : ℕ → ℤ) : Type 0 where
  pub pairs : HoldsBelow (row_count p) (FaceHolds p face)
  pub columns : HoldsBelow p.columns (FaceSumHolds p face)
  pub face_right : right_sum p face <ℤ pos 0

-- what the ray gives a row
abbrev pub RayHolds : Program → (ℕ → ℤ) → ℕ → Type 0
RayHolds p ray r = RayKeeps (kind_at p r) (row_sum p ray r)

pub record IsUnboundedCertified (p : Program) (den : ℤ) (point ray : ℕ → ℤ) : Type 0 where
  pub meets : Meets p den point
  pub nonneg : (j : ℕ) → j < p.columns → pos 0 ≤ℤ ray j
  pub rows : HoldsBelow (row_count p) (RayHolds p ray)
  pub gain : pos 0 <ℤ cost_sum p ray

abbrev pub Certified : Program → Certificate → Type 0
Certified p (Optimal den point bound) = IsOptimalCertified p den (number_at point) bound.den (number_at bound.main) (number_at bound.face)
Certified p (Infeasible face) = IsInfeasibleCertified p (number_at face)
Certified p (Unbounded den point ray) = IsUnboundedCertified p den (number_at point) (number_at ray)

-- what a certificate claims
abbrev pub Claims : Program → Certificate → Type 0
Claims p (Optimal den point bound) = IsOptimalPoint p den (number_at point)
Claims p (Infeasible face) = HasNoPoint p
Claims p (Unbounded den point ray) = GrowsAlong p den (number_at point) (number_at ray)

-- The first condition of a certificate that fails, in their order, with its numbers.
use Rattle.std.specs.Prelude.{ℕ, ℤ, pos, ◌*ℤ◌, ◌≤ℤ◌, ◌≡◌, ◌≢◌}
use Rattle.md_math.specs.Divisors.{IsLeastTerms}
use Rattle.md_math.specs.FirstFailure.{HoldsBelow, IsFirstFailure}
use Rattle.md_math.specs.Lists.{number_at}
use Rattle.md_num.specs.declared.frac.Frac.{Frac}
use Rattle.md_lp.specs.Program.{Program, row_count, right_at}
use Rattle.md_lp.specs.Point.{MeetsRow, row_sum, cost_sum, column_sum, right_sum}
use Rattle.md_cert.specs.Certified.{PairHolds, ColumnHolds, FaceHolds, FaceSumHolds, RayHolds, reduced_cost}
use Rattle.md_cert.specs.declared.certificate.Certificate.{Certificate}
use Rattle.md_cert.specs.declared.certificate.Certificate.TheVariants.{Optimal, Infeasible, Unbounded}
use Rattle.md_cert.specs.declared.points.BrokenRow.{BrokenRow}
use Rattle.md_cert.specs.declared.cert_fault.CertFault.{CertFault}
use Rattle.md_cert.specs.declared.cert_fault.CertFault.TheVariants.{Point, Pair, Column, FaceRight, MainRight, RayRow, RayGain}

-- the fraction is num over den, in least terms
pub record IsFraction (num den : ℤ) (fraction : Frac) : Type 0 where
  pub least : IsLeastTerms fraction.num fraction.den
  pub value : fraction.num *ℤ den ≡ num *ℤ fraction.den

-- ---- the conditions by themselves

-- the first row that the point breaks
pub record BreaksRow (p : Program) (den : ℤ) (x : ℕ → ℤ) (row : ℕ) (left right : ℤ) : Type 0 where
  pub first : IsFirstFailure (row_count p) (MeetsRow p den x) row
  pub left_is : left ≡ row_sum p x row
  pub right_is : right ≡ den *ℤ right_at p row

-- a row that the point breaks, with both its sides
pub record BreaksAt (p : Program) (den : ℤ) (x : ℕ → ℤ) (row : ℕ) (broken : BrokenRow) : Type 0 where
  pub row_is : broken.row ≡ row
  pub fails : ¬ MeetsRow p den x broken.row
  pub left_is : broken.left ≡ row_sum p x broken.row
  pub right_is : broken.right ≡ den *ℤ right_at p broken.row

-- the first row whose multipliers have a wrong sign
pub record BreaksPair (p : Program) (face main : ℕ → ℤ) (row : ℕ) (f m : ℤ) : Type 0 where
  pub first : IsFirstFailure (row_count p) (PairHolds p face main) row
  pub face_is : f ≡ face row
  pub main_is : m ≡ main row

pub record BreaksFace (p : Program) (face : ℕ → ℤ) (row : ℕ) (f m : ℤ) : Type 0 where
  pub first : IsFirstFailure (row_count p) (FaceHolds p face) row
  pub face_is : f ≡ face row
  pub main_is : m ≡ pos 0

-- the first column whose sums have a wrong sign
pub record BreaksColumn (p : Program) (over : ℤ) (face main : ℕ → ℤ) (column : ℕ) (f m : ℤ) : Type 0 where
  pub first : IsFirstFailure p.columns (ColumnHolds p over face main) column
  pub face_is : f ≡ column_sum p face column
  pub main_is : m ≡ reduced_cost p over main column

pub record BreaksFaceSum (p : Program) (face : ℕ → ℤ) (column : ℕ) (f m : ℤ) : Type 0 where
  pub first : IsFirstFailure p.columns (FaceSumHolds p face) column
  pub face_is : f ≡ column_sum p face column
  pub main_is : m ≡ pos 0

-- the first row that the ray breaks
pub record BreaksRay (p : Program) (ray : ℕ → ℤ) (row : ℕ) (sum : ℤ) : Type 0 where
  pub first : IsFirstFailure (row_count p) (RayHolds p ray) row
  pub sum_is : sum ≡ row_sum p ray row

-- ---- in their order

abbrev pub MeetsRows : Program → ℤ → (ℕ → ℤ) → Type 0
MeetsRows p den x = HoldsBelow (row_count p) (MeetsRow p den x)

abbrev pub HasPairs : Program → (ℕ → ℤ) → (ℕ → ℤ) → Type 0
HasPairs p face main = HoldsBelow (row_count p) (PairHolds p face main)

abbrev pub HasColumns : Program → ℤ → (ℕ → ℤ) → (ℕ → ℤ) → Type 0
HasColumns p over face main = HoldsBelow p.columns (ColumnHolds p over face main)

abbrev pub HasFaces : Program → (ℕ → ℤ) → Type 0
HasFaces p face = HoldsBelow (row_count p) (FaceHolds p face)

abbrev pub HasFaceSums : Program → (ℕ → ℤ) → Type 0
HasFaceSums p face = HoldsBelow p.columns (FaceSumHolds p face)

abbrev pub HasRays : Program → (ℕ → ℤ) → Type 0
HasRays p ray = HoldsBelow (row_count p) (RayHolds p ray)

-- what the right sides show where the rows and the columns show no fault
abbrev pub IsRightFault : Program → ℤ → (ℕ → ℤ) → ℤ → (ℕ → ℤ) → (ℕ → ℤ) → CertFault → Type 0
IsRightFault p den x over main face (FaceRight sum) = (sum ≡ right_sum p face) × (sum ≢ pos 0)
IsRightFault p den x over main face (MainRight bound cost) = (right_sum p face ≡ pos 0) × (den *ℤ right_sum p main ≢ over *ℤ cost_sum p x) × IsFraction (right_sum p main) over bound × IsFraction (cost_sum p x) den cost
IsRightFault p den x over main face _ = ⊥

abbrev pub IsOptimalFault : Program → ℤ → (ℕ → ℤ) → ℤ → (ℕ → ℤ) → (ℕ → ℤ) → CertFault → Type 0
IsOptimalFault p den x over main face (Point row left right) = BreaksRow p den x row left right
IsOptimalFault p den x over main face (Pair row f m) = MeetsRows p den x × BreaksPair p face main row f m
IsOptimalFault p den x over main face (Column column f m) = MeetsRows p den x × HasPairs p face main × BreaksColumn p over face main column f m
IsOptimalFault p den x over main face fault = MeetsRows p den x × HasPairs p face main × HasColumns p over face main × IsRightFault p den x over main face fault

abbrev pub IsInfeasibleFault : Program → (ℕ → ℤ) → CertFault → Type 0
IsInfeasibleFault p face (Pair row f m) = BreaksFace p face row f m
IsInfeasibleFault p face (Column column f m) = HasFaces p face × BreaksFaceSum p face column f m
IsInfeasibleFault p face (FaceRight sum) = HasFaces p face × HasFaceSums p face × (sum ≡ right_sum p face) × (pos 0 ≤ℤ sum)
IsInfeasibleFault p face _ = ⊥

abbrev pub IsUnboundedFault : Program → ℤ → (ℕ → ℤ) → (ℕ → ℤ) → CertFault → Type 0
IsUnboundedFault p den x ray (Point row left right) = BreaksRow p den x row left right
IsUnboundedFault p den x ray (RayRow row sum) = MeetsRows p den x × BreaksRay p ray row sum
IsUnboundedFault p den x ray (RayGain sum) = MeetsRows p den x × HasRays p ray × (sum ≡ cost_sum p ray) × (sum ≤ℤ pos 0)
IsUnboundedFault p den x ray _ = ⊥

abbrev pub IsFirstFault : Program → Certificate → CertFault → Type 0
IsFirstFault p (Optimal den point bound) fault = IsOptimalFault p den (number_at point) bound.den (number_at bound.main) (number_at bound.face) fault
IsFirstFault p (Infeasible face) fault = IsInfeasibleFault p (number_at face) fault
IsFirstFault p (Unbounded den point ray) fault = IsUnboundedFault p den (number_at point) (number_at ray) fault

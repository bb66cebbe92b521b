-- Questions about a setting: what a program is to find among its mechanisms.
use Rattle.std.specs.Prelude.{◌≡◌, ◌≤◌, ℕ, ℤ, List, length}
use Rattle.md_math.specs.Lists.{number_at}
use Rattle.md_math.specs.Sizes.{IsWithin}
use Rattle.md_num.specs.declared.frac.Frac.{Frac}
use Rattle.md_setting.specs.Setting.{GeneralSetting}
use Rattle.md_setting.specs.Rows.{column_count}
use Rattle.md_mech.specs.declared.mechanism.Mechanism.{Mechanism}
use Rattle.md_mech.specs.Accepted.{IsAccepted, number_limit}
use Rattle.md_mech.specs.Admissible.{IsAdmissible}
use Rattle.md_mech.specs.Mechanism.{IsMechanism}
use Rattle.md_mech.specs.Optimal.{raised}
use Rattle.md_lp.specs.Program.{Program}
use Rattle.md_lp.specs.Point.{Meets}
use Rattle.md_cert.specs.declared.bound.Bound.{Bound}
use Rattle.md_cert.specs.declared.certificate.Certificate.{Certificate}
use Rattle.md_cert.specs.declared.certificate.Certificate.TheVariants as certificates
use Rattle.md_cert.specs.Certified.{Certified, IsUnboundedCertified}
use Rattle.md_cert.specs.Claims.{HasNoPoint, IsOptimalPoint}
use Rattle.md_cert.specs.Fitting.{FitsColumns}
use Rattle.md_forms.specs.Forms.{Form}
use Rattle.md_forms.specs.ProgramOf.{IsProgramOf}
use Rattle.md_parts.specs.Fitting.{IsRayFor}
use Rattle.md_rows.specs.Points.{MeetsProgramOf, mechanism_of}
use Rattle.md_claims.specs.Rays.{pays_along}
use Rattle.md_question.specs.declared.unmet.Unmet.{Unmet}

-- The setting; which of its mechanisms the question admits, and which condition of its own an admissible one does not meet first;
-- the conditions and the cost of a program over the setting's columns and maybe more behind them, and how many rows it has; what the value of a mechanism is in least terms, and which fractions are taken as its value; which mechanisms are best,
-- and along which payments one grows without end; the level of a mechanism, which stands in its point beside its own numbers and
-- is 0 where the program has none; the point of the program that a mechanism is, and the ray that payments are.
pub record Question : Type 1 where
  pub setting : GeneralSetting
  pub admits : Mechanism → Type 0
  pub is_unmet : Mechanism → Unmet → Type 0
  pub columns : ℕ
  pub forms : List Form
  pub cost : (ℕ → ℤ) → ℤ
  pub rows : ℕ
  pub is_value : Mechanism → Frac → Type 0
  pub has_value : Mechanism → Frac → Type 0
  pub is_optimal : Mechanism → Type 0
  pub grows : Mechanism → List ℤ → Type 0
  pub level : Mechanism → ℤ
  pub point : Mechanism → List ℤ
  pub ray : List ℤ → List ℤ

-- the question admits no mechanism
abbrev pub AdmitsNone : Question → Type 0
AdmitsNone q = (m : Mechanism) → ¬ q.admits m

-- the program of the question, in whatever terms it is written
abbrev pub IsProgramFor : Question → Program → Type 0
IsProgramFor q p = IsProgramOf q.columns q.forms q.cost p

-- what a mechanism with multipliers, and one with payments that are added, say as certificates of the program
abbrev pub optimal_certificate : Question → Mechanism → Bound → Certificate
optimal_certificate q m bound = certificates.Optimal m.den (q.point m) bound

abbrev pub unbounded_certificate : Question → Mechanism → List ℤ → Certificate
unbounded_certificate q m pays = certificates.Unbounded m.den (q.point m) (q.ray pays)

-- Its points are mechanisms of the setting. The mechanism of a greatest point is best, and where there is no point, none is
-- admitted; where costs grow without end, the mechanism of the point grows along the payments of the ray.
pub record IsQuestion (q : Question) : Type 0 where
  pub own_columns : column_count q.setting ≤ q.columns
  pub row_count : length q.forms ≡ q.rows
  pub own_point : (p : Program) (den : ℤ) (x : ℕ → ℤ) → IsProgramFor q p → Meets p den x → MeetsProgramOf q.setting den x
  pub optimal : (p : Program) (den : ℤ) (x : ℕ → ℤ) → IsProgramFor q p → IsOptimalPoint p den x → q.is_optimal (mechanism_of q.setting den x)
  pub none : (p : Program) → IsProgramFor q p → HasNoPoint p → AdmitsNone q
  pub grown : (p : Program) (den : ℤ) (x ray : ℕ → ℤ) → IsProgramFor q p → IsUnboundedCertified p den x ray → q.grows (mechanism_of q.setting den x) (pays_along q.setting ray)
  -- what certifies a point certifies the point of its mechanism, and what certifies a ray that of its payments
  pub shown : (p : Program) (den : ℤ) (point : List ℤ) (bound : Bound) → IsProgramFor q p → Certified p (certificates.Optimal den point bound)
      → Certified p (optimal_certificate q (mechanism_of q.setting den (number_at point)) bound)
  pub shown_ray : (p : Program) (den : ℤ) (x ray : ℕ → ℤ) → IsProgramFor q p → IsUnboundedCertified p den x ray
      → Certified p (unbounded_certificate q (mechanism_of q.setting den x) (pays_along q.setting ray))
  -- the point of an admitted mechanism meets the program; a mechanism is that of its point, and payments are those of their ray
  pub meets : (p : Program) (m : Mechanism) → IsProgramFor q p → q.admits m → Meets p m.den (number_at (q.point m))
  pub same_mechanism : (m : Mechanism) → IsMechanism q.setting m → mechanism_of q.setting m.den (number_at (q.point m)) ≡ m
  pub same_pays : (pays : List ℤ) → IsRayFor q.setting pays → pays_along q.setting (number_at (q.ray pays)) ≡ pays
  -- both have a number of at most 62 bits for each column, where the level has
  pub fits_point : (p : Program) (m : Mechanism) → IsProgramFor q p → IsAccepted q.setting m → IsWithin number_limit (q.level m) → FitsColumns p (q.point m)
  pub fits_ray : (p : Program) (m : Mechanism) (pays : List ℤ) → IsProgramFor q p → IsAccepted q.setting m → IsRayFor q.setting pays → FitsColumns p (q.ray pays)
  -- an admitted mechanism has one value, the best ones are admitted, and so is one that grows, however often it has grown
  pub one_value : (m : Mechanism) (v w : Frac) → q.admits m → q.is_value m v → q.is_value m w → v ≡ w
  pub admitted : (m : Mechanism) → q.is_optimal m → q.admits m
  pub stays : (m : Mechanism) (pays : List ℤ) (k : ℕ) → q.grows m pays → q.admits (raised m k pays)
  -- an admitted mechanism is admissible, and meets what the question asks; of what it does not meet one comes first
  pub admissible : (m : Mechanism) → q.admits m → IsAdmissible q.setting m
  pub met : (m : Mechanism) (unmet : Unmet) → q.is_unmet m unmet → ¬ q.admits m
  pub one_unmet : (m : Mechanism) (unmet other : Unmet) → q.is_unmet m unmet → q.is_unmet m other → unmet ≡ other

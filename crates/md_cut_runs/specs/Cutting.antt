-- Programs by lists of cuts, and by how much sets are over at points: what a cut run goes over.
use Rattle.std.specs.Prelude.{ℕ, ◌<◌, ◌≤◌, ℤ, pos, ◌≤ℤ◌, List, length, slice_index}
use Rattle.md_math.specs.Lists.{number_at}
use Rattle.md_lp.specs.Program.{Program}
use Rattle.md_lp.specs.Point.{Meets}
use Rattle.md_lp.specs.declared.wide.Wide.{Wide}
use Rattle.md_cert.specs.Certified.{Certified}
use Rattle.md_cert.specs.Claims.{GrowsAlong, HasNoPoint}
use Rattle.md_cert.specs.Fitting.{Fits, FitsColumns, IsDenominator}
use Rattle.md_cert.specs.declared.certificate.Certificate.{Certificate}
use Rattle.md_simplex.specs.declared.end.End.{End}
use Rattle.md_simplex.specs.declared.order.Order.{Order}
use Rattle.md_simplex.specs.Runs.{IsFirstWideOf, IsRun}
use Rattle.md_lp.specs.Cuts.{HasSingles}

-- Sets of so many places; which programs are those of a list of cuts; and by how much a set is over at numbers over a
-- denominator.
pub record Cutting : Type 1 where
  pub places : ℕ
  pub is_program : List ℕ → Program → Type 0
  pub excess : ℤ → (ℕ → ℤ) → ℕ → ℤ

-- what is shown of the one program is shown of the other: its run, its first wide bases and its certificates
pub record IsShownOf (p q : Program) : Type 0 where
  pub run : (width : ℕ) (end : End) → IsRun p width end → IsRun q width end
  pub wide : (order : Order) (width : ℕ) (wide : Wide) → IsFirstWideOf order p width wide → IsFirstWideOf order q width wide
  pub certified : (c : Certificate) → Certified p c → Certified q c
  pub fits : (c : Certificate) → Fits p c → Fits q c

-- A list of cuts has one program, in whatever terms it is written. At each of its points none of the cuts is over. It has a
-- point, and with a cut for each place alone its costs have a bound. The empty set is never over.
pub record IsCutting (m : Cutting) : Type 0 where
  pub few : m.places ≤ 12
  pub one : (cuts : List ℕ) (p q : Program) → m.is_program cuts p → m.is_program cuts q → IsShownOf p q
  pub kept : (cuts : List ℕ) (p : Program) (den : ℤ) (x : ℕ → ℤ) (k : ℕ) → m.is_program cuts p → Meets p den x → k < length cuts
      → m.excess den x (slice_index cuts k) ≤ℤ pos 0
  pub empty : (cuts : List ℕ) (p : Program) (den : ℤ) (x : ℕ → ℤ) → m.is_program cuts p → Meets p den x → m.excess den x 0 ≤ℤ pos 0
  pub has_point : (cuts : List ℕ) (p : Program) → m.is_program cuts p → ¬ HasNoPoint p
  pub bounded : (cuts : List ℕ) (p : Program) (den : ℤ) (x ray : ℕ → ℤ) → HasSingles m.places cuts → m.is_program cuts p → ¬ GrowsAlong p den x ray

-- a point of a program that has a cut for each place alone
pub record IsCutPoint (m : Cutting) (den : ℤ) (point : List ℤ) : Type 0 where
  pub cuts : List ℕ
  pub program : Program
  pub is_program : m.is_program cuts program
  pub singles : HasSingles m.places cuts
  pub meets : Meets program den (number_at point)
  pub den_fits : IsDenominator den
  pub point_fits : FitsColumns program point

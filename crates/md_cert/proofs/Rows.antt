-- The first row that a point breaks, one row at a time.
use Rattle.std.proofs.Common.{ℕ, ℤ, ◌<◌, sym, subst}
use Rattle.md_math.specs.FirstFailure.{HoldsBelow}
use Rattle.md_lp.specs.Program.{Program, row_count}
use Rattle.md_lp.specs.Point.{MeetsRow}
use Rattle.md_cert.specs.declared.points.BrokenRow.{BrokenRow}
use Rattle.md_cert.specs.Fault.{BreaksAt, BreaksRow}

pub BreaksRow-first : (p : Program) (den : ℤ) (x : ℕ → ℤ) (row : ℕ) (broken : BrokenRow) → row < row_count p → HoldsBelow row (MeetsRow p den x) → BreaksAt p den x row broken → BreaksRow p den x broken.row broken.left broken.right
BreaksRow-first p den x row broken below before at = record {
  first = record {
    below = subst (λ r. r < row_count p) (sym at.row_is) below;
    fails = at.fails;
    before = subst (λ r. HoldsBelow r (MeetsRow p den x)) (sym at.row_is) before;
  };
  left_is = at.left_is;
  right_is = at.right_is;
}

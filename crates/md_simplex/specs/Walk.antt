-- Where a walk along the path stands.
use Rattle.std.specs.Prelude.{◌≡◌, ℕ, ◌<◌, List}
use Rattle.md_lp.specs.Program.{Program, row_count}
use Rattle.md_lp.specs.declared.pivot.Pivot.{Pivot}
use Rattle.md_num.specs.Limits.{limit_of}
use Rattle.md_dict.specs.Condensed.{Condensed, Holds, basic_at, entry_at}
use Rattle.md_dict.specs.FirstTable.{column_count, first_entry, first_basis}
use Rattle.md_dict.specs.Wide.{IsNarrow}
use Rattle.md_simplex.specs.declared.order.Order.{Order}
use Rattle.md_simplex.specs.declared.walk.Walked.{Walked}
use Rattle.md_simplex.specs.Rules.{IsNext}
use Rattle.md_simplex.specs.Path.{AllBefore, IsEnd, IsPathFrom}
use Rattle.md_simplex.specs.Runs.{IsWithinWidth, basis_of}

-- the pivots by the rules have led from the first basis to this dictionary, and no basis on the way is wide
pub record IsReached (order : Order) (p : Program) (width : ℕ) (pivots : List Pivot) (d : Condensed) : Type 0 where
  pub bits : d.bits ≡ width
  pub holds : Holds p d
  pub path : IsPathFrom order (row_count p) (column_count p) (first_entry p) (first_basis p) pivots
  pub basis : (i : ℕ) → i < d.rows → basic_at d i ≡ basis_of p pivots i
  pub before : AllBefore (IsWithinWidth p width) (first_basis p) pivots
  pub narrow : IsNarrow d.rows d.columns (limit_of d.bits) (entry_at d)

-- the walk has come to the end
pub record IsWalked (order : Order) (p : Program) (width : ℕ) (walk : Walked) : Type 0 where
  pub reached : IsReached order p width walk.path walk.dict
  pub next : IsNext order walk.dict.rows walk.dict.columns (entry_at walk.dict) walk.step
  pub ends : IsEnd walk.step

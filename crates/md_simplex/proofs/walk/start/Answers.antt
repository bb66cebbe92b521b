use Rattle.std.proofs.Common.{List, sym, subst}
use Rattle.md_lp.specs.declared.pivot.Pivot.{Pivot}
use Rattle.md_simplex.specs.Runs.{IsFirstWideIn}
use Rattle.md_simplex.proofs.WalkLaws.{wide_first}
use Rattle.md_simplex.proofs.walk.start.Goals as goal

pub returns-in-Err-TooWide-clause-left : goal.returns-in-Err-TooWide-clause-left
returns-in-Err-TooWide-clause-left c =
    λ order.
    subst (λ (path : List Pivot). IsFirstWideIn order c.args.lp.now c.args.width path c.in-Err-TooWide.entry) (sym c.new.ensures)
    (wide_first order c.args.lp.now c.args.width c.in-Err-TooWide.entry (rw c.in-Err-TooWide.field-0-is at c.in-Err-TooWide.ensures.refused))

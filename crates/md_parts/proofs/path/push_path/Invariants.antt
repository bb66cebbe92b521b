use Rattle.std.proofs.Common.{◌≡◌, ◌++◌, map, take, All}
use Rattle.md_parts.specs.Fitting.{IsTablePlace}
use Rattle.md_parts.specs.Rows.{pivot_row}
use Rattle.md_parts.proofs.path.push_path.Given as goal

abbrev pub invariant-loop-pivot : goal.invariant-loop-pivot
invariant-loop-pivot l =
    record {
      written : l.to.items ≡ l.fn.to.items ++ map pivot_row (take l.pivot-index l.pivot-items);
      placed : All (λ p. IsTablePlace p.row p.column) (take l.pivot-index l.pivot-items);
    }

use Rattle.std.proofs.Common.{◌≡◌, Bool, ◌&&◌, ◌==◌, IsTrue, rules, sym, ap, eq-eqb}
use Rattle.md_lp.specs.declared.pivot.Pivot.{Pivot}
use Rattle.md_simplex.specs.declared.step.Step.TheVariants as steps
use Rattle.md_replay.proofs.standing.is_next.Goals as goal

pivot_in : (x y : Pivot) → steps.Pivot x ≡ steps.Pivot y → x ≡ y
pivot_in x y e = cc

equal_pivots : (b : Bool) (x y : Pivot) → b ≡ ((x.row == y.row) && (x.column == y.column)) → y ≡ x → IsTrue b
equal_pivots b x y e same =
    let rows : x.row ≡ y.row = ap (λ (z : Pivot). z.row) (sym same) in
    let columns : x.column ≡ y.column = ap (λ (z : Pivot). z.column) (sym same) in
    rw (e, eq-eqb x.row y.row rows, eq-eqb x.column y.column columns) (search rules)

pub returns-in-Pivot-clause-only : goal.returns-in-Pivot-clause-only
returns-in-Pivot-clause-only c =
    λ p holds next. equal_pivots c.eq.result c.in-Pivot.found c.args.pivot c.eq.ensures (pivot_in c.args.pivot c.in-Pivot.found (c.in-Pivot.ensures.only p (steps.Pivot c.args.pivot) holds next))

pub returns-in_default-clause-only : goal.returns-in_default-clause-only
returns-in_default-clause-only c =
    λ p holds next. absurd (c.in_default.not-Pivot c.args.pivot (sym (c.next.ensures.only p (steps.Pivot c.args.pivot) holds next)))

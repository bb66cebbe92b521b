use Rattle.std.proofs.Common.{◌≡◌, ◌-◌, ◌^◌, to_z, of_z, subst, lit<}
use mir.Syntax.{w128}
use Rattle.md_math.specs.Lists.{number_at}
use Rattle.md_math.proofs.Bits.{read_within}
use Rattle.md_cut_runs.specs.Worst.{IsWorst, NoneOver, WhereTable, WhereViolated}
use Rattle.md_cut_runs.proofs.Turning.{added}
use Rattle.md_cut_runs.proofs.turn.next_turn.Goals as goal

pub returns-in-Violated : goal.returns-in-Violated
returns-in-Violated g c =
    let m = g.C.CutProgram.cutting c.args.problem.now in
    let optimum = c.in-Ok.optimum in
    let same : to_z w128 (of_z w128 optimum.den) ≡ optimum.den = read_within (2 ^ 62 - 1) optimum.den c.in-Ok.ensures.found.point.den_fits.size (lit< tt) in
    let worst : IsWorst m (to_z w128 (of_z w128 optimum.den)) (number_at optimum.point) c.in-Violated.set =
    subst (WhereViolated (IsWorst m (to_z w128 (of_z w128 optimum.den)) (number_at optimum.point))) c.in-Violated.is c.in_ok-table-in-Ok.ensures.violated in
    added m c.found.ensures.cutting c.args.width c.args.cuts.now optimum c.in-Violated.set c.in-Ok.ensures.found
    (subst (λ d. IsWorst m d (number_at optimum.point) c.in-Violated.set) same worst) c.requires.cuts

pub returns-in-Table : goal.returns-in-Table
returns-in-Table g c =
    let m = g.C.CutProgram.cutting c.args.problem.now in
    let shows = g.C.CutProgram.shows c.args.problem.now in
    let optimum = c.in-Ok.optimum in
    let same : to_z w128 (of_z w128 optimum.den) ≡ optimum.den = read_within (2 ^ 62 - 1) optimum.den c.in-Ok.ensures.found.point.den_fits.size (lit< tt) in
    let none : NoneOver m (to_z w128 (of_z w128 optimum.den)) (number_at optimum.point) =
    subst (WhereTable (λ _. NoneOver m (to_z w128 (of_z w128 optimum.den)) (number_at optimum.point))) c.in-Table.is c.in_ok-table-in-Ok.ensures.none_over in
    let shown : shows (to_z w128 (of_z w128 optimum.den)) (number_at optimum.point) c.in-Table.table =
    subst (WhereTable (shows (to_z w128 (of_z w128 optimum.den)) (number_at optimum.point))) c.in-Table.is c.in_ok-table-in-Ok.ensures.shows in
    record {
      found = c.in-Ok.ensures.found;
      settled = subst (λ d. NoneOver m d (number_at optimum.point)) same none;
      shown = subst (λ d. shows d (number_at optimum.point) c.in-Table.table) same shown;
    }

use Rattle.md_units.proofs.UnitEnds.{odds-with, optimal-with, pays-with, solved-with, tells-with, value-with}
use Rattle.md_units.proofs.solving.solve_units.Goals as goal

pub returns-in-Ok-clause-solved : goal.returns-in-Ok-clause-solved
returns-in-Ok-clause-solved c =
    solved-with c.args.auction.now c.args.units c.args.width c.unit_worth-value.result c.in-Ok.end.cuts c.in-Ok.end.optimum c.in-Ok.end.table c.in-Ok.ensures.shows c.in-Ok.ensures.ends c.in-Ok.ensures.shown

pub returns-in-Ok-clause-optimal : goal.returns-in-Ok-clause-optimal
returns-in-Ok-clause-optimal c =
    optimal-with c.args.auction.now c.args.units c.args.width c.unit_worth-value.result c.in-Ok.end.cuts c.in-Ok.end.optimum c.in-Ok.end.table c.in-Ok.ensures.shows c.kinds-shaped.ensures.shaped c.in-Ok.ensures.ends c.in-Ok.ensures.shown

pub returns-in-Ok-clause-odds : goal.returns-in-Ok-clause-odds
returns-in-Ok-clause-odds c =
    odds-with c.args.auction.now c.args.units c.args.width c.unit_worth-value.result c.in-Ok.end.cuts c.in-Ok.end.optimum c.in-Ok.end.table c.in-Ok.ensures.shows c.kinds-shaped.ensures.shaped

pub returns-in-Ok-clause-pays : goal.returns-in-Ok-clause-pays
returns-in-Ok-clause-pays c =
    pays-with c.args.auction.now c.args.units c.args.width c.unit_worth-value.result c.in-Ok.end.cuts c.in-Ok.end.optimum c.in-Ok.end.table c.in-Ok.ensures.shows c.kinds-shaped.ensures.shaped

pub returns-in-Ok-clause-value : goal.returns-in-Ok-clause-value
returns-in-Ok-clause-value c =
    value-with c.args.auction.now c.args.units c.args.width c.unit_worth-value.result c.in-Ok.end.cuts c.in-Ok.end.optimum c.in-Ok.end.table c.in-Ok.ensures.shows c.kinds-shaped.ensures.shaped c.unit_worth-value.ensures.value c.unit_worth-value.ensures.least

pub returns-in-Ok-clause-settled : goal.returns-in-Ok-clause-settled
returns-in-Ok-clause-settled c = λ cuts optimum ends.
    tells-with c.args.auction.now c.args.units c.args.width c.unit_worth-value.result c.in-Ok.end.cuts c.in-Ok.end.optimum c.in-Ok.end.table c.in-Ok.ensures.shows cuts optimum (c.in-Ok.ensures.settled cuts optimum ends)

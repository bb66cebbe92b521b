use Rattle.std.proofs.Common.{◌≡◌, ◌*ℤ◌}
use Rattle.md_math.specs.Lists.{number_at}
use Rattle.md_setting.specs.Meaning.{total_of}
use Rattle.md_asym.specs.Gains.{worth_by}
use Rattle.md_asym_solve.proofs.SaleEnds.{answer-with, are-odds, best-with, same-den, tells-with, valid-with}
use Rattle.md_asym_solve.proofs.solving.solve_asym.Goals as goal

pub sale_worth-value-requires-clause-fits : goal.sale_worth-value-requires-clause-fits
sale_worth-value-requires-clause-fits c = rw (same-den c.args.setting.now c.in-Ok.end.optimum.den (number_at c.in-Ok.end.optimum.point) c.in-Ok.end.table c.in-Ok.ensures.shows)
    (are-odds c.args.setting.now c.in-Ok.end.optimum.den (number_at c.in-Ok.end.optimum.point) c.in-Ok.end.table c.in-Ok.ensures.shows)

pub returns-in-Ok-clause-fits : goal.returns-in-Ok-clause-fits
returns-in-Ok-clause-fits c =
    rw (same-den c.args.setting.now c.in-Ok.end.optimum.den (number_at c.in-Ok.end.optimum.point) c.in-Ok.end.table c.in-Ok.ensures.shows)
    (answer-with c.args.setting.now c.args.width c.sale_worth-value.result c.in-Ok.end.cuts c.in-Ok.end.optimum c.in-Ok.end.table c.in-Ok.ensures.shows c.requires c.total-shaped.ensures.shaped c.sale_worth-value.ensures.fraction c.in-Ok.ensures.distinct c.in-Ok.ensures.ends c.in-Ok.ensures.shown)

pub returns-in-Ok-clause-valid : goal.returns-in-Ok-clause-valid
returns-in-Ok-clause-valid c =
    rw (same-den c.args.setting.now c.in-Ok.end.optimum.den (number_at c.in-Ok.end.optimum.point) c.in-Ok.end.table c.in-Ok.ensures.shows)
    (valid-with c.args.setting.now c.args.width c.sale_worth-value.result c.in-Ok.end.cuts c.in-Ok.end.optimum c.in-Ok.end.table c.in-Ok.ensures.shows c.requires c.total-shaped.ensures.shaped c.sale_worth-value.ensures.fraction c.in-Ok.ensures.distinct c.in-Ok.ensures.ends c.in-Ok.ensures.shown
    (rw (same-den c.args.setting.now c.in-Ok.end.optimum.den (number_at c.in-Ok.end.optimum.point) c.in-Ok.end.table c.in-Ok.ensures.shows) at c.sale_worth-value.ensures.value))

pub returns-in-Ok-clause-best : goal.returns-in-Ok-clause-best
returns-in-Ok-clause-best c =
    rw (same-den c.args.setting.now c.in-Ok.end.optimum.den (number_at c.in-Ok.end.optimum.point) c.in-Ok.end.table c.in-Ok.ensures.shows)
    (best-with c.args.setting.now c.args.width c.sale_worth-value.result c.in-Ok.end.cuts c.in-Ok.end.optimum c.in-Ok.end.table c.in-Ok.ensures.shows c.requires c.total-shaped.ensures.shaped c.sale_worth-value.ensures.fraction c.in-Ok.ensures.distinct c.in-Ok.ensures.ends c.in-Ok.ensures.shown
    (rw (same-den c.args.setting.now c.in-Ok.end.optimum.den (number_at c.in-Ok.end.optimum.point) c.in-Ok.end.table c.in-Ok.ensures.shows) at c.sale_worth-value.ensures.value))

pub returns-in-Ok-clause-value : goal.returns-in-Ok-clause-value
returns-in-Ok-clause-value c = record { is_value = (returns-in-Ok-clause-best c).value; least = c.sale_worth-value.ensures.least }

pub returns-in-Ok-clause-settled : goal.returns-in-Ok-clause-settled
returns-in-Ok-clause-settled c = λ cuts optimum ends.
    rw (same-den c.args.setting.now c.in-Ok.end.optimum.den (number_at c.in-Ok.end.optimum.point) c.in-Ok.end.table c.in-Ok.ensures.shows)
    (tells-with c.args.setting.now c.args.width c.sale_worth-value.result c.in-Ok.end.cuts c.in-Ok.end.optimum c.in-Ok.end.table c.in-Ok.ensures.shows cuts optimum (c.in-Ok.ensures.settled cuts optimum ends))

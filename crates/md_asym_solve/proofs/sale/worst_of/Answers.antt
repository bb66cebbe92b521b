use Rattle.std.proofs.Common.{sym, subst}
use mir.Syntax.{w128}
use Rattle.std.proofs.lemmas.Int.{to_z-of_z}
use Rattle.md_math.specs.Lists.{number_at}
use Rattle.md_math.specs.Sizes.{AllWithin}
use Rattle.md_mech.specs.Accepted.{number_limit}
use Rattle.md_asym_tables.specs.Odds.{AreOdds}
use Rattle.md_asym_solve.proofs.SalePrograms.{none-over, odds-fit, pays-small, worst-of}
use Rattle.md_asym_solve.proofs.sale.worst_of.Goals as goal

pub realise_pairs-requires-clause-odds : goal.realise_pairs-requires-clause-odds
realise_pairs-requires-clause-odds c =
    rw (to_z-of_z w128 c.args.den c.ranges.den, c.in_ok-odds.ensures.value)
    (odds-fit c.args.setting.now c.args.den c.args.point.now c.in_ok-odds.ensures.shaped c.requires.point)

pub returns-in_ok-pays-in-Table-clause-none_over : goal.returns-in_ok-pays-in-Table-clause-none_over
returns-in_ok-pays-in-Table-clause-none_over c =
    none-over c.args.setting.now c.args.den (number_at c.args.point.now)
    (rw (c.in-Table.is, to_z-of_z w128 c.args.den c.ranges.den, c.in_ok-odds.ensures.value) at c.in_ok-masses.ensures.none_over)

pub returns-in_ok-pays-in-Table-clause-shows : goal.returns-in_ok-pays-in-Table-clause-shows
returns-in_ok-pays-in-Table-clause-shows c =
    let s = c.args.setting.now in
    record {
      odds_are = c.in_ok-odds.ensures.value;
      pays_are = c.in_ok-pays-in-Table.ensures;
      fits = subst (AreOdds s c.args.den) (sym c.in_ok-odds.ensures.value) (odds-fit s c.args.den c.args.point.now c.in_ok-odds.ensures.shaped c.requires.point);
      pay_size = subst (AllWithin number_limit) (sym c.in_ok-pays-in-Table.ensures) (pays-small s c.args.den c.args.point.now c.requires.point);
      table = rw (c.in-Table.is, to_z-of_z w128 c.args.den c.ranges.den) at c.in_ok-masses.ensures.table;
      implements = rw c.in-Table.is at c.in_ok-masses.ensures.odds;
    }

pub returns-in-Violated-clause-violated : goal.returns-in-Violated-clause-violated
returns-in-Violated-clause-violated c =
    worst-of c.args.setting.now c.args.den (number_at c.args.point.now) c.in-Violated.set
    (rw (c.in-Violated.is, to_z-of_z w128 c.args.den c.ranges.den, c.in_ok-odds.ensures.value) at c.in_ok-masses.ensures.violated)

use Rattle.std.proofs.Common.{subst}
use Rattle.md_flow.specs.Ends.{IsFull, IsEndOf}
use Rattle.md_unit_tables.proofs.FlowLaws.{table-of_flow, implements-of_flow, border-met, worst-of_net}
use Rattle.md_unit_tables.proofs.MechanismLaws.{mechanism-of_table, odds-of_table, pays-of_table, no_mechanism}
use Rattle.md_unit_tables.specs.Tables.{table_of}
use Rattle.md_unit_tables.proofs.realising.realise_units.Goals as goal

full : (c : goal.After-drop-counts-inside-in-Full) → IsFull c.in_ok-net.net c.in-Full.rows
full c = subst (IsEndOf c.in_ok-net.net) c.in-Full.is c.in_ok-rows.ensures

pub returns-in-Full-clause-table : goal.returns-in-Full-clause-table
returns-in-Full-clause-table c =
    table-of_flow c.args.auction.now c.args.units c.args.interim.now c.in_ok-net.net c.in-Full.rows c.requires.fits c.in_ok-net.ensures (full c).one_each (full c).meets

pub returns-in-Full-clause-odds : goal.returns-in-Full-clause-odds
returns-in-Full-clause-odds c = implements-of_flow c.args.auction.now c.args.units c.args.interim.now c.in_ok-net.net c.in-Full.rows c.in_ok-net.ensures (full c).meets

pub returns-in-Full-clause-none_over : goal.returns-in-Full-clause-none_over
returns-in-Full-clause-none_over c =
    border-met c.args.auction.now c.args.units c.args.interim.now c.in_ok-net.net c.requires.fits.den_positive c.in_ok-net.ensures (full c).none_over

pub returns-in-Full-clause-mechanism : goal.returns-in-Full-clause-mechanism
returns-in-Full-clause-mechanism c = λ pays.
    mechanism-of_table c.args.auction.now c.args.units (table_of c.args.interim.now c.in-Full.rows) pays c.in_ok-counts.ensures.shaped (returns-in-Full-clause-table c)

pub returns-in-Full-clause-sufficient : goal.returns-in-Full-clause-sufficient
returns-in-Full-clause-sufficient c = λ pays.
    odds-of_table c.args.auction.now c.args.units c.args.interim.now c.in-Full.rows pays c.in_ok-counts.ensures.shaped (returns-in-Full-clause-table c) (returns-in-Full-clause-odds c)

pub returns-in-Full-clause-pays : goal.returns-in-Full-clause-pays
returns-in-Full-clause-pays c = λ pays. pays-of_table c.args.auction.now c.args.units (table_of c.args.interim.now c.in-Full.rows) pays c.in_ok-counts.ensures.shaped

pub returns-clause-violated : goal.returns-clause-violated
returns-clause-violated c =
    let cut = subst (IsEndOf c.in_ok-net.net) c.in-Cut.is c.in_ok-rows.ensures in
    worst-of_net c.args.auction.now c.args.units c.args.interim.now c.in_ok-net.net c.in-Cut.set c.requires.fits.den_positive c.in_ok-net.ensures cut.worst

pub returns-clause-necessary : goal.returns-clause-necessary
returns-clause-necessary c = λ m mechanism odds.
    no_mechanism c.args.auction.now c.args.units c.args.interim.now c.in-Cut.set m c.requires.fits (returns-clause-violated c) mechanism odds

use Rattle.std.proofs.Common.{◌≡◌, to_z, of_z, subst, lit<}
use mir.Syntax.{w128}
use Rattle.md_math.proofs.Bits.{read_within}
use Rattle.md_mech.specs.Accepted.{number_limit}
use Rattle.md_border.proofs.DemandLaws.{den-within}
use Rattle.md_flow.specs.Ends.{IsFull, IsEndOf}
use Rattle.md_expost.specs.declared.masses.Masses.{Masses}
use Rattle.md_expost.proofs.MechanismLaws.{mechanism-of_masses, odds-of_masses, pays-of_masses}
use Rattle.md_expost.proofs.FlowLaws.{masses-of_flow, implements-of_flow, border-met, worst-of_net, no_mechanism}
use Rattle.md_expost.proofs.realising.realise.Goals as goal

-- the table of a flow
abbrev table : (c : goal.After-drop-counts-inside-in-Full) → Masses
table c = record { den = to_z w128 (of_z w128 c.args.interim.now.den); rows = c.in-Full.rows }

same_den : (c : goal.After-drop-counts-inside-in-Full) → (table c).den ≡ c.args.interim.now.den
same_den c = read_within number_limit c.args.interim.now.den (den-within c.args.auction.now c.args.interim.now c.requires.fits) (lit< tt)

full : (c : goal.After-drop-counts-inside-in-Full) → IsFull c.in_ok-net.net (table c).rows
full c = subst (IsEndOf c.in_ok-net.net) c.in-Full.is c.in_ok-rows.ensures

pub returns-in-Full-clause-table : goal.returns-in-Full-clause-table
returns-in-Full-clause-table c =
    masses-of_flow c.args.auction.now c.args.interim.now c.in_ok-net.net (table c) c.requires.fits c.in_ok-net.ensures (same_den c) (full c).one_each (full c).meets

pub returns-in-Full-clause-odds : goal.returns-in-Full-clause-odds
returns-in-Full-clause-odds c = implements-of_flow c.args.auction.now c.args.interim.now c.in_ok-net.net (table c) c.in_ok-net.ensures (same_den c) (full c).meets

pub returns-in-Full-clause-none_over : goal.returns-in-Full-clause-none_over
returns-in-Full-clause-none_over c =
    border-met c.args.auction.now c.args.interim.now c.in_ok-net.net c.in_ok-net.ensures (full c).none_over

pub returns-in-Full-clause-mechanism : goal.returns-in-Full-clause-mechanism
returns-in-Full-clause-mechanism c = λ pays. mechanism-of_masses c.args.auction.now (table c) pays c.in_ok-counts.ensures.shaped (returns-in-Full-clause-table c)

pub returns-in-Full-clause-sufficient : goal.returns-in-Full-clause-sufficient
returns-in-Full-clause-sufficient c = λ pays.
    odds-of_masses c.args.auction.now c.args.interim.now (table c) pays c.in_ok-counts.ensures.shaped (returns-in-Full-clause-table c) (returns-in-Full-clause-odds c)

pub returns-in-Full-clause-pays : goal.returns-in-Full-clause-pays
returns-in-Full-clause-pays c = λ pays. pays-of_masses c.args.auction.now (table c) pays c.in_ok-counts.ensures.shaped

pub returns-clause-violated : goal.returns-clause-violated
returns-clause-violated c =
    let cut = subst (IsEndOf c.in_ok-net.net) c.in-Cut.is c.in_ok-rows.ensures in
    worst-of_net c.args.auction.now c.args.interim.now c.in_ok-net.net c.in-Cut.set c.in_ok-net.ensures cut.worst

pub returns-clause-necessary : goal.returns-clause-necessary
returns-clause-necessary c = λ m mechanism odds. no_mechanism c.args.auction.now c.args.interim.now c.in-Cut.set m c.requires.fits (returns-clause-violated c) mechanism odds

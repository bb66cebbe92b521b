use Rattle.std.proofs.Common.{◌*◌, ap₂, ◌∙◌, subst, lit<}
use Rattle.md_math.proofs.Bits.{read_within}
use Rattle.md_mech.specs.Accepted.{number_limit}
use Rattle.md_flow.specs.Ends.{IsEndOf}
use Rattle.md_asym_tables.specs.PairNets.{IsNetOf}
use Rattle.md_asym_tables.specs.Tables.{masses_in}
use Rattle.md_asym_tables.proofs.FlowLaws.{nodes-of, demands-of, table-of_flow, implements-of_flow, border-met, worst-of_net}
use Rattle.md_asym_tables.proofs.MechanismLaws.{mechanism-of_table, odds-of_table, pays-of_table}
use Rattle.md_asym_tables.proofs.Necessity.{no_mechanism}
use Rattle.md_asym_tables.proofs.NetLaws.{den-within}
use Rattle.md_asym_tables.proofs.realising.realise_pairs.Goals as goal

pub table_of-requires-clause-one_each : goal.table_of-requires-clause-one_each
table_of-requires-clause-one_each c =
    let s = c.args.setting.now in
    let den = read_within number_limit c.args.den (den-within s c.args.den c.args.odds.now c.requires.odds) (lit< tt) in
    let net : IsNetOf s c.args.den c.args.odds.now c.in_ok-net.net = rw den at c.in_ok-net.ensures.net in
    let full = subst (IsEndOf c.in_ok-net.net) c.in-Full.is c.in_ok-amounts.ensures in
    full.one_each ∙ ap₂ (λ m k. m * k) (nodes-of s c.args.den c.args.odds.now c.in_ok-net.net net) (demands-of s c.args.den c.args.odds.now c.in_ok-net.net net)

pub returns-in-Full-clause-table : goal.returns-in-Full-clause-table
returns-in-Full-clause-table c =
    let s = c.args.setting.now in
    let den = read_within number_limit c.args.den (den-within s c.args.den c.args.odds.now c.requires.odds) (lit< tt) in
    let net : IsNetOf s c.args.den c.args.odds.now c.in_ok-net.net = rw den at c.in_ok-net.ensures.net in
    let full = subst (IsEndOf c.in_ok-net.net) c.in-Full.is c.in_ok-amounts.ensures in
    rw c.in_ok-masses-in-Full.ensures (table-of_flow s c.args.den c.args.odds.now c.in-Full.amounts c.in_ok-net.net net full.meets)

pub returns-in-Full-clause-odds : goal.returns-in-Full-clause-odds
returns-in-Full-clause-odds c =
    let s = c.args.setting.now in
    let den = read_within number_limit c.args.den (den-within s c.args.den c.args.odds.now c.requires.odds) (lit< tt) in
    let net : IsNetOf s c.args.den c.args.odds.now c.in_ok-net.net = rw den at c.in_ok-net.ensures.net in
    let full = subst (IsEndOf c.in_ok-net.net) c.in-Full.is c.in_ok-amounts.ensures in
    rw c.in_ok-masses-in-Full.ensures (implements-of_flow s c.args.den c.args.odds.now c.in-Full.amounts c.in_ok-net.net net full.meets)

pub returns-in-Full-clause-none_over : goal.returns-in-Full-clause-none_over
returns-in-Full-clause-none_over c =
    let s = c.args.setting.now in
    let den = read_within number_limit c.args.den (den-within s c.args.den c.args.odds.now c.requires.odds) (lit< tt) in
    let net : IsNetOf s c.args.den c.args.odds.now c.in_ok-net.net = rw den at c.in_ok-net.ensures.net in
    let full = subst (IsEndOf c.in_ok-net.net) c.in-Full.is c.in_ok-amounts.ensures in
    border-met s c.args.den c.args.odds.now c.in_ok-net.net net full.none_over

pub returns-in-Full-clause-mechanism : goal.returns-in-Full-clause-mechanism
returns-in-Full-clause-mechanism c =
    let s = c.args.setting.now in
    let den = read_within number_limit c.args.den (den-within s c.args.den c.args.odds.now c.requires.odds) (lit< tt) in
    let net : IsNetOf s c.args.den c.args.odds.now c.in_ok-net.net = rw den at c.in_ok-net.ensures.net in
    let full = subst (IsEndOf c.in_ok-net.net) c.in-Full.is c.in_ok-amounts.ensures in
    λ pays.
    rw c.in_ok-masses-in-Full.ensures
    (mechanism-of_table s c.args.den (masses_in s c.in-Full.amounts) pays c.requires.sale c.in_ok-net.ensures.shaped c.requires.odds.den_positive (table-of_flow s c.args.den c.args.odds.now c.in-Full.amounts c.in_ok-net.net net full.meets))

pub returns-in-Full-clause-sufficient : goal.returns-in-Full-clause-sufficient
returns-in-Full-clause-sufficient c =
    let s = c.args.setting.now in
    let den = read_within number_limit c.args.den (den-within s c.args.den c.args.odds.now c.requires.odds) (lit< tt) in
    let net : IsNetOf s c.args.den c.args.odds.now c.in_ok-net.net = rw den at c.in_ok-net.ensures.net in
    let full = subst (IsEndOf c.in_ok-net.net) c.in-Full.is c.in_ok-amounts.ensures in
    λ pays.
    rw c.in_ok-masses-in-Full.ensures
    (odds-of_table s c.args.den c.args.odds.now (masses_in s c.in-Full.amounts) pays c.requires.sale (implements-of_flow s c.args.den c.args.odds.now c.in-Full.amounts c.in_ok-net.net net full.meets))

pub returns-in-Full-clause-pays : goal.returns-in-Full-clause-pays
returns-in-Full-clause-pays c = λ pays. pays-of_table c.args.setting.now c.args.den c.in_ok-masses-in-Full.masses pays

pub returns-clause-violated : goal.returns-clause-violated
returns-clause-violated c =
    let s = c.args.setting.now in
    let den = read_within number_limit c.args.den (den-within s c.args.den c.args.odds.now c.requires.odds) (lit< tt) in
    let net : IsNetOf s c.args.den c.args.odds.now c.in_ok-net.net = rw den at c.in_ok-net.ensures.net in
    let cut = subst (IsEndOf c.in_ok-net.net) c.in-Cut.is c.in_ok-amounts.ensures in
    worst-of_net s c.args.den c.args.odds.now c.in_ok-net.net c.in-Cut.set net cut.worst

pub returns-clause-necessary : goal.returns-clause-necessary
returns-clause-necessary c =
    let s = c.args.setting.now in
    let den = read_within number_limit c.args.den (den-within s c.args.den c.args.odds.now c.requires.odds) (lit< tt) in
    let net : IsNetOf s c.args.den c.args.odds.now c.in_ok-net.net = rw den at c.in_ok-net.ensures.net in
    let cut = subst (IsEndOf c.in_ok-net.net) c.in-Cut.is c.in_ok-amounts.ensures in
    let worst = worst-of_net s c.args.den c.args.odds.now c.in_ok-net.net c.in-Cut.set net cut.worst in
    λ m mechanism has. no_mechanism s m c.args.den c.args.odds.now c.in-Cut.set c.requires.sale c.in_ok-net.ensures.shaped c.requires.odds.den_positive worst mechanism has

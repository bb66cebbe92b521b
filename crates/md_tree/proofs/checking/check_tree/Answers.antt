use Rattle.std.proofs.Common.{◌<◌, ◌≤◌, Option, length, option_map, arith}
use Rattle.std.proofs.lemmas.List.{drop_all}
use Rattle.std.proofs.lemmas.Option.{MatchOption-at_none, MatchOption-at_some}
use Rattle.md_mech.specs.declared.mechanism.Mechanism.{Mechanism}
use Rattle.md_determ_branching.specs.Tour.{current_of}
use Rattle.md_tree.specs.Visits.{IsSoundNode, IsNodeFault}
use Rattle.md_tree.proofs.VisitLaws.{way-open, way-node, way-fault, way-on, way-end}
use Rattle.md_tree.proofs.checking.check_tree.Goals as goal

pub visit-requires-clause-open : goal.visit-requires-clause-open
visit-requires-clause-open c =
    let best : Option Mechanism = option_map (λ m. m.now) c.args.best in
    let below : c.loop-place.place < length c.args.tree.now = omega arith in
    way-open c.args.setting.now best c.args.tree.now c.loop-place.walk c.loop-place.place c.get-node.result.now c.loop-place.invariant below c.get-node.ensures

pub visit-requires-clause-node : goal.visit-requires-clause-node
visit-requires-clause-node c =
    let best : Option Mechanism = option_map (λ m. m.now) c.args.best in
    let below : c.loop-place.place < length c.args.tree.now = omega arith in
    way-node c.args.setting.now best c.args.tree.now c.loop-place.walk c.loop-place.place c.get-node.result.now c.loop-place.invariant below c.get-node.ensures

pub returns-in-Some : goal.returns-in-Some
returns-in-Some c =
    let s = c.args.setting.now in
    let best : Option Mechanism = option_map (λ m. m.now) c.args.best in
    let node = c.get-node.result.now in
    let below : c.loop-place.place < length c.args.tree.now = omega arith in
    way-fault s best c.args.tree.now c.loop-place.walk c.loop-place.place node c.loop-place.invariant below c.get-node.ensures c.in-Some.fault
    (MatchOption-at_some (IsSoundNode s best (current_of c.loop-place.walk) node) (IsNodeFault s best (current_of c.loop-place.walk) node c.loop-place.place) c.in-Some.fault c.in-Some.is c.in_ok-fault.ensures.fault)

pub loop-place-preserved : goal.loop-place-preserved
loop-place-preserved c =
    let s = c.args.setting.now in
    let best : Option Mechanism = option_map (λ m. m.now) c.args.best in
    let node = c.get-node.result.now in
    let below : c.loop-place.place < length c.args.tree.now = omega arith in
    way-on s best c.args.tree.now c.loop-place.walk c.loop-place.place node c.loop-place.invariant below c.get-node.ensures
    c.visit.new.walk c.in_ok-fault.ensures.outcomes c.in_ok-fault.ensures.ranks c.in_ok-fault.ensures.opens
    (MatchOption-at_none (IsSoundNode s best (current_of c.loop-place.walk) node) (IsNodeFault s best (current_of c.loop-place.walk) node c.loop-place.place) c.in_default.is c.in_ok-fault.ensures.fault)

pub returns : goal.returns
returns c =
    let best : Option Mechanism = option_map (λ m. m.now) c.args.best in
    let past : length c.args.tree.now ≤ c.loop-place.place = omega arith in
    way-end c.args.setting.now best c.args.tree.now c.loop-place.walk c.loop-place.place c.loop-place.invariant (drop_all c.loop-place.place c.args.tree.now past)

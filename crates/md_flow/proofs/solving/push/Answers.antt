use Rattle.std.proofs.Common.{pos, to_z, arith}
use Rattle.std.proofs.lemmas.Int.{ints, to_z_pos}
use mir.Syntax.{w128}
use Rattle.md_flow.specs.Network.{node_count, demand_count}
use Rattle.md_flow.specs.Paths.{node_at, demand_at, last_of}
use Rattle.md_flow.specs.Tables.{flow_of}
use Rattle.md_flow.proofs.StepLaws.{IsShifted-sizes, cap_left, want_left, IsStep, AreLabels-step, IsPartFlow-step}
use Rattle.md_flow.proofs.Potential.{potential-step}
use Rattle.md_flow.proofs.solving.push.Goals as goal

pub augment-requires-clause-cap : goal.augment-requires-clause-cap
augment-requires-clause-cap g c =
    let read = to_z_pos w128 c.bottleneck-amount.result (omega (arith, c.bottleneck-amount.ensures.small)) in
    cap_left c.args.net.now (flow_of c.args.flow.now) (node_at c.args.path.now 0) c.args.flow.now.demands c.bottleneck-amount.result (to_z w128 c.bottleneck-amount.result) c.requires.demands read c.bottleneck-amount.ensures.least.spare

pub augment-requires-clause-want : goal.augment-requires-clause-want
augment-requires-clause-want g c =
    let read = to_z_pos w128 c.bottleneck-amount.result (omega (arith, c.bottleneck-amount.ensures.small)) in
    want_left c.args.net.now (flow_of c.args.flow.now) (demand_at c.args.path.now (last_of c.args.path.now)) c.args.flow.now.nodes c.bottleneck-amount.result (to_z w128 c.bottleneck-amount.result) c.requires.nodes read c.bottleneck-amount.ensures.least.lack

pub returns-clause-part : goal.returns-clause-part
returns-clause-part g c =
    let read = to_z_pos w128 c.bottleneck-amount.result (omega (arith, c.bottleneck-amount.ensures.small)) in
    let h : IsStep c.args.net.now (flow_of c.args.flow.now) (flow_of c.augment.new.self) c.args.path.now (pos c.bottleneck-amount.result) = record {
      part = c.requires.part;
      way = c.requires.path;
      bottleneck = c.bottleneck-amount.ensures.least;
      shifted = IsShifted-sizes c.args.flow.now.nodes c.args.flow.now.demands (node_count c.args.net.now) (demand_count c.args.net.now) (last_of c.args.path.now) (node_at c.args.path.now) (demand_at c.args.path.now) (to_z w128 c.bottleneck-amount.result) (pos c.bottleneck-amount.result) (flow_of c.args.flow.now) (flow_of c.augment.new.self) c.requires.nodes c.requires.demands read c.augment.ensures.amounts;
      nonneg = λ u d. omega (arith, ints);
    } in
    IsPartFlow-step c.args.net.now (flow_of c.args.flow.now) (flow_of c.augment.new.self) c.args.path.now (pos c.bottleneck-amount.result) h

pub returns-clause-labels : goal.returns-clause-labels
returns-clause-labels g c = λ nodes demands labels levelled.
    let read = to_z_pos w128 c.bottleneck-amount.result (omega (arith, c.bottleneck-amount.ensures.small)) in
    let h : IsStep c.args.net.now (flow_of c.args.flow.now) (flow_of c.augment.new.self) c.args.path.now (pos c.bottleneck-amount.result) = record {
      part = c.requires.part;
      way = c.requires.path;
      bottleneck = c.bottleneck-amount.ensures.least;
      shifted = IsShifted-sizes c.args.flow.now.nodes c.args.flow.now.demands (node_count c.args.net.now) (demand_count c.args.net.now) (last_of c.args.path.now) (node_at c.args.path.now) (demand_at c.args.path.now) (to_z w128 c.bottleneck-amount.result) (pos c.bottleneck-amount.result) (flow_of c.args.flow.now) (flow_of c.augment.new.self) c.requires.nodes c.requires.demands read c.augment.ensures.amounts;
      nonneg = λ u d. omega (arith, ints);
    } in
    AreLabels-step c.args.net.now (flow_of c.args.flow.now) (flow_of c.augment.new.self) nodes demands c.args.path.now (pos c.bottleneck-amount.result) h labels levelled

pub returns-clause-cost : goal.returns-clause-cost
returns-clause-cost g c = λ nodes demands labels levelled.
    let read = to_z_pos w128 c.bottleneck-amount.result (omega (arith, c.bottleneck-amount.ensures.small)) in
    let h : IsStep c.args.net.now (flow_of c.args.flow.now) (flow_of c.augment.new.self) c.args.path.now (pos c.bottleneck-amount.result) = record {
      part = c.requires.part;
      way = c.requires.path;
      bottleneck = c.bottleneck-amount.ensures.least;
      shifted = IsShifted-sizes c.args.flow.now.nodes c.args.flow.now.demands (node_count c.args.net.now) (demand_count c.args.net.now) (last_of c.args.path.now) (node_at c.args.path.now) (demand_at c.args.path.now) (to_z w128 c.bottleneck-amount.result) (pos c.bottleneck-amount.result) (flow_of c.args.flow.now) (flow_of c.augment.new.self) c.requires.nodes c.requires.demands read c.augment.ensures.amounts;
      nonneg = λ u d. omega (arith, ints);
    } in
    potential-step c.args.net.now (flow_of c.args.flow.now) (flow_of c.augment.new.self) nodes demands c.args.path.now (pos c.bottleneck-amount.result) (record { step = h; labels = labels; levelled = levelled })

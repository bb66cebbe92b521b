use Rattle.std.proofs.Common.{◌<◌, ◌∙◌, arith}
use Rattle.md_math.specs.Sets.{member}
use Rattle.md_flow.specs.Network.{demand_count}
use Rattle.md_flow.specs.Flows.{amount_in}
use Rattle.md_flow.specs.Tables.{flow_of}
use Rattle.md_flow.proofs.Worst.{IsUnreached, IsWorst-end, carried-end, Meets-end, NoneOver-meets}
use Rattle.md_flow.proofs.Listed.{listed, listed-length, IsPartFlow-same, Meets-same, carried-same}
use Rattle.md_flow.proofs.solving.conclude.Goals as goal

pub returns-then-first_lacking-demands : goal.returns-then-first_lacking-demands
returns-then-first_lacking-demands c =
    let same = listed c.args.net.now c.args.flow.now.nodes c.args.flow.now.demands (flow_of c.args.flow.now) c.in_ok-amounts.amounts c.requires.nodes c.requires.demands c.in_ok-amounts.ensures.at in
    let meets = Meets-end c.args.net.now (flow_of c.args.flow.now) c.requires.part (c.first_lacking.ensures.none (omega (arith, c.if-first_lacking-demands.true, c.demands.ensures.value))) in
    record {
      meets = Meets-same c.args.net.now (flow_of c.args.flow.now) (amount_in c.args.net.now c.in_ok-amounts.amounts) meets same;
      one_each = listed-length c.args.net.now c.args.flow.now.nodes c.args.flow.now.demands c.in_ok-amounts.amounts c.requires.nodes c.requires.demands c.in_ok-amounts.ensures.length;
      none_over = NoneOver-meets c.args.net.now (flow_of c.args.flow.now) meets;
    }

pub returns : goal.returns
returns c =
    let same = listed c.args.net.now c.args.flow.now.nodes c.args.flow.now.demands (flow_of c.args.flow.now) c.in_ok-amounts.amounts c.requires.nodes c.requires.demands c.in_ok-amounts.ensures.at in
    let unreached : IsUnreached c.args.net.now c.args.labels.now.demands.items (member c.unreached.result) = record { is = c.unreached.ensures.members } in
    let inside : c.first_lacking.result < demand_count c.args.net.now = omega (arith, c.if-first_lacking-demands.false, c.demands.ensures.value) in
    record {
      worst = IsWorst-end c.args.net.now (flow_of c.args.flow.now) c.args.labels.now.nodes.items c.args.labels.now.demands.items c.unreached.result c.unreached.ensures.size c.requires.part c.requires.labels c.requires.reached c.requires.full unreached c.first_lacking.result inside (c.first_lacking.ensures.lacks inside);
      one_each = listed-length c.args.net.now c.args.flow.now.nodes c.args.flow.now.demands c.in_ok-amounts.amounts c.requires.nodes c.requires.demands c.in_ok-amounts.ensures.length;
      part = IsPartFlow-same c.args.net.now (flow_of c.args.flow.now) (amount_in c.args.net.now c.in_ok-amounts.amounts) c.requires.part same;
      carries = carried-same c.args.net.now (flow_of c.args.flow.now) (amount_in c.args.net.now c.in_ok-amounts.amounts) same ∙ carried-end c.args.net.now (flow_of c.args.flow.now) c.args.labels.now.nodes.items c.args.labels.now.demands.items (member c.unreached.result) c.requires.part c.requires.labels c.requires.reached c.requires.full unreached;
    }

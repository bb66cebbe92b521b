use Rattle.std.proofs.Common.{Ok, ap, arith}
use Rattle.md_math.proofs.Ring.{linear}
use Rattle.md_flow.specs.Tables.{flow_of}
use Rattle.md_flow.proofs.LabelLaws.{AreLinked-reached}
use Rattle.md_flow.proofs.StepLaws.{IsPath-levelled}
use Rattle.md_flow.proofs.Potential.{potential-raised}
use Rattle.md_flow.proofs.solving.turn.Goals as goal

pub push-requires-clause-path : goal.push-requires-clause-path
push-requires-clause-path g c =
    IsPath-levelled c.args.net.now (flow_of c.args.flow.now) c.args.labels.now.nodes.items c.args.labels.now.demands.items c.in-Some.path c.requires.labels (rw c.in-Some.is at c.in_ok-path.ensures.found)

pub returns-then-fresh-clause-done : goal.returns-then-fresh-clause-done
returns-then-fresh-clause-done g c = λ _.
    let reached = c.requires.reached c.if-fresh.true in
    let linked = AreLinked-reached c.args.net.now (flow_of c.args.flow.now) c.args.labels.now.nodes.items c.args.labels.now.demands.items c.requires.labels reached in
    (reached, c.in_ok-path.ensures.none (ap (λ o. Ok o) c.in-None.is) c.if-fresh.true linked)

pub returns-in-Some-clause-cost : goal.returns-in-Some-clause-cost
returns-in-Some-clause-cost g c =
    let less = c.push.ensures.cost c.args.labels.now.nodes.items c.args.labels.now.demands.items c.requires.labels (rw c.in-Some.is at c.in_ok-path.ensures.found) in
    omega (arith, linear, less, c.push.ensures.step)

pub returns-else-fresh-clause-cost : goal.returns-else-fresh-clause-cost
returns-else-fresh-clause-cost g c =
    let less = potential-raised c.args.net.now (flow_of c.args.flow.now) c.args.labels.now.nodes.items c.args.labels.now.demands.items c.renew.new.self.nodes.items c.renew.new.self.demands.items c.renew.ensures.raised in
    omega (arith, linear, less)

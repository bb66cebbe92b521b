use Rattle.std.proofs.Common.{◌≡◌, ap, ◌∙◌, Ok, Some, arith}
use Rattle.std.proofs.lemmas.Bool.{false≢true}
use Rattle.md_math.proofs.Ring.{linear}
use Rattle.md_flow.specs.Potential.{potential}
use Rattle.md_flow.specs.Tables.{flow_of}
use Rattle.md_flow.proofs.LabelLaws.{AreLabels-zeros}
use Rattle.md_flow.proofs.Potential.{bound-nonneg, potential-nonneg, potential-most, turn_smaller}
use Rattle.md_flow.proofs.solving.send.Goals as goal

pub returns-in_err-labels-clause-cost : goal.returns-in_err-labels-clause-cost
returns-in_err-labels-clause-cost g c = omega (arith, linear, bound-nonneg c.args.net.now)

pub returns-in_err-search-clause-cost : goal.returns-in_err-search-clause-cost
returns-in_err-search-clause-cost g c = omega (arith, linear, bound-nonneg c.args.net.now)

pub turns-init : goal.turns-init
turns-init g c =
    let most = potential-most c.args.net.now (flow_of c.args.flow.now) c.in_ok-labels.labels.nodes.items c.in_ok-labels.labels.demands.items in
    record {
      nodes = c.requires.nodes;
      demands = c.requires.demands;
      part = c.requires.part;
      labels = rw (c.in_ok-labels.ensures.nodes, c.in_ok-labels.ensures.demands) (AreLabels-zeros c.args.net.now (flow_of c.args.flow.now));
      reached = λ e. absurd (false≢true e);
      entries = c.in_ok-search.ensures.entries;
      before = c.in_ok-search.ensures.before;
      places = c.in_ok-search.ensures.places;
      counted = omega arith;
      cost = omega (arith, linear, most);
    }

pub returns-in_err-next-clause-cost : goal.returns-in_err-next-clause-cost
returns-in_err-next-clause-cost g c =
    let left = potential-nonneg c.args.net.now (flow_of c.turn.new.flow) c.turn.new.labels.nodes.items c.turn.new.labels.demands.items in
    let before = c.turns.invariant.cost in
    let turn = c.turn.ensures.cost in
    omega (arith, linear, left, before, turn)

pub returns-in_default-clause-cost : goal.returns-in_default-clause-cost
returns-in_default-clause-cost g c =
    let left = potential-nonneg c.args.net.now (flow_of c.turn.new.flow) c.turn.new.labels.nodes.items c.turn.new.labels.demands.items in
    let before = c.turns.invariant.cost in
    let turn = c.turn.ensures.cost in
    omega (arith, linear, left, before, turn)

pub turns-smaller : goal.turns-smaller
turns-smaller g c =
    let is : c.turn.result ≡ Ok (Some c.in-Some.next) = c.in_ok-next.was ∙ ap (λ o. Ok o) c.in-Some.is in
    turn_smaller c.turns.fresh c.in-Some.next (potential c.args.net.now (flow_of c.turns.flow) c.turns.labels.nodes.items c.turns.labels.demands.items) (potential c.args.net.now (flow_of c.turn.new.flow) c.turn.new.labels.nodes.items c.turn.new.labels.demands.items) c.turns.steps c.turn.new.steps
    (potential-nonneg c.args.net.now (flow_of c.turns.flow) c.turns.labels.nodes.items c.turns.labels.demands.items)
    (potential-nonneg c.args.net.now (flow_of c.turn.new.flow) c.turn.new.labels.nodes.items c.turn.new.labels.demands.items)
    c.turn.ensures.cost c.turn.ensures.counted
    (λ e. c.turn.ensures.stepped (is ∙ ap (λ b. Ok (Some b)) e))
    (λ e. (c.turn.ensures.renewed (is ∙ ap (λ b. Ok (Some b)) e)).0)

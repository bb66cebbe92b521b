use Rattle.std.proofs.Common.{◌≡◌, ◌+◌, ◌-◌, ◌*◌, unsigned_abs, sym, ap, ◌∙◌, arith}
use Rattle.md_math.specs.Lists.{number_at}
use Rattle.md_flow.specs.Labels.{spare_at, lack_at}
use Rattle.md_flow.specs.Paths.{last_of, node_at, demand_at}
use Rattle.md_flow.specs.Tables.{flow_of}
use Rattle.md_flow.proofs.Bottlenecks.{IsBottleneck-least, lesser_some, spare_read, lack_read}
use Rattle.md_flow.proofs.solving.bottleneck.Goals as goal

pub number-first-requires-clause-small : goal.number-first-requires-clause-small
number-first-requires-clause-small c = omega (arith, c.requires.path.route.nodes_in 0 (omega arith), c.requires.net.few_nodes)

pub cap-requires : goal.cap-requires
cap-requires c = omega (arith, c.number-first.ensures, c.requires.path.route.nodes_in 0 (omega arith))

pub sent-requires : goal.sent-requires
sent-requires c = omega (arith, c.number-first.ensures, c.requires.path.route.nodes_in 0 (omega arith), c.requires.nodes)

pub least_room-most-requires-clause-some : goal.least_room-most-requires-clause-some
least_room-most-requires-clause-some c =
    let last : 2 * last_of c.args.path.now + 1 ≡ c.len.result - 1 = omega (arith, c.len.ensures, c.requires.path.route.whole) in
    let end : c.number-end.result ≡ demand_at c.args.path.now (last_of c.args.path.now) = c.number-end.ensures ∙ ap (λ k. unsigned_abs (number_at c.args.path.now k)) (sym last) in
    let spare = spare_read c.args.net.now (flow_of c.args.flow.now) (node_at c.args.path.now 0) c.number-first.result c.args.flow.now.demands c.cap.result c.sent.result c.number-first.ensures c.requires.demands c.cap.ensures.value c.sent.ensures c.requires.path.spare in
    let lack = lack_read c.args.net.now (flow_of c.args.flow.now) (demand_at c.args.path.now (last_of c.args.path.now)) c.number-end.result c.args.flow.now.nodes c.want.result c.got.result end c.requires.nodes c.want.ensures.value c.got.ensures c.requires.path.lacking in
    lesser_some (c.cap.result - c.sent.result) (c.want.result - c.got.result) c.lesser.result (spare_at c.args.net.now (flow_of c.args.flow.now) (node_at c.args.path.now 0)) (lack_at c.args.net.now (flow_of c.args.flow.now) (demand_at c.args.path.now (last_of c.args.path.now))) spare lack c.requires.path.spare c.requires.path.lacking c.lesser.ensures

pub returns-clause-least : goal.returns-clause-least
returns-clause-least c =
    let last : 2 * last_of c.args.path.now + 1 ≡ c.len.result - 1 = omega (arith, c.len.ensures, c.requires.path.route.whole) in
    let end : c.number-end.result ≡ demand_at c.args.path.now (last_of c.args.path.now) = c.number-end.ensures ∙ ap (λ k. unsigned_abs (number_at c.args.path.now k)) (sym last) in
    let spare = spare_read c.args.net.now (flow_of c.args.flow.now) (node_at c.args.path.now 0) c.number-first.result c.args.flow.now.demands c.cap.result c.sent.result c.number-first.ensures c.requires.demands c.cap.ensures.value c.sent.ensures c.requires.path.spare in
    let lack = lack_read c.args.net.now (flow_of c.args.flow.now) (demand_at c.args.path.now (last_of c.args.path.now)) c.number-end.result c.args.flow.now.nodes c.want.result c.got.result end c.requires.nodes c.want.ensures.value c.got.ensures c.requires.path.lacking in
    IsBottleneck-least c.args.net.now (flow_of c.args.flow.now) c.args.path.now (c.cap.result - c.sent.result) (c.want.result - c.got.result) c.lesser.result c.least_room-most.result c.least_carried.result spare lack c.lesser.ensures c.least_room-most.ensures.most c.least_room-most.ensures.fits c.least_room-most.ensures.reached c.least_carried.ensures.some c.least_carried.ensures.most c.least_carried.ensures.enough c.least_carried.ensures.reached

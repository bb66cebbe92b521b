use Rattle.std.proofs.Common.{◌<◌, arith}
use Rattle.std.proofs.lemmas.List.{get_or_read}
use Rattle.md_flow.specs.Labels.{label_at}
use Rattle.md_flow.specs.Tables.{flow_of}
use Rattle.md_flow.proofs.SearchLaws.{OnOk-map}
use Rattle.md_flow.proofs.SearchLaws.{IsTrail-more}
use Rattle.md_flow.proofs.search.+trace.Goals as goal

pub returns : goal.returns
returns t c =
    let search = c.args.search.now in
    let label = get_or_read c.args.labels.now.items c.args.demand c.index.result.now (omega (arith, c.requires.demand, c.requires.labels)) c.index.ensures 0 in
    let before = get_or_read search.before.items c.args.demand c.index-2.result.now (omega (arith, c.requires.demand, c.requires.entries.one_before)) c.index-2.ensures 0 in
    let entry = get_or_read search.entries.items c.args.demand c.index-3.result.now (omega (arith, c.requires.demand, c.requires.entries.one_entry)) c.index-3.ensures 0 in
    let some : 0 < label_at c.args.labels.now.items c.args.demand = omega (arith, label, c.if-index-eq0.false) in
    let trail = rw before at c.in_ok-trace.ensures in
    OnOk-map c.push_pair-2.result (λ e. IsTrail-more c.args.net.now (flow_of c.args.flow.now) c.args.labels.now.items search.entries.items search.before.items c.trace.new.path c.push_pair-2.new.path c.args.demand c.requires.entries c.requires.demand c.requires.known some trail (rw entry at e)) c.push_pair-2.ensures

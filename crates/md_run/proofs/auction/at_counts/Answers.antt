use Rattle.std.proofs.Common.{◌≡◌, arith, ap, ◌∙◌, sym, length}
use Rattle.std.specs.List.{sum}
use Rattle.md_setting.specs.Auction.{value_count}
use Rattle.md_counts.specs.Weights.{counts_of}
use Rattle.md_counts.proofs.ListsOfValues.{counts_of-AreCounts}
use Rattle.md_run.proofs.ReportLaws.{reports-length}
use Rattle.md_run.proofs.auction.at_counts.Goals as goal

listed : (c : goal.After-deref) → c.deref.result.now ≡ counts_of (value_count c.args.auction.now) c.args.profile.now
listed c = c.deref.ensures.value ∙ c.in_ok-counts.ensures ∙ ap (λ n. counts_of n c.args.profile.now) c.kinds.ensures.count

pub counts_of-requires : goal.counts_of-requires
counts_of-requires c =
    let a = c.args.auction.now in
    record { few = omega (arith, reports-length a.bidders (value_count a) c.args.profile.now c.requires.reports, c.kinds.ensures.shaped.few_bidders) }

pub rank-rank-requires-clause-one_each : goal.rank-rank-requires-clause-one_each
rank-rank-requires-clause-one_each c =
    let a = c.args.auction.now in
    ap length (listed c) ∙ (counts_of-AreCounts a.bidders (value_count a) c.args.profile.now c.requires.reports).one_each ∙ sym (ap (λ n. n.kinds) c.in_ok-lists.ensures.ok)

pub rank-rank-requires-clause-add : goal.rank-rank-requires-clause-add
rank-rank-requires-clause-add c =
    let a = c.args.auction.now in
    ap sum (listed c) ∙ (counts_of-AreCounts a.bidders (value_count a) c.args.profile.now c.requires.reports).add ∙ sym (ap (λ n. n.bidders) c.in_ok-lists.ensures.ok)

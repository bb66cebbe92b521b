use Rattle.std.proofs.Common.{◌<◌, ap, sym, ◌∙◌, subst, length}
use Rattle.md_setting.specs.CountLists.{count_lists}
use Rattle.md_counts.specs.Counts.{counts_at}
use Rattle.md_counts.proofs.KeptLaws.{IsCut, cut}
use Rattle.md_counts.proofs.RankLaws.{ranked}
use Rattle.md_counts.proofs.counts.Counts.list.Goals as goal

pub slice_bounds-result-end : goal.slice_bounds-result-end
slice_bounds-result-end c =
    let s = c.self.inside in
    let inside = subst (λ v. c.args.rank < length (count_lists v.bidders v.kinds)) (sym c.self.view_is) c.requires.rank_in in
    let part : IsCut s.bidders s.kinds c.args.rank c.deref.result.now = cut s.bidders s.kinds c.args.rank c.deref.result.now (c.deref.ensures.value ∙ c.self.invariant.table_is) inside in
    part.inside

pub returns-clause-value : goal.returns-clause-value
returns-clause-value c =
    let s = c.self.inside in
    let inside = subst (λ v. c.args.rank < length (count_lists v.bidders v.kinds)) (sym c.self.view_is) c.requires.rank_in in
    let part : IsCut s.bidders s.kinds c.args.rank c.deref.result.now = cut s.bidders s.kinds c.args.rank c.deref.result.now (c.deref.ensures.value ∙ c.self.invariant.table_is) inside in
    part.list ∙ ap (λ v. counts_at v.bidders v.kinds c.args.rank) c.self.view_is

pub returns-clause-counts : goal.returns-clause-counts
returns-clause-counts c = (ranked c.args.self.now.kinds c.args.self.now.bidders c.args.rank c.requires.rank_in).counts

use Rattle.std.proofs.Common.{arith}
use Rattle.md_counts.proofs.RankLaws.{lists_before-ways}
use Rattle.md_counts.proofs.ways.Ways.before.Goals as goal

pub overflow_sub-result : goal.overflow_sub-result
overflow_sub-result c = omega (arith, c.lists.ensures, c.lists-2.ensures, lists_before-ways c.args.bidders c.args.others c.args.first c.requires.first)

pub returns : goal.returns
returns c = omega (arith, c.lists.ensures, c.lists-2.ensures, lists_before-ways c.args.bidders c.args.others c.args.first c.requires.first)

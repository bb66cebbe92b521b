use Rattle.std.proofs.Common.{◌<◌, sym, subst}
use Rattle.md_setting.specs.Grouped.{group_at}
use Rattle.md_list_check.proofs.DividedLaws.{divisor-is, divisor-positive}
use Rattle.md_list_check.proofs.divisors.group_divisor.Goals as goal

pub returns-clause-value : goal.returns-clause-value
returns-clause-value c =
    divisor-is (group_at c.args.auction.now c.args.group) c.weights.result.now c.divisor_of.result (c.weights.ensures.shaped.ordered.group c.args.group c.requires) c.weights.ensures.value c.divisor_of.ensures

pub returns-clause-positive : goal.returns-clause-positive
returns-clause-positive c = subst (λ n. 0 < n) (sym (returns-clause-value c)) (divisor-positive (group_at c.args.auction.now c.args.group).weights)

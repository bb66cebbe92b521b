use Rattle.std.proofs.Common.{◌≡◌, ◌+◌, length, subst, sym, arith}
use Rattle.md_math.proofs.Builders.{length-list_to}
use Rattle.md_setting.specs.Auction.{value_count}
use Rattle.md_reduced.specs.declared.condition.ReducedCondition.TheVariants.{Rational}
use Rattle.md_reduced.specs.Conditions.{conditions_of, rationals}
use Rattle.md_reduced.proofs.ConditionLaws.{conditions-length, truths-length}
use Rattle.md_report.proofs.BlockLaws.{StandsAt}
use Rattle.md_auction_report.proofs.GreatestLaws.{stands-rationals, greatest-block}
use Rattle.md_auction_report.proofs.worst.loss.Goals as goal

pub greatest_of-requires-clause-some : goal.greatest_of-requires-clause-some
greatest_of-requires-clause-some c = omega (arith, c.kinds.ensures.count, c.kinds.ensures.shaped.some_value)

pub greatest_of-requires-clause-inside : goal.greatest_of-requires-clause-inside
greatest_of-requires-clause-inside c =
    let n = value_count c.args.auction.now in
    omega (arith, c.truth_rows-start.ensures.count, truths-length n, conditions-length n c.args.cuts.now, c.kinds.ensures.count)

pub returns : goal.returns
returns c =
    let n = value_count c.args.auction.now in
    let start = c.truth_rows-start.result in
    let whole : start + c.kinds.result ≡ start + length (rationals n) = omega (arith, c.kinds.ensures.count, length-list_to n Rational) in
    greatest-block c.args.auction.now c.args.units c.args.interim.now c.args.cuts.now (rationals n) start (start + c.kinds.result) c.greatest_of.result
    (subst (λ k. StandsAt k (rationals n) (conditions_of n c.args.cuts.now)) (sym c.truth_rows-start.ensures.count) (stands-rationals n c.args.cuts.now)) whole c.greatest_of.ensures

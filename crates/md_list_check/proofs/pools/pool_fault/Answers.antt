use Rattle.std.proofs.Common.{◌^◌, ◌∙◌, lit<}
use Rattle.md_math.proofs.Bits.{read_result, read_within}
use Rattle.md_list.specs.Lists.{rank_of}
use Rattle.md_list_gains.specs.GroupSums.{AreSumsOf}
use Rattle.md_list_check.proofs.LevelLaws.{pool-here}
use Rattle.md_list_check.proofs.VerdictLaws.{is-multiple, gain-side, weight-side, pool-fault}
use Rattle.md_list_check.proofs.pools.pool_fault.Goals as goal

pub returns-in_default : goal.returns-in_default
returns-in_default c =
    let sums : AreSumsOf c.args.auction.now c.args.rank.group c.deref.result.now = rw c.deref.ensures.value c.in_ok-places.ensures.sums in
    pool-here c.args.auction.now (rank_of c.args.rank) c.args.level.now c.deref.result.now sums c.requires.rank c.requires.level c.in_default.ensures.value

pub in_least_terms-requires-clause-exact : goal.in_least_terms-requires-clause-exact
in_least_terms-requires-clause-exact c =
    let sums : AreSumsOf c.args.auction.now c.args.rank.group c.deref.result.now = rw c.deref.ensures.value c.in_ok-places.ensures.sums in
    let left = c.in-Some.sides.left in
    rw (read_within (2 ^ 121) left c.in-Some.ensures.sizes.0 (lit< tt))
    (is-multiple c.args.auction.now c.args.rank.group left _
    (gain-side c.args.auction.now (rank_of c.args.rank) c.args.level.now c.deref.result.now sums c.requires.rank c.in-Some.sides.value left c.in-Some.ensures.value.below c.in-Some.ensures.sides.0))

pub in_least_terms-requires-2-clause-exact : goal.in_least_terms-requires-2-clause-exact
in_least_terms-requires-2-clause-exact c =
    let sums : AreSumsOf c.args.auction.now c.args.rank.group c.deref.result.now = rw c.deref.ensures.value c.in_ok-places.ensures.sums in
    let right = c.in-Some.sides.right in
    rw (read_within (2 ^ 121) right c.in-Some.ensures.sizes.1 (lit< tt))
    (is-multiple c.args.auction.now c.args.rank.group right _
    (weight-side c.args.auction.now (rank_of c.args.rank) c.args.level.now c.deref.result.now sums c.requires.rank c.in-Some.sides.value right c.in-Some.ensures.value.below c.in-Some.ensures.sides.1))

pub returns : goal.returns
returns c =
    let sums : AreSumsOf c.args.auction.now c.args.rank.group c.deref.result.now = rw c.deref.ensures.value c.in_ok-places.ensures.sums in
    let left = c.in-Some.sides.left in
    let right = c.in-Some.sides.right in
    rw (read_result c.in_least_terms.result c.in_least_terms.type_inv, read_result c.in_least_terms-2.result c.in_least_terms-2.type_inv)
    (pool-fault c.args.auction.now (rank_of c.args.rank) c.args.level.now c.deref.result.now sums c.requires.rank c.in-Some.sides.value left right c.in_least_terms.result c.in_least_terms-2.result c.in-Some.ensures.value
    c.in-Some.ensures.sides.0 c.in-Some.ensures.sides.1 (c.in_least_terms.ensures ∙ read_within (2 ^ 121) left c.in-Some.ensures.sizes.0 (lit< tt))
    (c.in_least_terms-2.ensures ∙ read_within (2 ^ 121) right c.in-Some.ensures.sizes.1 (lit< tt)))

use Rattle.std.proofs.Common.{[], ◌∷◌, ◌++◌, None, if◌then◌else◌, sym, subst, arith}
use Rattle.md_math.proofs.Builders.{up_to-more}
use Rattle.md_iron_values.specs.Cuts.{begins}
use Rattle.md_iron_pools.specs.Pooling.{pools_of}
use Rattle.md_threshold.specs.PriceLists.{AddsPrices, case_for, other_cases}
use Rattle.md_threshold.proofs.PriceListLaws.{adds-more, none-case}
use Rattle.md_threshold.proofs.price_list.push_pool.Goals as goal

pub push_case-requires-clause-is_case : goal.push_case-requires-clause-is_case
push_case-requires-clause-is_case c = none-case c.args.auction.now (pools_of c.args.pools.now) c.args.pool c.kinds-shaped.ensures.shaped c.requires.pooling.pooled c.requires.pool c.requires.begins

pub overflow_add-other-end : goal.overflow_add-other-end
overflow_add-other-end c = omega (arith, c.requires.pool, c.kinds-shaped.ensures.shaped.few_values)

pub loop-other-preserved : goal.loop-other-preserved
loop-other-preserved c =
    let a = c.args.auction.now in
    let pools = pools_of c.args.pools.now in
    subst (λ cases. AddsPrices a pools ((case_for c.args.pool None 0 ∷ []) ++ cases) c.args.rows.now.items c.push_if_other.new.rows.items)
    (sym (up_to-more c.loop-other.other (λ other. if begins pools other then other_cases a c.args.pool other else [])))
    (adds-more a pools _ _ _ _ _ c.loop-other.invariant c.in_ok-push_if_other.ensures)

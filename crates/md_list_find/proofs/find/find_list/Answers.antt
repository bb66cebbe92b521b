use Rattle.std.proofs.Common.{ℕ, ◌<◌, ◌<ℤ◌, List, length, map, pos, sym, ap, ◌∙◌, subst, arith}
use Rattle.std.proofs.lemmas.List.Elements.{All-from_get_or}
use Rattle.md_list.proofs.PromiseLaws.{keeps-promises}
use Rattle.md_list_laws.proofs.Best.{valid-best}
use Rattle.md_list_laws.proofs.ByRule.{valid-by_rule}
use Rattle.md_list_find.specs.declared.order.Pool.{Pool}
use Rattle.md_list_find.specs.GroupSums.{ranked_of}
use Rattle.md_list_find.specs.Levels.{IsShortLevel, AreLevelsOf}
use Rattle.md_list_find.specs.Places.{pool_at}
use Rattle.md_list_find.proofs.Found.{weight-positive, found-by_rule}
use Rattle.md_list_find.proofs.find.find_list.Goals as goal

pub levels-requires-clause-positive : goal.levels-requires-clause-positive
levels-requires-clause-positive c =
    subst (λ ps. (p : ℕ) → p < length ps → pos 0 <ℤ (pool_at ps p).sums.weight) (sym c.deref-2.ensures.value)
    (weight-positive c.args.auction.now c.in_ok-pools.ensures.shaped.ordered c.in_ok-pools.pools.items c.in_ok-pools.ensures.listed)

pub returns-clause-by_rule : goal.returns-clause-by_rule
returns-clause-by_rule c =
    let pools : List Pool = c.in_ok-pools.pools.items in
    found-by_rule c.args.auction.now c.in_ok-pools.ensures.shaped.ordered pools c.in_ok-pools.ensures.listed c.in_ok-ranks.field-0.items c.in_ok-levels.field-0.items
    (c.in_ok-ranks.ensures ∙ ap (λ ps. map ranked_of ps) c.deref.ensures.value)
    (subst (λ ps. AreLevelsOf ps (length ps) c.in_ok-levels.field-0.items) c.deref-2.ensures.value c.in_ok-levels.ensures)

pub returns-clause-short : goal.returns-clause-short
returns-clause-short c =
    All-from_get_or IsShortLevel c.in_ok-levels.field-0.items (record { num = pos 0; den = pos 1 })
    (λ p b. (c.in_ok-levels.ensures.each p (omega (arith, b, c.in_ok-levels.ensures.one_each))).short)

pub returns-clause-valid : goal.returns-clause-valid
returns-clause-valid c = valid-by_rule c.args.auction.now _ _ c.in_ok-pools.ensures.shaped.ordered (returns-clause-by_rule c)

pub returns-clause-promises : goal.returns-clause-promises
returns-clause-promises c = keeps-promises c.args.auction.now _ c.in_ok-pools.ensures.shaped.ordered (returns-clause-by_rule c).form

pub returns-clause-best : goal.returns-clause-best
returns-clause-best c =
    valid-best c.args.auction.now _ _ c.in_ok-pools.ensures.shaped.ordered (returns-clause-valid c) (returns-clause-promises c).admissible

use Rattle.std.proofs.Common.{◌≡◌, inl, inr, subst, arith}
use Rattle.std.proofs.lemmas.Bool.{cases_lt}
use Rattle.md_math.specs.LexOrder.{IsPairNonNegative}
use Rattle.md_list_gains.specs.Places.{more_gain_by, more_benefit_by}
use Rattle.md_list_find.specs.Places.{pool_at}
use Rattle.md_list_find.proofs.order.place_for.Goals as goal

pub loop-place-preserved : goal.loop-place-preserved
loop-place-preserved c = λ p b. elim (cases_lt p c.loop-place.place) [
  | inl l ↦ c.loop-place.invariant p l
  | inr l ↦
      (let here : c.loop-place.place ≡ p = omega (arith, l, b) in
      subst (λ q. IsPairNonNegative (more_gain_by (pool_at c.args.pools.now q).sums c.args.sums) (more_benefit_by (pool_at c.args.pools.now q).sums c.args.sums)) here (c.brings_more.ensures.no_more c.if-brings_more.false))
]

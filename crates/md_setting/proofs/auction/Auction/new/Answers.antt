use Rattle.std.proofs.Common.{◌≡◌, ap, ◌∙◌, subst, unsigned_abs, None}
use Rattle.std.proofs.lemmas.Int.{to_z-of_z}
use mir.Syntax.{w64}
use Rattle.md_setting.specs.Auction.{written_auction, total_weight}
use Rattle.md_setting.specs.AuctionRefusals.{HasGoodNumbers, weight_refusal_of}
use Rattle.md_setting.proofs.Auctions.{bidders_fit, kept_weights, kept_sizes, kept}
use Rattle.md_setting.proofs.auction.Auction.new.Goals as goal

pub check_weights-requires-clause-one_each : goal.check_weights-requires-clause-one_each
check_weights-requires-clause-one_each c =
    let a = c.args in
    let w = written_auction a.bidders a.values.now a.weights.now a.revenue a.welfare a.keep in
    let good : HasGoodNumbers w = rw (to_z-of_z w64 a.bidders c.ranges.bidders, to_z-of_z w64 a.revenue c.ranges.revenue, to_z-of_z w64 a.welfare c.ranges.welfare, to_z-of_z w64 a.keep c.ranges.keep) at c.in_ok-check_numbers.ensures.ok in
    kept_weights w c.deref.result.now good (c.deref.ensures.value ∙ c.in-Ok.ensures)

pub check_weights-requires-clause-sizes : goal.check_weights-requires-clause-sizes
check_weights-requires-clause-sizes c =
    let a = c.args in
    let w = written_auction a.bidders a.values.now a.weights.now a.revenue a.welfare a.keep in
    let good : HasGoodNumbers w = rw (to_z-of_z w64 a.bidders c.ranges.bidders, to_z-of_z w64 a.revenue c.ranges.revenue, to_z-of_z w64 a.welfare c.ranges.welfare, to_z-of_z w64 a.keep c.ranges.keep) at c.in_ok-check_numbers.ensures.ok in
    kept_sizes w c.deref.result.now good (c.deref.ensures.value ∙ c.in-Ok.ensures)

pub overflow_cast-result : goal.overflow_cast-result
overflow_cast-result c =
    let a = c.args in
    let w = written_auction a.bidders a.values.now a.weights.now a.revenue a.welfare a.keep in
    let good : HasGoodNumbers w = rw (to_z-of_z w64 a.bidders c.ranges.bidders, to_z-of_z w64 a.revenue c.ranges.revenue, to_z-of_z w64 a.welfare c.ranges.welfare, to_z-of_z w64 a.keep c.ranges.keep) at c.in_ok-check_numbers.ensures.ok in
    let fit = bidders_fit w good in
    rw (to_z-of_z w64 a.bidders c.ranges.bidders) (fit.0, record { fits = fit.1 })

pub invariant_of-result : goal.invariant_of-result
invariant_of-result c =
    let a = c.args in
    let w = written_auction a.bidders a.values.now a.weights.now a.revenue a.welfare a.keep in
    let good : HasGoodNumbers w = rw (to_z-of_z w64 a.bidders c.ranges.bidders, to_z-of_z w64 a.revenue c.ranges.revenue, to_z-of_z w64 a.welfare c.ranges.welfare, to_z-of_z w64 a.keep c.ranges.keep) at c.in_ok-check_numbers.ensures.ok in
    rw (to_z-of_z w64 a.bidders c.ranges.bidders, to_z-of_z w64 a.revenue c.ranges.revenue, to_z-of_z w64 a.welfare c.ranges.welfare, to_z-of_z w64 a.keep c.ranges.keep)
    (kept w c.in-Ok-from_slice.values.items c.in-Ok.weights.items c.in_ok-total.total good c.in-Ok-from_slice.ensures.items c.in-Ok.ensures
    (subst (λ weights. weight_refusal_of (unsigned_abs a.bidders) a.values.now weights ≡ None) c.deref.ensures.value (rw (to_z-of_z w64 a.bidders c.ranges.bidders) at c.in_ok-total.ensures.ok)) (c.in_ok-total.ensures.total ∙ ap total_weight c.deref.ensures.value))

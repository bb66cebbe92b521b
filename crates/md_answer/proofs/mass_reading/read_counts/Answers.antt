use Rattle.std.proofs.Common.{◌≡◌, ◌<◌, ◌∙◌, ap₂, arith}
use Rattle.std.specs.Prelude.{slice_index}
use Rattle.std.proofs.lemmas.Result.{err_from_is_err_and}
use Rattle.md_setting.specs.Auction.{value_count}
use Rattle.md_counts.specs.Counts.{counts_at}
use Rattle.md_answer.proofs.MassSteps.{count_of, counts-more, counts-fail}
use Rattle.md_answer.proofs.mass_reading.read_counts.Goals as goal

pub returns-in_err-place : goal.returns-in_err-place
returns-in_err-place c =
    let p = err_from_is_err_and c.from_residual.result c.from_residual.ensures.1 in
    let below : c.loop-kind.kind < value_count c.args.auction.now = omega (arith, c.loop-kind-test.true, c.kinds-kind-end.ensures.count) in
    let same : c.from-count.result ≡ count_of c.args.auction.now c.args.rank c.loop-kind.kind = c.from-count.ensures ∙ c.count.ensures.value ∙ ap₂ (λ b k. slice_index (counts_at b k c.args.rank) c.loop-kind.kind) c.requires.bidders c.requires.kinds in
    rw (p.1, p.2) (counts-fail c.args.auction.now c.args.rank c.loop-kind.kind c.args.fields.now c.loop-kind.fields c.from-count.result _ below c.loop-kind.invariant.read same c.in_err-place.ensures.read)

pub loop-kind-preserved : goal.loop-kind-preserved
loop-kind-preserved c =
    let one = c.in_ok-place.ensures.read in
    let left = one.left in
    let room = c.loop-kind.invariant.room in
    let same : c.from-count.result ≡ count_of c.args.auction.now c.args.rank c.loop-kind.kind = c.from-count.ensures ∙ c.count.ensures.value ∙ ap₂ (λ b k. slice_index (counts_at b k c.args.rank) c.loop-kind.kind) c.requires.bidders c.requires.kinds in
    record {
      room = omega (arith, left, room);
      read = counts-more c.args.auction.now c.args.rank c.loop-kind.kind c.args.fields.now c.loop-kind.fields c.place.new.self c.from-count.result _ c.loop-kind.invariant.read same one c.in_ok-place.ensures.inside;
    }

use Rattle.std.proofs.Common.{◌≡◌, ◌<◌, arith, ap, ◌∙◌, length}
use Rattle.std.specs.Prelude.{slice_index}
use Rattle.md_math.specs.Lists.{list_to, number_at}
use Rattle.md_setting.specs.Auction.{value_count}
use Rattle.md_expost.proofs.Winners.{value-below}
use Rattle.md_run.proofs.ReportLaws.{reports-length}
use Rattle.md_run.proofs.auction.pays.Goals as goal

pub get-requires : goal.get-requires
get-requires c =
    let a = c.args.auction.now in
    let t = c.args.profile.now in
    let long : length t ≡ a.bidders = reports-length a.bidders (value_count a) t c.requires.reports in
    let below : slice_index t c.loop-report.report-index < value_count a = value-below a.bidders (value_count a) t c.loop-report.report-index c.requires.reports (omega (arith, c.loop-report-test.true, long)) in
    omega (arith, c.from.ensures, below, c.requires.interim.one_pay)

pub returns : goal.returns
returns c =
    let a = c.args.auction.now in
    let t = c.args.profile.now in
    let long : length t ≡ a.bidders = reports-length a.bidders (value_count a) t c.requires.reports in
    let end : c.loop-report.report-index ≡ a.bidders = omega (arith, c.loop-report-test.false, c.loop-report.auto.report-index-end, long) in
    c.loop-report.invariant ∙ ap (λ n. list_to n (λ i. number_at c.args.interim.now.pays (slice_index t i))) end

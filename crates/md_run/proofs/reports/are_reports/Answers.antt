use Rattle.std.proofs.Common.{◌≡◌, ◌<◌, arith, sym, subst, ◌∙◌, refl, length}
use Rattle.std.specs.Prelude.{slice_index}
use Rattle.md_math.specs.FirstFailure.{HoldsBelow}
use Rattle.md_setting.specs.Auction.{value_count}
use Rattle.md_mech.proofs.WholeLaws.{not_both}
use Rattle.md_expost.proofs.Winners.{value-below}
use Rattle.md_run.proofs.ReportLaws.{reports-from_places, reports-length}
use Rattle.md_run.proofs.reports.are_reports.Goals as goal

pub returns-then-not-has_length-clause-reports : goal.returns-then-not-has_length-clause-reports
returns-then-not-has_length-clause-reports c =
    let a = c.args.auction.now in (
      λ h. not_both h,
      λ p. not_both (c.if-not-has_length.ensures.1 (reports-length a.bidders (value_count a) c.args.reports.now p ∙ sym c.bidders.ensures.count)),
    )

pub returns-then-not-is_below-clause-reports : goal.returns-then-not-is_below-clause-reports
returns-then-not-is_below-clause-reports c =
    let a = c.args.auction.now in
    let t = c.args.reports.now in
    let long : length t ≡ a.bidders = c.if-not-has_length.ensures.0 refl ∙ c.bidders.ensures.count in (
      λ h. not_both h,
      λ p. not_both (c.if-not-is_below.ensures.1 (subst (λ n. slice_index t c.loop-report.report-index < n) (sym c.kinds.ensures.count)
          (value-below a.bidders (value_count a) t c.loop-report.report-index p (omega (arith, c.loop-report-test.true, long))))),
    )

pub returns-clause-reports : goal.returns-clause-reports
returns-clause-reports c =
    let a = c.args.auction.now in
    let t = c.args.reports.now in
    let end : c.loop-report.report-index ≡ length t = omega (arith, c.loop-report-test.false, c.loop-report.auto.report-index-end) in (
      λ h. reports-from_places a.bidders (value_count a) t (c.if-not-has_length.ensures.0 refl ∙ c.bidders.ensures.count)
          (subst (λ n. HoldsBelow n (λ i. slice_index t i < value_count a)) end c.loop-report.invariant),
      λ p. refl,
    )

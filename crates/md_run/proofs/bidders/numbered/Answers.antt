use Rattle.std.proofs.Common.{arith, ap, sym, ◌∙◌, pos, refl}
use Rattle.md_mech.proofs.WholeLaws.{not_both}
use Rattle.md_run.proofs.OutcomeLaws.{others-more}
use Rattle.md_run.proofs.ReportLaws.{count_in-more}
use Rattle.md_run.proofs.bidders.numbered.Goals as goal

pub returns-then-is_next : goal.returns-then-is_next
returns-then-is_next c =
    let both = c.if-is_next.ensures.0 refl in
    record {
      below = c.loop-bidder-test.true;
      reports = both.0;
      others = ap pos (sym c.loop-bidder.invariant.0 ∙ both.1);
    }

pub loop-bidder-preserved : goal.loop-bidder-preserved
loop-bidder-preserved c =
    let more = count_in-more c.args.kind c.args.reports.now c.loop-bidder.bidder c.loop-bidder-test.true in (
      omega (arith, more, c.loop-bidder.invariant.0, c.one_for-others.ensures.value),
      others-more _ _ _ _ _ c.one_for-others.ensures.value (λ both. not_both (c.if-is_next.ensures.1 both)) c.loop-bidder.invariant.1,
    )

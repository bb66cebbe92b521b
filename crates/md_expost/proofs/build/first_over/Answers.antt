use Rattle.std.proofs.Common.{◌≡◌, length, to_z, of_z, refl, subst, ap, ap₂, ◌∙◌, arith}
use Rattle.std.proofs.lemmas.Int.{to_z-of_z}
use mir.Syntax.{w128}
use Rattle.md_math.specs.FirstFailure.{HoldsBelow}
use Rattle.md_math.proofs.Bits.{read_result}
use Rattle.md_math.proofs.FirstFailures.{HoldsBelow-more}
use Rattle.md_mech.proofs.WholeLaws.{not_both}
use Rattle.md_setting.specs.CountLists.{count_lists}
use Rattle.md_expost.specs.Masses.{cap_at, rank_count}
use Rattle.md_expost.specs.Refusals.{IsKeptAt}
use Rattle.md_expost.proofs.KeptLaws.{kept-from, kept-into}
use Rattle.md_expost.proofs.build.first_over.Goals as goal

pub returns-then-not-is_kept : goal.returns-then-not-is_kept
returns-then-not-is_kept c =
    let a = c.args.auction.now in
    let den = to_z-of_z w128 c.args.den c.ranges.den in
    let ranks : c.len-rank-end.result ≡ rank_count a = c.len-rank-end.ensures.value ∙ ap₂ (λ n k. length (count_lists n k)) c.requires.bidders c.requires.kinds in
    let whole : c.cap.result ≡ cap_at a c.args.den c.loop-rank.rank = c.cap.ensures.value ∙ ap (λ d. cap_at a d c.loop-rank.rank) den in
    record {
      below = omega (arith, c.loop-rank-test.true, ranks);
      fails = λ h. not_both (c.if-not-is_kept.ensures.1
          (rw (read_result c.cap.result c.cap.type_inv) (kept-into a c.args.den c.cap.result c.args.rows.now c.loop-rank.rank c.kinds.result c.kinds.ensures.count whole h)));
      before = subst (λ d. HoldsBelow c.loop-rank.rank (IsKeptAt a d c.args.rows.now)) den c.loop-rank.invariant;
    }

pub loop-rank-preserved : goal.loop-rank-preserved
loop-rank-preserved c =
    let a = c.args.auction.now in
    HoldsBelow-more (IsKeptAt a (to_z w128 (of_z w128 c.args.den)) c.args.rows.now) c.loop-rank.rank c.loop-rank.invariant
    (kept-from a (to_z w128 (of_z w128 c.args.den)) c.cap.result c.args.rows.now c.loop-rank.rank c.kinds.result c.kinds.ensures.count c.cap.ensures.value
    (rw (read_result c.cap.result c.cap.type_inv) at (c.if-not-is_kept.ensures.0 refl)))

use mir.Syntax.{w128}
use Rattle.std.proofs.Common.{SFits, ◌≡◌, length, ◌∙◌, subst, arith}
use Rattle.std.proofs.lemmas.Int.{to_z-of_z}
use Rattle.md_setting.specs.Auction.{value_count}
use Rattle.md_reduced.specs.Conditions.{conditions_of}
use Rattle.md_reduced.specs.ProgramOf.{GrowsByRows}
use Rattle.md_reduced.proofs.BuiltLaws.{grows-none, grows-next}
use Rattle.md_reduced.proofs.reduced.push_rows.Goals as goal

pub condition_at-condition-requires-clause-row : goal.condition_at-condition-requires-clause-row
condition_at-condition-requires-clause-row c = omega (arith, c.loop-row-test.true, c.row_count-row-end.ensures)

pub push_condition-requires-clause-columns : goal.push_condition-requires-clause-columns
push_condition-requires-clause-columns c = c.loop-row.invariant.columns ∙ c.requires.columns

pub push_condition-requires-clause-room : goal.push_condition-requires-clause-room
push_condition-requires-clause-room c = omega (arith, c.loop-row-test.true, c.row_count-row-end.ensures, c.loop-row.invariant.more, c.requires.room)

pub loop-row-init : goal.loop-row-init
loop-row-init c = grows-none c.args.auction.now c.args.units c.args.cuts.now c.args.lp.now

pub loop-row-preserved : goal.loop-row-preserved
loop-row-preserved c =
    let fits : SFits w128 c.right_of-right.result = record { sfits = c.right_of-right.type_inv } in
    grows-next c.args.auction.now c.args.units c.args.cuts.now c.loop-row.row c.condition_at-condition.result c.right_of-right.result c.args.lp.now c.loop-row.lp c.push_condition.new.lp c.condition_at-condition.ensures.is
    c.right_of-right.ensures.value c.loop-row.invariant
    (rw (to_z-of_z w128 c.right_of-right.result fits) at c.in_ok-push_condition.ensures)

pub returns : goal.returns
returns c =
    let a = c.args.auction.now in
    let whole : c.loop-row.row ≡ length (conditions_of (value_count a) c.args.cuts.now) = omega (arith, c.loop-row-test.false, c.loop-row.auto.row-end, c.row_count-row-end.ensures) in
    subst (λ n. GrowsByRows a c.args.units c.args.cuts.now n c.args.lp.now c.loop-row.lp) whole c.loop-row.invariant

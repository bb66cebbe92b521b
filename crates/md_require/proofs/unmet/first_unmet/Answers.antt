use Rattle.std.proofs.Common.{◌≡◌, All, take, subst, arith}
use Rattle.std.proofs.lemmas.List.{take_all}
use Rattle.md_require.specs.Conditions.{IsMet}
use Rattle.md_require.proofs.ConditionRows.{nothing_asked}
use Rattle.md_require.proofs.FirstUnmet.{met-next, unmet-here}
use Rattle.md_require.proofs.unmet.first_unmet.Goals as goal

pub returns-in-Some : goal.returns-in-Some
returns-in-Some c =
    unmet-here c.args.setting.now c.args.mechanism.now c.args.conditions.now c.loop-number.number nothing_asked c.in-Some.unmet c.loop-number-test.true c.loop-number.invariant c.in-Some.ensures

pub loop-number-preserved : goal.loop-number-preserved
loop-number-preserved c =
    met-next c.args.setting.now c.args.mechanism.now c.args.conditions.now c.loop-number.number nothing_asked c.loop-number-test.true c.loop-number.invariant c.in_default.ensures

pub returns : goal.returns
returns c =
    let whole : take c.loop-number.number c.args.conditions.now ≡ c.args.conditions.now = take_all c.loop-number.number c.args.conditions.now (omega (arith, c.loop-number-test.false)) in
    subst (All (IsMet c.args.setting.now c.args.mechanism.now)) whole c.loop-number.invariant

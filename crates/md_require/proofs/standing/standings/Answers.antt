use Rattle.std.proofs.Common.{◌≡◌, ◌+◌, List, take, sym, subst, arith}
use Rattle.std.proofs.lemmas.List.{take_all}
use Rattle.md_require.specs.declared.standing.Standing.{Standing}
use Rattle.md_require.specs.Standings.{AreStandings}
use Rattle.md_require.proofs.ConditionRows.{nothing_asked}
use Rattle.md_require.proofs.StandingLaws.{met-all, stands-next}
use Rattle.md_require.proofs.standing.standings.Goals as goal

pub loop-condition-preserved : goal.loop-condition-preserved
loop-condition-preserved c =
    let s = c.args.setting.now in
    let conditions = c.args.conditions.now in
    let i = c.loop-condition.condition-index in
    subst (AreStandings s c.args.mechanism.now (take (i + 1) conditions)) (sym {A = List Standing} c.in_ok-push.ensures.items)
    (stands-next s c.args.mechanism.now conditions i nothing_asked c.loop-condition.standings.items c.standing_of.result c.loop-condition-test.true c.loop-condition.invariant c.standing_of.ensures)

pub returns : goal.returns
returns c =
    let s = c.args.setting.now in
    let conditions = c.args.conditions.now in
    let whole : take c.loop-condition.condition-index conditions ≡ conditions = take_all c.loop-condition.condition-index conditions (omega (arith, c.loop-condition-test.false)) in
    let all : AreStandings s c.args.mechanism.now conditions c.loop-condition.standings.items = subst (λ cs. AreStandings s c.args.mechanism.now cs c.loop-condition.standings.items) whole c.loop-condition.invariant in
    record { each = all; meets = met-all s c.args.mechanism.now conditions c.loop-condition.standings.items all }

use Rattle.std.proofs.Common.{◌≤◌, length, refl, arith}
use Rattle.std.proofs.lemmas.Bool.{true≢false}
use Rattle.md_mech.specs.Conditions.{named}
use Rattle.md_mech.specs.Rows.{conditions_of}
use Rattle.md_mech.proofs.RowLaws.{kept-admissible, broken-not_admissible}
use Rattle.md_mech.proofs.CountLaws.{conditions-length}
use Rattle.md_mech.proofs.AuditLaws.{kept-all, first-broken}
use Rattle.md_mech.proofs.auditing.audit.Goals as goal

pub condition_at-condition-requires : goal.condition_at-condition-requires
condition_at-condition-requires c = omega (arith, c.loop-row-test.true, c.rows-row-end.ensures.count, conditions-length c.args.setting.now)

pub returns-in-Some-clause-broken : goal.returns-in-Some-clause-broken
returns-in-Some-clause-broken c =
    let s = c.args.setting.now in
    first-broken s c.args.mechanism.now (conditions_of s) c.loop-row.row (named s c.condition_at-condition.result) c.in-Some.broken c.loop-row.invariant c.condition_at-condition.ensures.row c.in-Some.ensures

pub returns-in-Some-clause-admissible : goal.returns-in-Some-clause-admissible
returns-in-Some-clause-admissible c =
    let s = c.args.setting.now in
    let first = first-broken s c.args.mechanism.now (conditions_of s) c.loop-row.row (named s c.condition_at-condition.result) c.in-Some.broken c.loop-row.invariant c.condition_at-condition.ensures.row c.in-Some.ensures in
    (λ e. absurd (true≢false e), λ admissible. absurd (broken-not_admissible s c.args.mechanism.now 0 c.in-Some.broken first admissible))

pub returns-clause-admissible : goal.returns-clause-admissible
returns-clause-admissible c =
    let s = c.args.setting.now in
    let whole : length (conditions_of s) ≤ c.loop-row.row = omega (arith, c.loop-row-test.false, c.rows-row-end.ensures.count, conditions-length s) in
    (λ _. kept-admissible s c.args.mechanism.now c.requires.mechanism (kept-all s c.args.mechanism.now (conditions_of s) c.loop-row.row whole c.loop-row.invariant), λ _. refl)

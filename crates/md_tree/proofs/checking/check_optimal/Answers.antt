use Rattle.std.proofs.Common.{◌≡◌, Some}
use Rattle.std.proofs.lemmas.Result.{IfOk-weaker}
use Rattle.md_tree.specs.Verdicts.{IsTreeVerdict, IsOptimalVerdict}
use Rattle.md_tree.specs.declared.verdict.DetVerdict.{DetVerdict}
use Rattle.md_tree.proofs.OneVerdict.{optimal-by_tree, optimal-only_fault, optimal-only_value, optimal-only_tree}
use Rattle.md_tree.proofs.checking.check_optimal.Goals as goal

pub returns-in-Some-clause-only : goal.returns-in-Some-clause-only
returns-in-Some-clause-only c = optimal-only_fault c.args.setting.now c.args.value.now c.args.mechanism.now c.args.tree.now c.in-Some.fault c.in-Some.ensures

pub returns-in-Some-other_value-clause-only : goal.returns-in-Some-other_value-clause-only
returns-in-Some-other_value-clause-only c =
    optimal-only_value c.args.setting.now c.args.value.now c.args.mechanism.now c.args.tree.now c.in-Some-other_value.right c.in-Some-other_value.ensures.total c.in_default.ensures
    c.in-Some-other_value.ensures.value

pub returns-clause-verdict : goal.returns-clause-verdict
returns-clause-verdict c =
    let s = c.args.setting.now in
    let value = c.args.value.now in
    let m = c.args.mechanism.now in
    let tree = c.args.tree.now in
    IfOk-weaker c.check_tree.result (IsTreeVerdict s (Some m) tree) (IsOptimalVerdict s value m tree) (optimal-by_tree s value m tree c.in_default.ensures c.in_default-other_value.ensures.value)
    c.check_tree.ensures

pub returns-clause-only : goal.returns-clause-only
returns-clause-only c =
    let s = c.args.setting.now in
    let value = c.args.value.now in
    let m = c.args.mechanism.now in
    let tree = c.args.tree.now in
    IfOk-weaker c.check_tree.result (IsTreeVerdict s (Some m) tree) (λ v. (other : DetVerdict) → IsOptimalVerdict s value m tree other → other ≡ v)
    (optimal-only_tree s value m tree c.in_default.ensures c.in_default-other_value.ensures.value) c.check_tree.ensures

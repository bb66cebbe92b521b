use Rattle.std.proofs.Common.{IsTrue, ◌+◌, nat_eq, rules, arith}
use Rattle.std.proofs.lemmas.Bool.Decides.{nat_tests}
use Rattle.md_list_gains.specs.Places.{weight_to, gain_to}
use Rattle.md_list_check.proofs.LevelLaws.{kept-more, level-kept}
use Rattle.md_list_check.proofs.levels.first_unkept.Goals as goal

pub loop-value-preserved : goal.loop-value-preserved
loop-value-preserved c =
    let kept : IsTrue c.is_kept.result = search rules in
    kept-more _ _ c.args.first c.args.stop c.args.level.now c.loop-value.value c.loop-value.invariant
    (level-kept (weight_to c.args.places.now) (gain_to c.args.places.now) c.args.first c.args.stop c.args.level.now c.loop-value.value (nat_eq (c.loop-value.value + 1) c.args.stop) c.sides_at-sides.result.left c.sides_at-sides.result.right
    (λ e. grind (arith, nat_tests)) (λ e. grind (arith, nat_tests)) c.sides_at-sides.ensures.left c.sides_at-sides.ensures.right (c.is_kept.ensures.0 kept))

use Rattle.std.proofs.Common.{◌≤◌, ◌^◌, ◌*ℤ◌, to_z, sym, ◌∙◌, subst, arith, lit<}
use mir.Syntax.{w128}
use Rattle.md_math.specs.Sizes.{IsWithin}
use Rattle.md_math.proofs.SumLaws.{sum_to-more}
use Rattle.md_math.proofs.Bits.{read_result}
use Rattle.md_space.specs.Profiles.{profile_at}
use Rattle.md_setting.specs.Meaning.{outcome_count, sizes_of, value_of}
use Rattle.md_mech.specs.Mechanism.{chance_of}
use Rattle.md_mech.proofs.WorthLaws.{step_fits, lottery-within}
use Rattle.md_mech.proofs.gains.lottery_value.Goals as goal

pub add_product-sum-requires : goal.add_product-sum-requires
add_product-sum-requires c =
    let s = c.args.setting.now in
    let fits : c.loop-outcome.outcome ≤ outcome_count s = omega (arith, c.outcomes-outcome-end.ensures.count) in
    let before : IsWithin (2 ^ 90) (to_z w128 c.loop-outcome.sum-bits) =
    subst (IsWithin (2 ^ 90)) (sym c.loop-outcome.invariant)
    (lottery-within s c.args.mechanism.now c.args.rank c.loop-outcome.outcome c.requires.accepted c.outcomes-outcome-end.ensures.shaped c.requires.rank_in fits) in
    rw (read_result c.chance.result c.chance.type_inv, read_result c.value.result c.value.type_inv)
    (step_fits (to_z w128 c.loop-outcome.sum-bits) c.chance.result c.value.result (2 ^ 90) (2 ^ 62) 10000000 before c.chance.ensures.size c.value.ensures.size (lit< tt))

pub loop-outcome-preserved : goal.loop-outcome-preserved
loop-outcome-preserved c =
    let s = c.args.setting.now in
    let t = profile_at (sizes_of s) c.args.rank in
    read_result c.add_product-sum.result c.add_product-sum.type_inv
    ∙ (rw (read_result c.chance.result c.chance.type_inv, read_result c.value.result c.value.type_inv, c.loop-outcome.invariant, c.chance.ensures.value, c.value.ensures.value) at c.add_product-sum.ensures.value)
    ∙ sym (sum_to-more c.loop-outcome.outcome (λ o. chance_of s c.args.mechanism.now t o *ℤ value_of s t o))

pub returns-clause-size : goal.returns-clause-size
returns-clause-size c =
    let s = c.args.setting.now in
    let fits : c.loop-outcome.outcome ≤ outcome_count s = omega (arith, c.outcomes-outcome-end.ensures.count) in
    subst (IsWithin (2 ^ 90)) (sym c.loop-outcome.invariant)
    (lottery-within s c.args.mechanism.now c.args.rank c.loop-outcome.outcome c.requires.accepted c.outcomes-outcome-end.ensures.shaped c.requires.rank_in fits)

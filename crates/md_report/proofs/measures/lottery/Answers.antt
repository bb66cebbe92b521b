use Rattle.std.proofs.Common.{to_z, ◌≤◌, ◌*ℤ◌, ◌∙◌, arith, sym}
use mir.Syntax.{w128}
use Rattle.md_math.proofs.SumLaws.{sum_to-more}
use Rattle.md_math.proofs.Bits.{read_result}
use Rattle.md_space.specs.Profiles.{profile_at}
use Rattle.md_setting.specs.Meaning.{sizes_of, utility_of}
use Rattle.md_mech.specs.Mechanism.{chance_of}
use Rattle.md_mech.proofs.UtilitySizes.{step_fits, partial_small}
use Rattle.md_report.proofs.MeasureLaws.{expected-within}
use Rattle.md_report.proofs.measures.lottery.Goals as goal

pub add_product-sum-requires : goal.add_product-sum-requires
add_product-sum-requires c =
    let few : c.loop-outcome.outcome ≤ 16 = omega (arith, c.outcomes-outcome-end.ensures.count, c.outcomes-outcome-end.ensures.shaped.listed.few_outcomes) in
    rw (read_result c.chance-chance.result c.chance-chance.type_inv, read_result c.utility.result c.utility.type_inv)
    (step_fits (to_z w128 c.loop-outcome.sum-bits) c.chance-chance.result c.utility.result c.loop-outcome.outcome
    (rw c.loop-outcome.invariant (expected-within c.args.setting.now c.args.mechanism.now c.args.agent c.loop-outcome.outcome
    (profile_at (sizes_of c.args.setting.now) c.args.truth) (profile_at (sizes_of c.args.setting.now) c.args.rank) c.requires.numbers c.outcomes-outcome-end.ensures.shaped))
    few c.chance-chance.ensures.size c.utility.ensures.size)

pub loop-outcome-preserved : goal.loop-outcome-preserved
loop-outcome-preserved c =
    read_result c.add_product-sum.result c.add_product-sum.type_inv
    ∙ (rw (read_result c.chance-chance.result c.chance-chance.type_inv, read_result c.utility.result c.utility.type_inv, c.loop-outcome.invariant, c.chance-chance.ensures.value, c.utility.ensures.value) at c.add_product-sum.ensures.value)
    ∙ sym (sum_to-more c.loop-outcome.outcome (λ o. chance_of c.args.setting.now c.args.mechanism.now (profile_at (sizes_of c.args.setting.now) c.args.rank) o *ℤ utility_of c.args.setting.now c.args.agent (profile_at (sizes_of c.args.setting.now) c.args.truth) o))

pub returns-clause-size : goal.returns-clause-size
returns-clause-size c =
    let few : c.loop-outcome.outcome ≤ 16 = omega (arith, c.outcomes-outcome-end.ensures.count, c.outcomes-outcome-end.ensures.shaped.listed.few_outcomes) in
    partial_small c.loop-outcome.outcome (to_z w128 c.loop-outcome.sum-bits) few
    (rw c.loop-outcome.invariant (expected-within c.args.setting.now c.args.mechanism.now c.args.agent c.loop-outcome.outcome
    (profile_at (sizes_of c.args.setting.now) c.args.truth) (profile_at (sizes_of c.args.setting.now) c.args.rank) c.requires.numbers c.outcomes-outcome-end.ensures.shaped))

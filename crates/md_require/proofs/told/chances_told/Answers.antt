use Rattle.std.proofs.Common.{to_z, ◌≤◌, ◌*ℤ◌, ◌∙◌, arith, sym}
use mir.Syntax.{w128}
use Rattle.md_math.proofs.SumLaws.{sum_to-more}
use Rattle.md_math.proofs.Bits.{read_result}
use Rattle.md_space.specs.Profiles.{profile_at}
use Rattle.md_setting.specs.Meaning.{sizes_of}
use Rattle.md_mech.specs.Mechanism.{chance_of}
use Rattle.md_require.specs.Named.{named}
use Rattle.md_require.specs.Parts.{chance_part}
use Rattle.md_require.proofs.ToldSizes.{chances-within, partial-fits, step-fits}
use Rattle.md_require.proofs.told.chances_told.Goals as goal

pub add_product-sum-requires : goal.add_product-sum-requires
add_product-sum-requires c =
    let s = c.args.setting.now in
    let few : c.loop-outcome.outcome ≤ 16 = omega (arith, c.outcomes-outcome-end.ensures.count, c.outcomes-outcome-end.ensures.shaped.listed.few_outcomes) in
    rw (read_result c.scaled_chance-part.result c.scaled_chance-part.type_inv, read_result c.chance.result c.chance.type_inv)
    (step-fits (to_z w128 c.loop-outcome.sum-bits) c.scaled_chance-part.result c.chance.result c.loop-outcome.outcome
    (rw c.loop-outcome.invariant (chances-within s c.args.mechanism.now c.args.scaled.now.scale (named s c.args.scaled.now.amount) c.requires.scaled.narrow c.requires.accepted c.args.rank c.loop-outcome.outcome c.requires.rank_in (omega (arith, c.outcomes-outcome-end.ensures.count))))
    few c.scaled_chance-part.ensures.size c.chance.ensures.size)

pub loop-outcome-preserved : goal.loop-outcome-preserved
loop-outcome-preserved c =
    let s = c.args.setting.now in
    read_result c.add_product-sum.result c.add_product-sum.type_inv
    ∙ (rw (read_result c.scaled_chance-part.result c.scaled_chance-part.type_inv, read_result c.chance.result c.chance.type_inv, c.loop-outcome.invariant, c.scaled_chance-part.ensures.value, c.chance.ensures.value) at c.add_product-sum.ensures.value)
    ∙ sym (sum_to-more c.loop-outcome.outcome (λ o. (c.args.scaled.now.scale *ℤ chance_part s (named s c.args.scaled.now.amount) c.args.rank o) *ℤ chance_of s c.args.mechanism.now (profile_at (sizes_of s) c.args.rank) o))

pub returns-clause-size : goal.returns-clause-size
returns-clause-size c =
    let s = c.args.setting.now in
    let few : c.loop-outcome.outcome ≤ 16 = omega (arith, c.outcomes-outcome-end.ensures.count, c.outcomes-outcome-end.ensures.shaped.listed.few_outcomes) in
    partial-fits (to_z w128 c.loop-outcome.sum-bits) c.loop-outcome.outcome few
    (rw c.loop-outcome.invariant (chances-within s c.args.mechanism.now c.args.scaled.now.scale (named s c.args.scaled.now.amount) c.requires.scaled.narrow c.requires.accepted c.args.rank c.loop-outcome.outcome c.requires.rank_in (omega (arith, c.outcomes-outcome-end.ensures.count))))

use Rattle.std.proofs.Common.{◌<◌, ◌*ℤ◌, ℕ, false, true, refl, sym, ◌∙◌, arith, to_z, of_z}
use Rattle.std.proofs.lemmas.Int.{to_z-of_z}
use mir.Syntax.{w128}
use Rattle.md_math.proofs.Bits.{read_result}
use Rattle.md_setting.specs.Meaning.{outcome_count}
use Rattle.md_setting.proofs.TestLaws.{all_below-fails, all_below-more}
use Rattle.md_require.specs.Named.{named}
use Rattle.md_require.specs.Parts.{chance_part}
use Rattle.md_conditions_text.specs.Narrow.{is_narrow}
use Rattle.md_conditions_text.proofs.NarrowLaws.{narrow-as}
use Rattle.md_conditions_text.proofs.narrow.has_narrow_chances.Goals as goal

pub returns-then-not-is_narrow : goal.returns-then-not-is_narrow
returns-then-not-is_narrow c =
    let s = c.args.setting.now in
    let below : c.loop-outcome.outcome < outcome_count s = omega (arith, c.loop-outcome-test.true, c.outcomes-outcome-end.ensures.count) in
    sym (all_below-fails (outcome_count s) c.loop-outcome.outcome (λ (o : ℕ). is_narrow (c.args.den *ℤ chance_part s (named s c.args.amount) c.args.rank o)) below
    (narrow-as _ _ _ c.args.den (chance_part s (named s c.args.amount) c.args.rank c.loop-outcome.outcome) c.product.result _ false (to_z-of_z w128 c.args.den c.ranges.den)
    (read_result c.chance_part.result c.chance_part.type_inv ∙ c.chance_part.ensures.value) c.product.ensures.value (read_result c.product.result c.product.type_inv) c.is_narrow.ensures c.if-not-is_narrow.true))

pub loop-outcome-preserved : goal.loop-outcome-preserved
loop-outcome-preserved c =
    let s = c.args.setting.now in
    let den = to_z w128 (of_z w128 c.args.den) in
    all_below-more c.loop-outcome.outcome (λ (o : ℕ). is_narrow (den *ℤ chance_part s (named s c.args.amount) c.args.rank o)) c.loop-outcome.invariant
    (narrow-as _ _ _ den (chance_part s (named s c.args.amount) c.args.rank c.loop-outcome.outcome) c.product.result _ true refl
    (read_result c.chance_part.result c.chance_part.type_inv ∙ c.chance_part.ensures.value) c.product.ensures.value (read_result c.product.result c.product.type_inv) c.is_narrow.ensures c.if-not-is_narrow.false)

use Rattle.std.proofs.Common.{◌<◌, ◌*ℤ◌, ℕ, false, true, length, ap, refl, sym, ◌∙◌, arith, to_z, of_z}
use Rattle.std.proofs.lemmas.Int.{to_z-of_z}
use mir.Syntax.{w128}
use Rattle.md_math.proofs.Bits.{read_result}
use Rattle.md_setting.specs.Meaning.{agent_count}
use Rattle.md_setting.proofs.TestLaws.{all_below-fails, all_below-more}
use Rattle.md_require.specs.Named.{named}
use Rattle.md_require.specs.Parts.{pay_part}
use Rattle.md_conditions_text.specs.Narrow.{is_narrow}
use Rattle.md_conditions_text.proofs.Joined.{agents-sizes}
use Rattle.md_conditions_text.proofs.NarrowLaws.{narrow-as}
use Rattle.md_conditions_text.proofs.narrow.has_narrow_pays.Goals as goal

pub returns-then-not-is_narrow : goal.returns-then-not-is_narrow
returns-then-not-is_narrow c =
    let s = c.args.setting.now in
    let below : c.loop-agent.agent < agent_count s = omega (arith, c.loop-agent-test.true, c.agents-agent-end.ensures.count, ap length c.space.ensures.sizes, agents-sizes s) in
    sym (all_below-fails (agent_count s) c.loop-agent.agent (λ (i : ℕ). is_narrow (c.args.den *ℤ pay_part s (named s c.args.amount) c.args.rank i)) below
    (narrow-as _ _ _ c.args.den (pay_part s (named s c.args.amount) c.args.rank c.loop-agent.agent) c.product.result _ false (to_z-of_z w128 c.args.den c.ranges.den)
    (read_result c.pay_part.result c.pay_part.type_inv ∙ c.pay_part.ensures.value) c.product.ensures.value (read_result c.product.result c.product.type_inv) c.is_narrow.ensures c.if-not-is_narrow.true))

pub loop-agent-preserved : goal.loop-agent-preserved
loop-agent-preserved c =
    let s = c.args.setting.now in
    let den = to_z w128 (of_z w128 c.args.den) in
    all_below-more c.loop-agent.agent (λ (i : ℕ). is_narrow (den *ℤ pay_part s (named s c.args.amount) c.args.rank i)) c.loop-agent.invariant
    (narrow-as _ _ _ den (pay_part s (named s c.args.amount) c.args.rank c.loop-agent.agent) c.product.result _ true refl
    (read_result c.pay_part.result c.pay_part.type_inv ∙ c.pay_part.ensures.value) c.product.ensures.value (read_result c.product.result c.product.type_inv) c.is_narrow.ensures c.if-not-is_narrow.false)

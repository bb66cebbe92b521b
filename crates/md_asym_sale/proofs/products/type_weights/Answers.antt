use Rattle.std.proofs.Common.{◌≡◌, ℕ, ◌≤◌, ◌^◌, ℤ, to_z, slice_index, ap, sym, ◌∙◌, subst, arith}
use mir.Syntax.{w128}
use Rattle.md_math.specs.Sizes.{IsWithin}
use Rattle.md_math.proofs.Bits.{read_result}
use Rattle.md_space.specs.Profiles.{profile_at}
use Rattle.md_setting.specs.Setting.{GeneralSetting}
use Rattle.md_setting.specs.Meaning.{agent_count, sizes_of, marginal_of}
use Rattle.md_setting.proofs.MarginalLaws.{marginal-small}
use Rattle.md_asym_sale.specs.Products.{product_below}
use Rattle.md_asym_sale.proofs.ProductLaws.{product_below-more, fewer-within, product-within, step-fits}
use Rattle.md_asym_sale.proofs.products.type_weights.Goals as goal

abbrev weight : GeneralSetting → ℕ → ℕ → ℤ
weight s r i = marginal_of s i (slice_index (profile_at (sizes_of s) r) i)

pub product-weights-requires : goal.product-weights-requires
product-weights-requires c =
    let s = c.args.setting.now in
    let few : c.loop-agent.agent ≤ 5 = omega (arith, c.loop-agent-test.true, c.agents-agent-end.ensures.few) in
    let before : IsWithin (10 ^ 30) (to_z w128 c.loop-agent.weights-bits) =
    rw c.loop-agent.invariant (fewer-within c.loop-agent.agent (weight s c.args.rank) few (λ j b. marginal-small s j (slice_index (profile_at (sizes_of s) c.args.rank) j) c.agents-agent-end.ensures.shaped)) in
    rw (read_result c.marginal.result c.marginal.type_inv) (step-fits (to_z w128 c.loop-agent.weights-bits) c.marginal.result before c.marginal.ensures.size)

pub loop-agent-preserved : goal.loop-agent-preserved
loop-agent-preserved c =
    let s = c.args.setting.now in
    read_result c.product-weights.result c.product-weights.type_inv
    ∙ (rw (read_result c.marginal.result c.marginal.type_inv, c.loop-agent.invariant, c.marginal.ensures.value, c.type_at-kind.ensures.value) at c.product-weights.ensures.value)
    ∙ sym (product_below-more c.loop-agent.agent (weight s c.args.rank))

pub returns-clause-value : goal.returns-clause-value
returns-clause-value c =
    let s = c.args.setting.now in
    let end : c.loop-agent.agent ≡ agent_count s = omega (arith, c.loop-agent-test.false, c.loop-agent.auto.agent-end, c.agents-agent-end.ensures.count) in
    c.loop-agent.invariant ∙ ap (λ n. product_below n (weight s c.args.rank)) end

pub returns-clause-size : goal.returns-clause-size
returns-clause-size c =
    let s = c.args.setting.now in
    let few : c.loop-agent.agent ≤ 6 = omega (arith, c.loop-agent-test.false, c.loop-agent.auto.agent-end, c.agents-agent-end.ensures.few) in
    subst (IsWithin (10 ^ 36)) (sym c.loop-agent.invariant)
    (product-within c.loop-agent.agent (weight s c.args.rank) few (λ j b. marginal-small s j (slice_index (profile_at (sizes_of s) c.args.rank) j) c.agents-agent-end.ensures.shaped))

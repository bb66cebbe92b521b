use Rattle.std.proofs.Common.{◌≡◌, ◌-◌, ◌≤◌, ◌^◌, to_z, ap, sym, ◌∙◌, subst, arith}
use mir.Syntax.{w128}
use Rattle.md_math.specs.Sizes.{IsWithin}
use Rattle.md_math.proofs.Bits.{read_result}
use Rattle.md_setting.specs.Meaning.{agent_count, total_of}
use Rattle.md_asym_sale.specs.Products.{product_below}
use Rattle.md_asym_sale.proofs.ProductLaws.{product_below-more, fewer-within, step-fits}
use Rattle.md_asym_sale.proofs.products.total_of_others.Goals as goal

pub product-power-requires : goal.product-power-requires
product-power-requires c =
    let s = c.args.setting.now in
    let few : c.loop.counter ≤ 5 = omega (arith, c.agents-count.ensures.few, c.agents-count.ensures.some) in
    let before : IsWithin (10 ^ 30) (to_z w128 c.loop.power-bits) =
    rw c.loop.invariant (fewer-within c.loop.counter (λ _. total_of s) few (λ j b. c.agents-count.ensures.shaped.total.within)) in
    rw (read_result c.total.result c.total.type_inv) (step-fits (to_z w128 c.loop.power-bits) c.total.result before c.total.ensures.size)

pub loop-preserved : goal.loop-preserved
loop-preserved c =
    read_result c.product-power.result c.product-power.type_inv
    ∙ (rw (read_result c.total.result c.total.type_inv, c.loop.invariant, c.total.ensures.value) at c.product-power.ensures.value)
    ∙ sym (product_below-more c.loop.counter (λ _. total_of c.args.setting.now))

pub returns-clause-value : goal.returns-clause-value
returns-clause-value c =
    let s = c.args.setting.now in
    let end : c.loop.counter ≡ agent_count s - 1 = omega (arith, c.agents-count.ensures.count) in
    c.loop.invariant ∙ ap (λ n. product_below n (λ _. total_of s)) end

pub returns-clause-size : goal.returns-clause-size
returns-clause-size c =
    let s = c.args.setting.now in
    let few : c.loop.counter ≤ 5 = omega (arith, c.agents-count.ensures.few) in
    subst (IsWithin (10 ^ 30)) (sym c.loop.invariant) (fewer-within c.loop.counter (λ _. total_of s) few (λ j b. c.agents-count.ensures.shaped.total.within))

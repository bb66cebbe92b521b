use Rattle.std.proofs.Common.{◌<◌, ◌-◌, ℕ, pos, ◌-ℤ◌, sym, ap, ◌∙◌, subst, arith, lit<}
use Rattle.md_math.specs.Sizes.{IsWithin}
use Rattle.md_math.proofs.Readings.{read_of, difference_is}
use Rattle.md_iron_pools.specs.Pooling.{pools_of}
use Rattle.md_threshold.specs.Prices.{chance_against}
use Rattle.md_iron_pools.proofs.InterimLaws.{step-is}
use Rattle.md_threshold.proofs.ChanceSizes.{step-small}
use Rattle.md_threshold.proofs.PriceLaws.{against-most}
use Rattle.md_threshold.proofs.prices.step_against.Goals as goal

pub returns-clause-value : goal.returns-clause-value
returns-clause-value c =
    let q = λ (v : ℕ). pos (chance_against (pools_of c.args.pools.now) c.args.other c.args.count v) in
    let some : 0 < c.args.kind = omega (arith, c.if-kind-eq0.false) in
    let within : IsWithin 27720 (q c.args.kind -ℤ q (c.args.kind - 1)) = subst (IsWithin 27720) (sym (step-is q c.args.kind some)) (step-small (chance_against (pools_of c.args.pools.now) c.args.other c.args.count) c.args.kind (λ v. against-most (pools_of c.args.pools.now) c.args.other c.args.count v c.requires.count)) in
    difference_is c.from-chance.result c.from.result (q c.args.kind) (q (c.args.kind - 1)) 27720 (read_of _ _ c.from-chance.type_inv (c.from-chance.ensures ∙ ap pos c.chance_against.ensures.value))
    (read_of _ _ c.from.type_inv (c.from.ensures ∙ ap pos c.chance_against-2.ensures.value)) within (lit< tt)
    ∙ step-is q c.args.kind some

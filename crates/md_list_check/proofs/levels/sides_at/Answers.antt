use Rattle.std.proofs.Common.{◌≡◌, suc, ◌+◌, ◌^◌, ◌*ℤ◌, ap, ap₂, ◌∙◌, arith, lit<}
use Rattle.md_list.specs.ByRule.{growth}
use Rattle.md_list_gains.specs.Places.{weight_to, gain_to}
use Rattle.md_math.proofs.Bits.{read_result, read_within, read_short_within}
use Rattle.md_list_check.proofs.levels.sides_at.Goals as goal

pub returns-clause-left : goal.returns-clause-left
returns-clause-left c =
    let next : c.args.value + 1 ≡ suc c.args.value = omega arith in
    read_result c.times.result c.times.type_inv
    ∙ c.times.ensures.value
    ∙ ap₂ (λ x y. x *ℤ y) (read_within (2 ^ 62) c.args.level.now.den c.requires.level.den (lit< tt))
    (read_short_within (2 ^ 59) c.between-sums.result.gain c.between-sums.ensures.size.gain (lit< tt)
    ∙ c.between-sums.ensures.gain
    ∙ ap (growth (gain_to c.args.places.now) c.args.first) next)

pub returns-clause-right : goal.returns-clause-right
returns-clause-right c =
    let next : c.args.value + 1 ≡ suc c.args.value = omega arith in
    read_result c.times-2.result c.times-2.type_inv
    ∙ c.times-2.ensures.value
    ∙ ap₂ (λ x y. x *ℤ y) (read_within (2 ^ 62) c.args.level.now.num c.requires.level.num (lit< tt))
    (read_short_within (2 ^ 59) c.between-sums.result.weight c.between-sums.ensures.size.weight (lit< tt)
    ∙ c.between-sums.ensures.weight
    ∙ ap (growth (weight_to c.args.places.now) c.args.first) next)

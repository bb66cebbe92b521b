use Rattle.std.proofs.Common.{◌^◌, ◌-ℤ◌, ◌*ℤ◌, ap₂, ◌∙◌, lit<}
use Rattle.md_math.proofs.Bits.{read_result, read_within}
use Rattle.md_list_check.proofs.SignTests.{pair-never, pair-second}
use Rattle.md_list_check.proofs.order.is_no_less.Goals as goal

pub returns-then-gain-lt0 : goal.returns-then-gain-lt0
returns-then-gain-lt0 c =
    let level = c.args.level.now in
    let lower = c.args.lower.now in
    let value =
    read_result c.cross_difference-gain.result c.cross_difference-gain.type_inv
    ∙ c.cross_difference-gain.ensures.value
    ∙ ap₂ (λ x y. x -ℤ y)
    (ap₂ (λ x y. x *ℤ y) (read_within (2 ^ 62) level.num c.requires.level.num (lit< tt)) (read_within (2 ^ 62) lower.den c.requires.lower.den (lit< tt)))
    (ap₂ (λ x y. x *ℤ y) (read_within (2 ^ 62) lower.num c.requires.lower.num (lit< tt)) (read_within (2 ^ 62) level.den c.requires.level.den (lit< tt))) in
    pair-never _ _ _ value c.if-gain-lt0.true

pub returns : goal.returns
returns c =
    let level = c.args.level.now in
    let lower = c.args.lower.now in
    let value =
    read_result c.cross_difference-gain.result c.cross_difference-gain.type_inv
    ∙ c.cross_difference-gain.ensures.value
    ∙ ap₂ (λ x y. x -ℤ y)
    (ap₂ (λ x y. x *ℤ y) (read_within (2 ^ 62) level.num c.requires.level.num (lit< tt)) (read_within (2 ^ 62) lower.den c.requires.lower.den (lit< tt)))
    (ap₂ (λ x y. x *ℤ y) (read_within (2 ^ 62) lower.num c.requires.lower.num (lit< tt)) (read_within (2 ^ 62) level.den c.requires.level.den (lit< tt))) in
    pair-second _ _ _ _ value (read_result c.more_benefit.result c.more_benefit.type_inv ∙ c.more_benefit.ensures) c.if-gain-gt0.false c.if-gain-lt0.false

use Rattle.std.proofs.Common.{◌≡◌, ◌^◌, to_z, sym, ap, ◌∙◌, subst}
use Rattle.std.proofs.lemmas.Int.{to_z-of_z}
use mir.Syntax.{w128}
use Rattle.md_math.specs.Divisors.{Divides}
use Rattle.md_math.proofs.Bits.{read_result}
use Rattle.md_dict_division.proofs.Reading.{read_wide}
use Rattle.md_dict.proofs.LeastMultiples.{small_divisor, small_multiple, IsMultipleOfTwo-divides}
use Rattle.md_dict.proofs.fill.Filled.with.Goals as goal

pub returns-then-den-self-clause-multiple : goal.returns-then-den-self-clause-multiple
returns-then-den-self-clause-multiple c =
    let f = c.args.self.now in
    let small = small_multiple f.den c.args.den c.requires.room in
    let same : c.args.den ≡ f.last = sym (to_z-of_z w128 c.args.den c.ranges.den) ∙ ap (to_z w128) c.if-den-self.true ∙ read_wide f.last (small_divisor f.last f.den (2 ^ 126) c.requires.multiple small c.requires.last) in
    IsMultipleOfTwo-divides f.den c.args.den c.requires.multiple (subst (λ z. Divides z f.den) (sym same) c.requires.last)

pub returns-then-den-self-clause-size : goal.returns-then-den-self-clause-size
returns-then-den-self-clause-size c = small_multiple c.args.self.now.den c.args.den c.requires.room

pub returns-clause-last : goal.returns-clause-last
returns-clause-last c = rw (read_result c.with_multiple.result c.with_multiple.type_inv) c.with_multiple.ensures.multiple.right

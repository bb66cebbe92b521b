use Rattle.std.proofs.Common.{◌≡◌, ◌∙◌, ◌-◌, ◌^◌, pos, ap, not, sym, to_z, of_z, lit<, arith}
use mathlib.Core.Bool.{false≢true}
use mir.Syntax.{w128}
use Rattle.std.proofs.lemmas.Int.{ints, to_z-of_z}
use Rattle.md_math.specs.Lists.{number_at}
use Rattle.md_math.proofs.Bits.{read_within, read_result}
use Rattle.md_lp.specs.Point.{right_sum, cost_sum}
use Rattle.md_cert.specs.Fault.{IsFraction}
use Rattle.md_cert.proofs.Fractions.{same_products, same_fraction, same-numbers, numbers-same, not-other}
use Rattle.md_cert.proofs.check.right_fault.Goals as goal

pub returns-then-ne : goal.returns-then-ne
returns-then-ne c =
    let p = c.args.lp.now in
    let over : to_z w128 (of_z w128 c.args.bound.now.den) ≡ c.args.bound.now.den = read_within (2 ^ 62 - 1) c.args.bound.now.den c.requires.bound.den.size (lit< tt) in
    let den : to_z w128 (of_z w128 c.args.den) ≡ c.args.den = to_z-of_z w128 c.args.den c.ranges.den in
    let sum : c.right_sum-sum.result ≡ pos 0 = grind (arith, ints) in
    let zero : right_sum p (number_at c.args.bound.now.face) ≡ pos 0 = sym c.right_sum-sum.ensures.value ∙ sum in
    let limit : IsFraction (right_sum p (number_at c.args.bound.now.main)) c.args.bound.now.den c.reduced-limit.result =
    record { least = c.reduced-limit.ensures.least; value = rw (over, read_result c.right_sum.result c.right_sum.type_inv, c.right_sum.ensures.value) at c.reduced-limit.ensures.value } in
    let cost : IsFraction (cost_sum p (number_at c.args.point.now)) c.args.den c.reduced-cost.result =
    record { least = c.reduced-cost.ensures.least; value = rw (den, read_result c.cost_sum.result c.cost_sum.type_inv, c.cost_sum.ensures.value) at c.reduced-cost.ensures.value } in
    let same = same_fraction _ _ _ _ _ _ c.requires.bound.den.positive c.requires.denominator.positive limit cost in
    (zero, λ e. false≢true (sym (c.ne.ensures ∙ ap not (numbers-same c.reduced-limit.result c.reduced-cost.result (same e))) ∙ c.if-ne.true), limit, cost)

pub returns : goal.returns
returns c =
    let p = c.args.lp.now in
    let over : to_z w128 (of_z w128 c.args.bound.now.den) ≡ c.args.bound.now.den = read_within (2 ^ 62 - 1) c.args.bound.now.den c.requires.bound.den.size (lit< tt) in
    let den : to_z w128 (of_z w128 c.args.den) ≡ c.args.den = to_z-of_z w128 c.args.den c.ranges.den in
    let sum : c.right_sum-sum.result ≡ pos 0 = grind (arith, ints) in
    let zero : right_sum p (number_at c.args.bound.now.face) ≡ pos 0 = sym c.right_sum-sum.ensures.value ∙ sum in
    let limit : IsFraction (right_sum p (number_at c.args.bound.now.main)) c.args.bound.now.den c.reduced-limit.result =
    record { least = c.reduced-limit.ensures.least; value = rw (over, read_result c.right_sum.result c.right_sum.type_inv, c.right_sum.ensures.value) at c.reduced-limit.ensures.value } in
    let cost : IsFraction (cost_sum p (number_at c.args.point.now)) c.args.den c.reduced-cost.result =
    record { least = c.reduced-cost.ensures.least; value = rw (den, read_result c.cost_sum.result c.cost_sum.type_inv, c.cost_sum.ensures.value) at c.reduced-cost.ensures.value } in
    (zero, same_products _ _ _ _ _ _ limit cost (same-numbers c.reduced-limit.result c.reduced-cost.result (not-other _ (sym c.ne.ensures ∙ c.if-ne.false))))

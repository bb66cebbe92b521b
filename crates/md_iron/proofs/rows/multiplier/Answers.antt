use Rattle.std.proofs.Common.{◌≡◌, ◌<◌, to_z, of_z, Some, sym, ap, subst, ◌∙◌, arith}
use Rattle.std.specs.Prelude.{slice_get}
use mir.Syntax.{w128}
use Rattle.md_math.proofs.Bits.{read_result}
use Rattle.md_setting.specs.Auction.{value_count}
use Rattle.md_reduced.specs.Conditions.{conditions_of}
use Rattle.md_reduced.specs.declared.condition.ReducedCondition.TheVariants.{Cut}
use Rattle.md_iron_laws.specs.Rows.{cut_row}
use Rattle.md_iron_pools.specs.Pooling.{pools_of}
use Rattle.md_iron.specs.RowMultipliers.{IsMultiplierOf}
use Rattle.md_iron.proofs.ConditionRows.{at-truth, at-rational, at-cut, cut-at}
use Rattle.md_iron.proofs.rows.multiplier.Goals as goal

pub returns-in-Truth-clause-multiplier : goal.returns-in-Truth-clause-multiplier
returns-in-Truth-clause-multiplier c =
    let factor : to_z w128 (of_z w128 c.cost_factor-factor.result) ≡ c.args.lp.now.factor = read_result c.cost_factor-factor.result c.cost_factor-factor.type_inv ∙ c.cost_factor-factor.ensures.value in
    at-truth c.args.auction.now c.args.units (pools_of c.args.pools.now) c.args.lp.now c.args.cuts.now c.args.row c.in-Truth.kind c.in-Truth.other c.truth_multiplier.result c.requires.cuts
    (c.condition_at.ensures.is ∙ ap Some c.in-Truth.is) (λ divisor. rw factor at (c.truth_multiplier.ensures.multiplier divisor))

pub returns-in-Rational-clause-multiplier : goal.returns-in-Rational-clause-multiplier
returns-in-Rational-clause-multiplier c =
    let factor : to_z w128 (of_z w128 c.cost_factor-factor.result) ≡ c.args.lp.now.factor = read_result c.cost_factor-factor.result c.cost_factor-factor.type_inv ∙ c.cost_factor-factor.ensures.value in
    at-rational c.args.auction.now c.args.units (pools_of c.args.pools.now) c.args.lp.now c.args.cuts.now c.args.row c.in-Rational.kind c.rational_multiplier.result c.requires.cuts
    (c.condition_at.ensures.is ∙ ap Some c.in-Rational.is) (λ divisor. rw factor at (c.rational_multiplier.ensures.multiplier (pools_of c.args.pools.now) divisor))

pub cut_divisor-divisor-requires-clause-positive : goal.cut_divisor-divisor-requires-clause-positive
cut_divisor-divisor-requires-clause-positive c =
    (cut-at c.args.auction.now c.args.units (pools_of c.args.pools.now) c.args.lp.now c.args.cuts.now c.args.row c.in-Cut.set c.kinds-shaped.ensures.shaped (omega (arith, c.requires.units.some)) c.requires.program c.requires.cuts (c.condition_at.ensures.is ∙ ap Some c.in-Cut.is)).1.positive

pub cut_divisor-divisor-requires-clause-divides : goal.cut_divisor-divisor-requires-clause-divides
cut_divisor-divisor-requires-clause-divides c =
    (cut-at c.args.auction.now c.args.units (pools_of c.args.pools.now) c.args.lp.now c.args.cuts.now c.args.row c.in-Cut.set c.kinds-shaped.ensures.shaped (omega (arith, c.requires.units.some)) c.requires.program c.requires.cuts (c.condition_at.ensures.is ∙ ap Some c.in-Cut.is)).1.divides

pub cut_multiplier-requires-clause-start_in : goal.cut_multiplier-requires-clause-start_in
cut_multiplier-requires-clause-start_in c =
    let (s, cut) = cut-at c.args.auction.now c.args.units (pools_of c.args.pools.now) c.args.lp.now c.args.cuts.now c.args.row c.in-Cut.set c.kinds-shaped.ensures.shaped (omega (arith, c.requires.units.some)) c.requires.program c.requires.cuts (c.condition_at.ensures.is ∙ ap Some c.in-Cut.is) in
    subst (λ i. i < value_count c.args.auction.now) (sym cut.lowest) cut.inside

pub returns-in-Cut-clause-multiplier : goal.returns-in-Cut-clause-multiplier
returns-in-Cut-clause-multiplier c =
    let a = c.args.auction.now in
    let pools = pools_of c.args.pools.now in
    let factor : to_z w128 (of_z w128 c.cost_factor-factor.result) ≡ c.args.lp.now.factor = read_result c.cost_factor-factor.result c.cost_factor-factor.type_inv ∙ c.cost_factor-factor.ensures.value in
    let is : slice_get (conditions_of (value_count c.args.auction.now) c.args.cuts.now) c.args.row ≡ Some (Cut c.in-Cut.set) = c.condition_at.ensures.is ∙ ap Some c.in-Cut.is in
    let (s, cut) = cut-at a c.args.units pools c.args.lp.now c.args.cuts.now c.args.row c.in-Cut.set c.kinds-shaped.ensures.shaped (omega (arith, c.requires.units.some)) c.requires.program c.requires.cuts is in
    at-cut a c.args.units pools c.args.lp.now c.args.cuts.now c.args.row c.in-Cut.set s c.cut_divisor-divisor.result c.cut_multiplier.result c.requires.cuts is cut c.cut_divisor-divisor.ensures.value
    (λ divisors e.
    subst (λ i. IsMultiplierOf a pools c.args.lp.now.factor divisors (cut_row i) c.cut_multiplier.result) cut.lowest
    (rw factor at (c.cut_multiplier.ensures.multiplier divisors (ap divisors cut.lowest ∙ e ∙ sym (read_result c.cut_divisor-divisor.result c.cut_divisor-divisor.type_inv)))))

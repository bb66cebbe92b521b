use Rattle.std.proofs.Common.{◌≡◌, ◌+◌, ◌*◌, ◌^◌, length, length-append, lit<, take, arith, ◌∙◌, sym, subst}
use Rattle.std.specs.Prelude.{flat_map}
use Rattle.md_math.specs.Lists.{number_at}
use Rattle.md_math.proofs.Bits.{read_result, read_within}
use Rattle.md_math.proofs.SizeLaws.{IsWithin-wider}
use Rattle.md_mech.specs.Accepted.{number_limit}
use Rattle.md_mech.specs.Rows.{conditions_of}
use Rattle.md_rows.specs.ProgramOf.{forms_of}
use Rattle.md_require.specs.RequireProgram.{condition_forms}
use Rattle.md_require.specs.Shadows.{AreToldShadows, from}
use Rattle.md_require.proofs.ConditionRows.{nothing_asked}
use Rattle.md_require.proofs.PriceLaws.{rows-inside, rows-next, told-next}
use Rattle.md_require.proofs.shadow_prices.told_shadows.Goals as goal

pub price_of-price-requires-clause-main : goal.price_of-price-requires-clause-main
price_of-price-requires-clause-main c =
    let s = c.args.setting.now in
    let conditions = c.args.conditions.now in
    let own = length (forms_of s (conditions_of s)) in
    let all : length c.args.bound.now.main ≡ own + length (flat_map (condition_forms s) conditions) =
    c.requires.bound.main.one_each ∙ length-append (forms_of s (conditions_of s)) (flat_map (condition_forms s) conditions) in
    omega (arith, all, rows-inside s conditions c.loop-condition.condition-index nothing_asked own c.loop-condition.first c.loop-condition-test.true c.loop-condition.invariant.row)

pub shadow-requires-clause-factor : goal.shadow-requires-clause-factor
shadow-requires-clause-factor c = rw (read_result c.cost_factor-factor.result c.cost_factor-factor.type_inv, c.cost_factor-factor.ensures.value) c.in_ok-lp.ensures.program.has_cost.factor

pub loop-condition-preserved : goal.loop-condition-preserved
loop-condition-preserved c =
    let s = c.args.setting.now in
    let conditions = c.args.conditions.now in
    let bound = c.args.bound.now in
    let main = number_at bound.main in
    let face = number_at bound.face in
    let own = length (forms_of s (conditions_of s)) in
    let i = c.loop-condition.condition-index in
    let first = c.loop-condition.first in
    let before = c.loop-condition.invariant in
    let price = c.price_of-price.result in
    let priced = c.price_of-price.ensures in
    let here = (rw (read_within number_limit bound.den c.requires.bound.den.size (lit< tt)) at c.shadow.ensures) (from first main) (from first face) priced.sum_is priced.firm_is in
    record {
      row = rows-next s conditions i nothing_asked own first price.row c.loop-condition-test.true before.row priced.row_is;
      told = subst (AreToldShadows s (take (i + 1) conditions) bound.den (from own main) (from own face)) (sym c.in_ok-push.ensures.items)
          (told-next s conditions i nothing_asked bound.den own first main face c.loop-condition.shadows.items c.shadow.result c.loop-condition-test.true before.row before.told here);
    }

pub shadow-requires-clause-sum_size : goal.shadow-requires-clause-sum_size
shadow-requires-clause-sum_size c =
    let s = c.args.setting.now in
    let conditions = c.args.conditions.now in
    let own = length (forms_of s (conditions_of s)) in
    let price = c.price_of-price.result in
    let priced = c.price_of-price.ensures in
    let all : length c.args.bound.now.main ≡ own + length (flat_map (condition_forms s) conditions) =
    c.requires.bound.main.one_each ∙ length-append (forms_of s (conditions_of s)) (flat_map (condition_forms s) conditions) in
    let inside = rows-inside s conditions c.loop-condition.condition-index nothing_asked own c.loop-condition.first c.loop-condition-test.true c.loop-condition.invariant.row in
    IsWithin-wider (price.row * 2 ^ 82) (2 ^ 94) price.sum (omega (arith, inside, all, priced.row_is, c.requires.bound.main.one_each, c.requires.conditions.few_rows)) priced.size

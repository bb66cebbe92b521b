use Rattle.std.proofs.Common.{◌^◌, sym, ap, ◌∙◌, refl, subst}
use Rattle.std.specs.Prelude.{All}
use Rattle.md_math.specs.Sizes.{IsWithin}
use Rattle.md_math.proofs.Bits.{read_result}
use Rattle.md_setting.specs.Rows.{column_count}
use Rattle.md_lp.specs.declared.row_kind.RowKind.TheVariants.{AtMost}
use Rattle.md_lp.specs.declared.term.Term.{Term}
use Rattle.md_lp.specs.Shape.{HasPlaces}
use Rattle.md_lp.proofs.ShapeLaws.{AllWithin-numbers_of}
use Rattle.md_forms.specs.Terms.{sum_at}
use Rattle.md_require.specs.Named.{named}
use Rattle.md_require.specs.RequireProgram.{amount_form, amount_in}
use Rattle.md_require.proofs.ConditionRows.{side-times}
use Rattle.md_require.proofs.divisors.amount_divisor.Goals as goal

pub row_divisor-requires : goal.row_divisor-requires
row_divisor-requires c =
    let terms = c.deref.result.now in
    let size = (rw (read_result c.bound.result c.bound.type_inv) at c.at_most-right.ensures.size) (2 ^ 44) c.bound.ensures.size in
    rw (read_result c.at_most-right.result c.at_most-right.type_inv)
    (AllWithin-numbers_of (2 ^ 44) (record { kind = AtMost; terms = terms; right = c.at_most-right.result }) size
    (subst (All (λ (t : Term). IsWithin (2 ^ 44) t.value)) (sym c.deref.ensures.value) c.in_ok-terms.ensures.placed.sizes))

pub returns-clause-divisor : goal.returns-clause-divisor
returns-clause-divisor c =
    let s = c.args.setting.now in
    let k = c.args.condition.now in
    let amount = named s c.args.amount in
    let divides = rw (read_result c.at_most-right.result c.at_most-right.type_inv) at c.row_divisor.ensures.divisor in
    rw (read_result c.row_divisor.result c.row_divisor.type_inv)
    (divides (column_count s) (amount_form s k amount) (subst (HasPlaces (column_count s)) (sym c.deref.ensures.value) c.in_ok-terms.ensures.placed.places)
    (record {
      kind_is = refl;
      left_is = λ x. ap (sum_at x) c.deref.ensures.value ∙ (rw (c.scaled-scaled.ensures.amount, c.scaled-scaled.ensures.scale) at c.in_ok-terms.ensures.sum) x ∙ side-times k.side k.den (amount_in s x amount);
      right_is = (rw (read_result c.bound.result c.bound.type_inv, c.bound.ensures.value) at c.at_most-right.ensures.value);
    }))

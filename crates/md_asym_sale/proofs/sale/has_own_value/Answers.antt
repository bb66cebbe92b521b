use Rattle.std.proofs.Common.{◌≡◌, refl, sym, ap, ◌∙◌}
use Rattle.md_math.proofs.Bits.{read_result}
use Rattle.md_mech.proofs.WholeLaws.{not_both}
use Rattle.md_asym_sale.specs.Values.{own_value}
use Rattle.md_asym_sale.proofs.sale.has_own_value.Goals as goal

pub returns-then-not-is_nonnegative : goal.returns-then-not-is_nonnegative
returns-then-not-is_nonnegative c = (
  λ h. not_both h,
  λ own. not_both (c.if-not-is_nonnegative.ensures.1 (rw (read_result c.value_at-utility.result c.value_at-utility.type_inv, c.value_at-utility.ensures) own.0)),
)

pub returns : goal.returns
returns c =
    let s = c.args.setting.now in
    let i = c.args.agent in
    let value = read_result c.value_at-utility.result c.value_at-utility.type_inv ∙ c.value_at-utility.ensures in
    let own = read_result c.own_value.result c.own_value.type_inv ∙ c.own_value.ensures.value ∙ ap (own_value s i) c.type_at-kind.ensures.value in (
      λ h. (
        rw (read_result c.value_at-utility.result c.value_at-utility.type_inv, c.value_at-utility.ensures) at (c.if-not-is_nonnegative.ensures.0 refl),
        sym value ∙ c.is_same.ensures.0 h ∙ own,
      ),
      λ both. c.is_same.ensures.1 (value ∙ both.1 ∙ sym own),
    )

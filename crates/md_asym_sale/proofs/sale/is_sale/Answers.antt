use Rattle.md_mech.proofs.WholeLaws.{not_both}
use Rattle.std.proofs.Common.{refl}
use Rattle.md_asym_sale.proofs.SaleLaws.{sale-tested, outside-of_sale, utilities-of_sale, independent-of_sale}
use Rattle.md_asym_sale.proofs.sale.is_sale.Goals as goal

pub returns-then-not-has_an_outcome_each : goal.returns-then-not-has_an_outcome_each
returns-then-not-has_an_outcome_each c = (λ h. not_both h, λ sale. not_both (c.if-not-has_an_outcome_each.ensures.tells.1 sale.one_more))

pub returns-then-not-has_few_types : goal.returns-then-not-has_few_types
returns-then-not-has_few_types c = (λ h. not_both h, λ sale. not_both (c.if-not-has_few_types.ensures.1 sale.few_types))

pub returns-then-not-is_interim : goal.returns-then-not-is_interim
returns-then-not-is_interim c = (λ h. not_both h, λ sale. not_both (c.if-not-is_interim.ensures.1 sale.interim))

pub returns-then-not-is_paid : goal.returns-then-not-is_paid
returns-then-not-is_paid c = (λ h. not_both h, λ sale. not_both (c.if-not-is_paid.ensures.1 sale.paid))

pub returns-then-not-has_no_negative_factor : goal.returns-then-not-has_no_negative_factor
returns-then-not-has_no_negative_factor c = (λ h. not_both h, λ sale. not_both (c.if-not-has_no_negative_factor.ensures.1 sale.revenue))

pub returns-then-not-has_nothing_outside : goal.returns-then-not-has_nothing_outside
returns-then-not-has_nothing_outside c = (λ h. not_both h, λ sale. not_both (c.if-not-has_nothing_outside.ensures.1 (outside-of_sale c.args.setting.now sale)))

pub returns-then-not-has_utilities : goal.returns-then-not-has_utilities
returns-then-not-has_utilities c = (
  λ h. not_both h,
  λ sale. not_both (c.if-not-has_utilities.ensures.1 (utilities-of_sale c.args.setting.now sale c.if-not-has_an_outcome_each.ensures.shaped)),
)

pub returns : goal.returns
returns c = (
  λ h. sale-tested c.args.setting.now (c.if-not-has_an_outcome_each.ensures.tells.0 refl) (c.if-not-has_few_types.ensures.0 refl) (c.if-not-is_interim.ensures.0 refl) (c.if-not-is_paid.ensures.0 refl)
      (c.if-not-has_no_negative_factor.ensures.0 refl) (c.if-not-has_nothing_outside.ensures.0 refl) (c.if-not-has_utilities.ensures.0 refl) (c.is_independent.ensures.0 h),
  λ sale. c.is_independent.ensures.1 (independent-of_sale c.args.setting.now sale),
)

use Rattle.std.proofs.Common.{◌≡◌, pos, refl, sym, ◌∙◌, arith, below_more}
use Rattle.md_math.proofs.Bits.{read_result}
use Rattle.md_mech.proofs.WholeLaws.{not_both}
use Rattle.md_setting.specs.Meaning.{outside_of}
use Rattle.md_asym_sale.proofs.sale.agent_has_nothing_outside.Goals as goal

pub returns-then-not-is_zero : goal.returns-then-not-is_zero
returns-then-not-is_zero c = (
  λ h. not_both h,
  λ all. not_both (c.if-not-is_zero.ensures.1 (read_result c.outside.result c.outside.type_inv ∙ c.outside.ensures.value ∙ all.each c.loop-kind.kind (omega (arith, c.loop-kind-test.true, c.types-kind-end.ensures.count)))),
)

pub loop-kind-preserved : goal.loop-kind-preserved
loop-kind-preserved c =
    below_more (λ a. outside_of c.args.setting.now c.args.agent a ≡ pos 0) c.loop-kind.kind c.loop-kind.invariant
    (sym (read_result c.outside.result c.outside.type_inv ∙ c.outside.ensures.value) ∙ c.if-not-is_zero.ensures.0 refl)

pub returns : goal.returns
returns c = (λ h. record { each = λ k b. c.loop-kind.invariant k (omega (arith, b, c.loop-kind-test.false, c.types-kind-end.ensures.count)) }, λ all. refl)

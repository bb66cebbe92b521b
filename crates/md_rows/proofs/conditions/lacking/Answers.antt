use Rattle.std.proofs.Common.{◌≡◌, ◌+◌, ◌*◌, ◌^◌, pos, ◌-ℤ◌, ◌*ℤ◌, neg_ℤ, ap, sym, ◌∙◌, subst, arith, lit<}
use Rattle.md_math.specs.Sizes.{IsWithin}
use Rattle.md_math.proofs.Ring.{linear}
use Rattle.md_math.proofs.SizeLaws.{IsWithin-sub, IsWithin-zero, IsWithin-wider, IsWithin-*ℤ}
use Rattle.md_math.proofs.Bits.{read_result, read_within}
use Rattle.md_setting.specs.Meaning.{outside_of, marginal_of}
use Rattle.md_rows.proofs.conditions.lacking.Goals as goal

pub returns : goal.returns
returns c =
    let s = c.args.setting.now in
    let less : IsWithin (0 + 1000000) (pos 0 -ℤ c.outside.result) = IsWithin-sub 0 1000000 (pos 0) c.outside.result (IsWithin-zero 0) c.outside.ensures.size in
    let e = rw (read_result c.outside.result c.outside.type_inv, read_result c.marginal.result c.marginal.type_inv, read_within (0 + 1000000) (pos 0 -ℤ c.outside.result) less (lit< tt)) at c.product.ensures.value in
    let minus : pos 0 -ℤ c.outside.result ≡ neg_ℤ (outside_of s c.args.agent c.args.kind) = omega (arith, linear, ap neg_ℤ c.outside.ensures.value) in
    let value : c.product.result ≡ neg_ℤ (outside_of s c.args.agent c.args.kind) *ℤ marginal_of s c.args.agent c.args.kind =
    e ∙ ap (λ z. z *ℤ c.marginal.result) minus ∙ ap (λ z. neg_ℤ (outside_of s c.args.agent c.args.kind) *ℤ z) c.marginal.ensures.value in
    rw (read_result c.product.result c.product.type_inv) (record {
      value = value;
      size = subst (IsWithin (2 ^ 44)) (sym e) (IsWithin-wider ((0 + 1000000) * 1000000) (2 ^ 44) ((pos 0 -ℤ c.outside.result) *ℤ c.marginal.result) (omega arith)
          (IsWithin-*ℤ (0 + 1000000) 1000000 (pos 0 -ℤ c.outside.result) c.marginal.result less c.marginal.ensures.size));
    })

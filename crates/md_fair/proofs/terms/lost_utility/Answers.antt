use Rattle.std.proofs.Common.{◌≡◌, ◌+◌, ◌*◌, ◌^◌, pos, ◌-ℤ◌, ◌*ℤ◌, neg_ℤ, ap, sym, ◌∙◌, subst, arith, lit<}
use Rattle.md_math.specs.Sizes.{IsWithin}
use Rattle.md_math.proofs.Ring.{linear}
use Rattle.md_math.proofs.SizeLaws.{IsWithin-sub, IsWithin-zero, IsWithin-wider, IsWithin-*ℤ}
use Rattle.md_math.proofs.Bits.{read_result, read_within}
use Rattle.md_space.specs.Profiles.{profile_at}
use Rattle.md_setting.specs.Meaning.{sizes_of, utility_of, weight_of}
use Rattle.md_fair.proofs.terms.lost_utility.Goals as goal

pub returns : goal.returns
returns c =
    let s = c.args.setting.now in
    let t = profile_at (sizes_of s) c.args.rank in
    let less : IsWithin (0 + 1000000) (pos 0 -ℤ c.weight.result) = IsWithin-sub 0 1000000 (pos 0) c.weight.result (IsWithin-zero 0) c.weight.ensures.size in
    let e = rw (read_result c.weight.result c.weight.type_inv, read_result c.utility.result c.utility.type_inv, read_within (0 + 1000000) (pos 0 -ℤ c.weight.result) less (lit< tt)) at c.product.ensures.value in
    let minus : pos 0 -ℤ c.weight.result ≡ neg_ℤ (weight_of s t) = omega (arith, linear, ap neg_ℤ c.weight.ensures.value) in
    let value : c.product.result ≡ neg_ℤ (weight_of s t) *ℤ utility_of s c.args.agent t c.args.outcome =
    e ∙ ap (λ z. z *ℤ c.utility.result) minus ∙ ap (λ z. neg_ℤ (weight_of s t) *ℤ z) c.utility.ensures.value in
    rw (read_result c.product.result c.product.type_inv) (record {
      value = value;
      size = subst (IsWithin (2 ^ 44)) (sym e) (IsWithin-wider ((0 + 1000000) * 1000000) (2 ^ 44) ((pos 0 -ℤ c.weight.result) *ℤ c.utility.result) (omega arith)
          (IsWithin-*ℤ (0 + 1000000) 1000000 (pos 0 -ℤ c.weight.result) c.utility.result less c.utility.ensures.size));
    })

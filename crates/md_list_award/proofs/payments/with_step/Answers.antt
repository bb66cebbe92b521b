use Rattle.std.proofs.Common.{◌+◌, ◌*◌, ◌-ℤ◌, to_z, of_z, ap₂, ◌∙◌, lit<}
use mir.Syntax.{w64}
use Rattle.md_math.proofs.Bits.{read_short_within}
use Rattle.md_math.proofs.Readings.{IsRead, read, read_small, add_product_is}
use Rattle.md_math.proofs.SizeLaws.{IsWithin-sub}
use Rattle.md_list_award.proofs.payments.with_step.Goals as goal

value : (c : goal.After-add_product) → IsRead c.from.result c.args.value
value c = record { fits = c.from.type_inv; is = c.from.ensures ∙ read_short_within 1000000 c.args.value c.requires.value (lit< tt) }

step : (c : goal.After-add_product) → IsRead c.from-2.result (c.args.amount -ℤ c.args.below)
step c = record {
  fits = c.from-2.type_inv;
  is = c.from-2.ensures
      ∙ ap₂ (λ x y. to_z w64 (of_z w64 (x -ℤ y))) (read_short_within 1000 c.args.amount c.requires.amount (lit< tt)) (read_short_within 1000 c.args.below c.requires.below (lit< tt))
      ∙ read_short_within (1000 + 1000) (c.args.amount -ℤ c.args.below) (IsWithin-sub 1000 1000 c.args.amount c.args.below c.requires.amount c.requires.below) (lit< tt);
}

pub returns : goal.returns
returns c =
    read _ _ (add_product_is c.add_product.result c.args.pays c.from.result c.from-2.result _ _ _ c.add_product.type_inv
    (read_small (64 * (1000000 * 1000)) c.args.pays c.requires.pays (lit< tt)) (value c) (step c) c.add_product.ensures.value)

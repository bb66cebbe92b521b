use Rattle.std.proofs.Common.{◌≡◌}
use Rattle.md_setting.specs.Meaning.{total_of}
use Rattle.md_asym_sale.specs.Products.{product_below}
use Rattle.md_asym_sale.proofs.products.total_of_others.Given as goal

abbrev pub invariant-loop : goal.invariant-loop
invariant-loop l = l.power ≡ product_below l.counter (λ _. total_of l.setting)

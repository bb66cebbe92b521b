use Rattle.std.proofs.Common.{◌≡◌}
use Rattle.md_math.specs.Lists.{list_to, number_at}
use Rattle.md_asym_sale.specs.Forms.{pay_in}
use Rattle.md_asym_solve.proofs.payments.pays_of.Given as goal

abbrev pub invariant-loop-pair : goal.invariant-loop-pair
invariant-loop-pair l = l.pays ≡ list_to l.pair (pay_in l.setting (number_at l.point))

use Rattle.std.proofs.Common.{◌*◌, ap, sym, ◌∙◌, nat_le}
use Rattle.md_setting.proofs.Divisors.{small_once_divided}
use Rattle.md_setting.proofs.grouped_weights.has_small_total.Goals as goal

pub returns : goal.returns
returns c =
    c.is_small_total.ensures
    ∙ ap (λ total. nat_le total (c.divisor_of.result * 1000000)) c.total_of.ensures
    ∙ sym (small_once_divided c.args.weights.now c.divisor_of.result c.divisor_of.ensures)

use Rattle.std.proofs.Common.{◌≡◌, ◌-◌, ◌*◌, ap, arith}
use Rattle.md_setting.specs.Auction.{value_count}
use Rattle.md_reduced.proofs.ConditionLaws.{conditions-length, conditions-few}
use Rattle.md_lp.proofs.CutLaws.{cuts-at_most}
use Rattle.md_reduced.proofs.condition.row_count.Goals as goal

total : (c : goal.After-len) → c.kinds-kinds.result * (c.kinds-kinds.result - 1) ≡ value_count c.args.auction.now * (value_count c.args.auction.now - 1)
total c = ap (λ m. m * (m - 1)) c.kinds-kinds.ensures.count

pub overflow_cast-result : goal.overflow_cast-result
overflow_cast-result c =
    record { fits = omega (arith, c.len.ensures, cuts-at_most (value_count c.args.auction.now) c.args.cuts.now c.requires c.kinds-kinds.ensures.shaped.few_values) }

pub overflow_add-result-2 : goal.overflow_add-result-2
overflow_add-result-2 c =
    let k = value_count c.args.auction.now in
    record {
      fits = omega (arith, c.len.ensures, c.kinds-kinds.ensures.count, total c, conditions-length k c.args.cuts.now, conditions-few k c.args.cuts.now c.kinds-kinds.ensures.shaped.few_values c.requires);
    }

pub returns : goal.returns
returns c = omega (arith, c.len.ensures, c.kinds-kinds.ensures.count, total c, conditions-length (value_count c.args.auction.now) c.args.cuts.now)

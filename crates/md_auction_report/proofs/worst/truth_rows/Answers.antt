use Rattle.std.proofs.Common.{◌≡◌, ℕ, ◌-◌, ◌*◌, ◌≤◌, mul-le-mul, ap, ◌∙◌, sym, arith}
use Rattle.md_setting.specs.Auction.{value_count}
use Rattle.md_reduced.proofs.ConditionLaws.{truths-length}
use Rattle.md_auction_report.proofs.worst.truth_rows.Goals as goal

few : (n : ℕ) → n ≤ 12 → n * (n - 1) ≤ 132
few n h = mul-le-mul h (let e : n - 1 ≤ 11 = omega (arith, h) in e)

total : (c : goal.After-kinds-kinds) → c.kinds-kinds.result * (c.kinds-kinds.result - 1) ≡ value_count c.args.auction.now * (value_count c.args.auction.now - 1)
total c = ap (λ m. m * (m - 1)) c.kinds-kinds.ensures.count

pub returns-clause-count : goal.returns-clause-count
returns-clause-count c = total c ∙ sym (truths-length (value_count c.args.auction.now))

pub returns-clause-few : goal.returns-clause-few
returns-clause-few c = omega (arith, total c, few (value_count c.args.auction.now) c.kinds-kinds.ensures.shaped.few_values)

use Rattle.std.proofs.Common.{◌≡◌, ◌*◌, ◌≤◌, take}
use Rattle.md_setting.specs.Auction.{total_weight}
use Rattle.md_setting.proofs.auction_limits.total_weight.Given as goal

abbrev pub invariant-loop-weight : goal.invariant-loop-weight
invariant-loop-weight l = (l.total ≡ total_weight (take l.weight-index l.weights)) × (l.total ≤ l.weight-index * 1000000)

use Rattle.std.proofs.Common.{◌≡◌, ◌*◌, ◌^◌, ◌≤◌, take, map, unsigned_abs}
use Rattle.md_setting.specs.Auction.{total_weight}
use Rattle.md_setting.proofs.grouped_weights.total_of.Given as goal

abbrev pub invariant-loop-weight : goal.invariant-loop-weight
invariant-loop-weight l = (l.total ≡ total_weight (map unsigned_abs (take l.weight-index l.weights))) × (l.total ≤ l.weight-index * 2 ^ 63)

use Rattle.std.proofs.Common.{◌≡◌, take, map}
use Rattle.std.specs.Prelude.{unsigned_abs}
use Rattle.md_setting.proofs.auction_limits.sizes_of.Given as goal

abbrev pub invariant-loop-weight : goal.invariant-loop-weight
invariant-loop-weight l = l.sizes.items ≡ map unsigned_abs (take l.weight-index l.weights)

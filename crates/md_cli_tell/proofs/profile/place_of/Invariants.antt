use Rattle.std.proofs.Common.{◌≢◌, ℕ, ◌<◌}
use Rattle.md_math.specs.Lists.{number_at}
use Rattle.md_cli_tell.proofs.profile.place_of.Given as goal

abbrev pub invariant-loop-kind : goal.invariant-loop-kind
invariant-loop-kind l = (k : ℕ) → k < l.kind → number_at l.auction.values k ≢ l.value

use Rattle.std.proofs.Common.{◌≡◌, length}
use Rattle.md_math.specs.Lists.{number_at}
use Rattle.md_iron.specs.Shares.{AreShares}
use Rattle.md_iron.proofs.shares.shares.Given as goal

abbrev pub invariant-loop-k : goal.invariant-loop-k
invariant-loop-k l = (length l.main ≡ l.k) × AreShares l.k l.fractions l.over (number_at l.main)

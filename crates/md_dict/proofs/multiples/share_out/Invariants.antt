use Rattle.std.proofs.Common.{◌≡◌, ◌*ℤ◌}
use Rattle.md_dict.proofs.LeastMultiples.{AreShares}
use Rattle.md_dict.proofs.multiples.share_out.Given as goal

abbrev pub invariant-loop-k : goal.invariant-loop-k
invariant-loop-k l = AreShares l.multiple l.dens l.shares l.k × (l.share *ℤ l.den ≡ l.multiple)

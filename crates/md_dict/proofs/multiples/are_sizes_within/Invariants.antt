use Rattle.std.proofs.Common.{ℕ, ◌<◌, ◌*ℤ◌}
use Rattle.md_math.specs.Lists.{number_at}
use Rattle.md_math.specs.Sizes.{IsWithin}
use Rattle.md_dict.proofs.multiples.are_sizes_within.Given as goal

abbrev pub invariant-loop-k : goal.invariant-loop-k
invariant-loop-k l = (k : ℕ) → k < l.k → IsWithin l.limit (number_at l.shares k *ℤ number_at l.sizes k)

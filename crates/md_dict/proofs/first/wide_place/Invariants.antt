use Rattle.std.proofs.Common.{◌+◌, ◌*◌}
use Rattle.md_math.specs.Lists.{number_at}
use Rattle.md_math.specs.Sizes.{IsWithin}
use Rattle.md_math.specs.FirstFailure.{HoldsBelow}
use Rattle.md_dict.proofs.first.wide_place.Given as goal

abbrev pub invariant-loop-place : goal.invariant-loop-place
invariant-loop-place l = HoldsBelow l.place (λ s. IsWithin l.limit (number_at l.kept (l.row * (l.columns + 1) + s)))

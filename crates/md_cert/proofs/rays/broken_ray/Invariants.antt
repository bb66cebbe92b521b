use Rattle.md_math.specs.FirstFailure.{HoldsBelow}
use Rattle.md_math.specs.Lists.{number_at}
use Rattle.md_cert.specs.Certified.{RayHolds}
use Rattle.md_cert.proofs.rays.broken_ray.Given as goal

abbrev pub invariant-loop-row : goal.invariant-loop-row
invariant-loop-row l = HoldsBelow l.row (RayHolds l.lp (number_at l.ray))

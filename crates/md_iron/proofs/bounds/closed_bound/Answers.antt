use Rattle.std.proofs.Common.{subst, arith}
use Rattle.md_reduced.specs.ProgramOf.{IsReducedProgram}
use Rattle.md_iron_pools.specs.Pooling.{pools_of}
use Rattle.md_iron.proofs.BoundLaws.{bound-end}
use Rattle.md_iron.proofs.bounds.closed_bound.Goals as goal

pub returns : goal.returns
returns c =
    let a = c.args.auction.now in
    bound-end a c.args.units (pools_of c.args.pools.now) c.in_ok-lp.lp c.in_ok-fractions.fractions.items c.kinds-shaped.ensures.shaped (omega (arith, c.requires.units.some)) c.requires.pooling.pooled
    (subst (λ xs. IsReducedProgram a c.args.units xs c.in_ok-lp.lp) c.requires.cuts c.in_ok-lp.ensures.program) c.in_ok-fractions.ensures.least c.in_ok-fractions.ensures.count c.in_ok-fractions.ensures.multipliers c.over_one.result
    (rw c.as_slice.ensures.value at c.over_one.ensures.none) (rw c.as_slice.ensures.value at c.over_one.ensures.least) (rw c.as_slice.ensures.value at c.over_one.ensures.main) (rw c.as_slice.ensures.value at c.over_one.ensures.face)

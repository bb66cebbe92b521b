use Rattle.std.proofs.Common.{◌≡◌, ◌-◌, ◌^◌, to_z, of_z, lit<}
use mir.Syntax.{w128}
use Rattle.md_math.proofs.Bits.{read_within}
use Rattle.md_cert.proofs.Duality.{claims, IfNone-claims}
use Rattle.md_cert.specs.declared.certificate.Certificate.TheVariants.{Optimal, Infeasible, Unbounded}
use Rattle.md_cert.proofs.check.check_lp.Goals as goal

pub returns-in-Optimal-clause-claims : goal.returns-in-Optimal-clause-claims
returns-in-Optimal-clause-claims c =
    let fits = rw c.in-Optimal.is at c.requires in
    let den : to_z w128 (of_z w128 c.in-Optimal.den) ≡ c.in-Optimal.den = read_within (2 ^ 62 - 1) c.in-Optimal.den fits.0.size (lit< tt) in
    let found = rw den at c.optimal_fault.ensures in
    rw c.in-Optimal.is (IfNone-claims c.args.lp.now (Optimal c.in-Optimal.den c.in-Optimal.point c.in-Optimal.bound) c.optimal_fault.result _ found)

pub returns-in-Optimal-clause-law : goal.returns-in-Optimal-clause-law
returns-in-Optimal-clause-law c = claims c.args.lp.now

pub returns-in-Infeasible-clause-claims : goal.returns-in-Infeasible-clause-claims
returns-in-Infeasible-clause-claims c = rw c.in-Infeasible.is (IfNone-claims c.args.lp.now (Infeasible c.in-Infeasible.face) c.infeasible_fault.result _ c.infeasible_fault.ensures)

pub returns-in-Infeasible-clause-law : goal.returns-in-Infeasible-clause-law
returns-in-Infeasible-clause-law c = claims c.args.lp.now

pub returns-in-Unbounded-clause-claims : goal.returns-in-Unbounded-clause-claims
returns-in-Unbounded-clause-claims c =
    let fits = rw c.in-Unbounded.is at c.requires in
    let den : to_z w128 (of_z w128 c.in-Unbounded.den) ≡ c.in-Unbounded.den = read_within (2 ^ 62 - 1) c.in-Unbounded.den fits.0.size (lit< tt) in
    let found = rw den at c.unbounded_fault.ensures in
    rw c.in-Unbounded.is (IfNone-claims c.args.lp.now (Unbounded c.in-Unbounded.den c.in-Unbounded.point c.in-Unbounded.ray) c.unbounded_fault.result _ found)

pub returns-in-Unbounded-clause-law : goal.returns-in-Unbounded-clause-law
returns-in-Unbounded-clause-law c = claims c.args.lp.now

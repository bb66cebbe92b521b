use Rattle.std.proofs.Common.{◌≡◌, ◌-◌, ◌^◌, to_z, of_z, subst, lit<}
use Rattle.std.proofs.lemmas.Result.{err_from_is_err_and}
use mir.Syntax.{w128}
use Rattle.md_math.proofs.Bits.{read_within}
use Rattle.md_lp.specs.Shape.{IsShaped}
use Rattle.md_cert.specs.Fitting.{Fits}
use Rattle.md_cert.specs.declared.certificate.Certificate.TheVariants.{Optimal}
use Rattle.md_cut_runs.proofs.Turning.{found, no-other_end, not-found}
use Rattle.md_cut_runs.proofs.turn.found.Goals as goal

pub unreachable-requires : goal.unreachable-requires
unreachable-requires g c =
    no-other_end (g.C.CutProgram.cutting c.args.problem.now) c.places-cutting.ensures.cutting c.args.cuts.now c.in-Ok.lp c.in_ok-certificate.field-0.certificate
    c.requires.singles c.in-Ok.ensures c.in_ok-certificate.ensures.certified c.in_default-certificate.not-Optimal

pub returns-clause-found : goal.returns-clause-found
returns-clause-found g c =
    let m = g.C.CutProgram.cutting c.args.problem.now in
    let sized : Fits c.in-Ok.lp (Optimal c.in-Optimal.den c.in-Optimal.point c.in-Optimal.bound) = subst (Fits c.in-Ok.lp) c.in-Optimal.is c.in_ok-certificate.ensures.fits in
    let same : to_z w128 (of_z w128 c.in-Optimal.den) ≡ c.in-Optimal.den = read_within (2 ^ 62 - 1) c.in-Optimal.den sized.0.size (lit< tt) in
    rw same
    (found m c.places-cutting.ensures.cutting c.args.width c.args.cuts.now c.in-Ok.lp c.in_ok-certificate.field-0
    (record { den = c.in-Optimal.den; point = c.in-Optimal.point; bound = c.in-Optimal.bound })
    c.requires.singles c.in-Ok.ensures c.in_ok-certificate.ensures.ok c.in_ok-certificate.ensures.certified c.in_ok-certificate.ensures.fits c.in-Optimal.is)

pub returns-in_err-certificate-clause-left : goal.returns-in_err-certificate-clause-left
returns-in_err-certificate-clause-left g c =
    let p = err_from_is_err_and c.from_residual.result c.from_residual.ensures.1 in
    rw (p.1, p.2)
    (not-found (g.C.CutProgram.cutting c.args.problem.now) c.args.width c.args.cuts.now c.in-Ok.lp c.in_err-certificate.field-0.0
    (subst IsShaped c.lp.view_is c.lp.invariant) c.limit-range.ensures.range.1 c.in-Ok.ensures c.in_err-certificate.ensures.left)

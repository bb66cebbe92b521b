use Rattle.std.proofs.Common.{sym, subst, arith}
use Rattle.md_parts.specs.Fitting.{IsRayFor}
use Rattle.md_question.proofs.RayFits.{ray-fits}
use Rattle.md_question_solve.proofs.read.unbounded.Goals as goal

pub payments_of-requires-clause-one_each : goal.payments_of-requires-clause-one_each
payments_of-requires-clause-one_each c =
    let ray = c.requires.fits.2 in
    omega (arith, ray.one_each, c.requires.program.columns)

pub returns-clause-fits : goal.returns-clause-fits
returns-clause-fits c =
    let s = c.args.setting.now in
    let ray = c.requires.fits.2 in
    let columns = c.requires.program.columns in (
      c.in_ok-mechanism.ensures.accepted,
      subst (IsRayFor s) (sym c.in_ok-payments_of.ensures) (ray-fits s c.args.ray.now (λ j l. ray.nonneg j (omega (arith, l, columns))) ray.sizes),
    )

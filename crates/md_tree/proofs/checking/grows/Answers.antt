use Rattle.std.proofs.Common.{sym, subst}
use Rattle.md_cert.specs.Fitting.{Fits}
use Rattle.md_claims.proofs.FitLaws.{fits-unbounded}
use Rattle.md_tree.proofs.checking.grows.Goals as goal

pub check_lp-requires : goal.check_lp-requires
check_lp-requires c =
    let p = c.in_ok-program.program in
    subst (Fits p) (sym c.in_ok-certificate.ensures)
    (fits-unbounded c.args.setting.now p c.args.mechanism.now c.args.ray.now c.in_ok-program.ensures.program.columns c.requires.accepted c.requires.ray)

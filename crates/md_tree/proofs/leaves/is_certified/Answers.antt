use Rattle.std.proofs.Common.{is_some}
use Rattle.md_cert.specs.Certified.{Certified}
use Rattle.md_cert.specs.Fitting.{Fits}
use Rattle.md_tree.proofs.FitLaws.{leaf-fits, leaf-judged, none-certified, of-certificate}
use Rattle.md_tree.proofs.leaves.is_certified.Goals as goal

pub check_lp-requires : goal.check_lp-requires
check_lp-requires c =
    let s = c.args.setting.now in
    let fixed = c.args.fixed.now in
    let leaf = c.args.leaf.now in
    let p = c.in_ok-program.program in
    of-certificate s (Fits p) leaf c.in_ok-certificate.certificate c.in_ok-certificate.ensures
    (leaf-fits s fixed leaf p c.in_ok-program.ensures.program c.in_ok-program.ensures.count c.requires.leaf)

pub returns : goal.returns
returns c =
    let p = c.in_ok-program.program in
    leaf-judged c.args.setting.now c.args.fixed.now c.args.leaf.now p c.in_ok-certificate.certificate c.is_none.result c.in_ok-program.ensures.program c.in_ok-certificate.ensures
    (none-certified (is_some c.check_lp.result) c.is_none.result (Certified p c.in_ok-certificate.certificate) c.is_none.ensures c.check_lp.ensures.certified)

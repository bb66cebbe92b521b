use Rattle.std.proofs.Common.{◌↔◌, IsNone, IfSome, sym, subst}
use Rattle.md_cert.specs.declared.certificate.Certificate.{Certificate}
use Rattle.md_cert.specs.Certified.{Certified}
use Rattle.md_cert.specs.Fault.{IsFirstFault}
use Rattle.md_cert.specs.Fitting.{Fits}
use Rattle.md_cut_check.specs.CutClaims.{certificate_of}
use Rattle.md_asym.specs.SaleVerdicts.{sale_claim}
use Rattle.md_asym.proofs.SaleClaims.{fits-sale}
use Rattle.md_asym.proofs.checking.judge_odds.Goals as goal

pub check_lp-fault-requires : goal.check_lp-fault-requires
check_lp-fault-requires c =
    let p = c.in_ok-lp.lp in
    subst (Fits p) (sym c.in_ok-certificate.ensures) (fits-sale c.args.setting.now c.args.answer.now c.requires.sale c.total-shaped.ensures.shaped c.requires.answer p c.in_ok-lp.ensures.program)

pub returns : goal.returns
returns c =
    let p = c.in_ok-lp.lp in
    let found = c.check_lp-fault.result in
    let stated = certificate_of (sale_claim c.args.setting.now c.args.answer.now) in
    let certified : IsNone found ↔ Certified p stated = subst (λ (w : Certificate). IsNone found ↔ Certified p w) c.in_ok-certificate.ensures c.check_lp-fault.ensures.certified in
    let told : IfSome found (IsFirstFault p stated) = subst (λ (w : Certificate). IfSome found (IsFirstFault p w)) c.in_ok-certificate.ensures c.check_lp-fault.ensures.fault in
    c.judge_fault.ensures p c.in_ok-lp.ensures.program certified told

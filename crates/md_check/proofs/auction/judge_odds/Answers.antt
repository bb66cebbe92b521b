use Rattle.std.proofs.Common.{◌↔◌, IsNone, IfSome, sym, subst}
use Rattle.md_cert.specs.declared.certificate.Certificate.{Certificate}
use Rattle.md_cert.specs.Certified.{Certified}
use Rattle.md_cert.specs.Fault.{IsFirstFault}
use Rattle.md_cert.specs.Fitting.{Fits}
use Rattle.md_claims.specs.AuctionCertificates.{auction_certificate}
use Rattle.md_check.proofs.AuctionLaws.{fits-auction}
use Rattle.md_check.proofs.auction.judge_odds.Goals as goal

pub check_lp-fault-requires : goal.check_lp-fault-requires
check_lp-fault-requires c =
    let p = c.in_ok-lp.lp in
    subst (Fits p) (sym c.in_ok-certificate.ensures) (fits-auction c.args.auction.now c.args.units c.args.cuts.now p c.args.interim.now c.args.bound.now c.in_ok-lp.ensures.program c.requires.interim c.requires.bound)

pub returns : goal.returns
returns c =
    let p = c.in_ok-lp.lp in
    let found = c.check_lp-fault.result in
    let stated = auction_certificate c.args.interim.now c.args.bound.now in
    let certified : IsNone found ↔ Certified p stated = subst (λ (w : Certificate). IsNone found ↔ Certified p w) c.in_ok-certificate.ensures c.check_lp-fault.ensures.certified in
    let told : IfSome found (IsFirstFault p stated) = subst (λ (w : Certificate). IfSome found (IsFirstFault p w)) c.in_ok-certificate.ensures c.check_lp-fault.ensures.fault in
    λ masses add_up. c.judge_fault.ensures p masses c.args.cuts.now c.args.bound.now c.in_ok-lp.ensures.program add_up certified told

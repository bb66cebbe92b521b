use Rattle.std.proofs.Common.{rules, ◌≡◌, IfSome, Some, to_z, of_z}
use mir.Syntax.{w128}
use Rattle.md_cert.specs.declared.cert_fault.CertFault.TheVariants as fault
use Rattle.md_cert.specs.Fault.{IsFirstFault}
use Rattle.md_claims.specs.AuctionCertificates.{auction_certificate}
use Rattle.md_question_check.specs.Certificates.{IsBehindPoint}
use Rattle.md_check.proofs.AuctionLaws.{told-row, told-value, told-fault}
use Rattle.md_check.proofs.auction.judge_fault.Goals as goal

pub returns-in-Some-Point : goal.returns-in-Some-Point
returns-in-Some-Point c = λ p masses cuts bound is add_up certified told.
    let interim = c.args.interim.now in
    let left : to_z w128 (of_z w128 c.in-Some-Point.left) ≡ c.in-Some-Point.left = search rules in
    let right : to_z w128 (of_z w128 c.in-Some-Point.right) ≡ c.in-Some-Point.right = search rules in
    let same : c.args.fault ≡ Some (fault.Point c.in-Some-Point.row c.in-Some-Point.left c.in-Some-Point.right) = search rules in
    let first : IsFirstFault p (auction_certificate interim bound) (fault.Point c.in-Some-Point.row c.in-Some-Point.left c.in-Some-Point.right) = rw same at told in
    rw (left, right) (told-row c.args.auction.now c.args.units c.args.value.now interim masses cuts bound p c.in-Some-Point.row c.in-Some-Point.left c.in-Some-Point.right is add_up first)

pub returns-in-Some : goal.returns-in-Some
returns-in-Some c = λ p masses cuts bound is add_up certified told.
    let behind : IfSome c.args.fault IsBehindPoint = search rules in
    told-value c.args.auction.now c.args.units c.args.value.now c.in-Some.right c.args.interim.now masses cuts bound p c.args.fault is c.requires.interim add_up behind certified told c.in-Some.ensures

pub returns : goal.returns
returns c = λ p masses cuts bound is add_up certified told.
    let behind : IfSome c.args.fault IsBehindPoint = search rules in
    told-fault c.args.auction.now c.args.units c.args.value.now c.args.interim.now masses cuts bound p c.args.fault c.verdict_by.result is c.requires.interim add_up behind certified told c.in_default-other_worth.ensures
    (c.verdict_by.ensures p (auction_certificate c.args.interim.now bound) certified told)

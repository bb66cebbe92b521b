use Rattle.std.proofs.Common.{rules, ◌≡◌, IfSome, Some, to_z, of_z}
use mir.Syntax.{w128}
use Rattle.md_cert.specs.declared.cert_fault.CertFault.TheVariants as fault
use Rattle.md_cert.specs.Fault.{IsFirstFault}
use Rattle.md_question_check.specs.Certificates.{IsBehindPoint}
use Rattle.md_cut_check.specs.CutClaims.{certificate_of}
use Rattle.md_cut_check.proofs.CutLaws.{told-row, told-value, told-fault}
use Rattle.md_asym.specs.SaleVerdicts.{sale_claim}
use Rattle.md_asym.proofs.SaleClaims.{sale-laws}
use Rattle.md_asym.proofs.checking.judge_fault.Goals as goal

pub returns-in-Some-Point : goal.returns-in-Some-Point
returns-in-Some-Point c = λ p is certified told.
    let s = c.args.setting.now in
    let answer = c.args.answer.now in
    let left : to_z w128 (of_z w128 c.in-Some-Point.left) ≡ c.in-Some-Point.left = search rules in
    let right : to_z w128 (of_z w128 c.in-Some-Point.right) ≡ c.in-Some-Point.right = search rules in
    let same : c.args.fault ≡ Some (fault.Point c.in-Some-Point.row c.in-Some-Point.left c.in-Some-Point.right) = search rules in
    let first : IsFirstFault p (certificate_of (sale_claim s answer)) (fault.Point c.in-Some-Point.row c.in-Some-Point.left c.in-Some-Point.right) = rw same at told in
    rw (left, right) (told-row (sale_claim s answer) (sale-laws s answer c.requires.sale c.requires.shaped c.requires.answer) p is c.in-Some-Point.row c.in-Some-Point.left c.in-Some-Point.right c.requires.add_up first)

pub returns-in-Some : goal.returns-in-Some
returns-in-Some c = λ p is certified told.
    let s = c.args.setting.now in
    let answer = c.args.answer.now in
    let behind : IfSome c.args.fault IsBehindPoint = search rules in
    told-value (sale_claim s answer) (sale-laws s answer c.requires.sale c.requires.shaped c.requires.answer) p is c.in-Some.right c.args.fault c.requires.add_up behind certified told c.in-Some.ensures

pub returns : goal.returns
returns c = λ p is certified told.
    let s = c.args.setting.now in
    let answer = c.args.answer.now in
    let behind : IfSome c.args.fault IsBehindPoint = search rules in
    told-fault (sale_claim s answer) (sale-laws s answer c.requires.sale c.requires.shaped c.requires.answer) p is c.args.fault c.verdict_by.result c.requires.add_up behind certified told c.in_default-other_worth.ensures
    (c.verdict_by.ensures p (certificate_of (sale_claim s answer)) certified told)

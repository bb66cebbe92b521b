use Rattle.std.proofs.Common.{sym, subst}
use Rattle.md_lp.specs.Program.{row_count}
use Rattle.md_question_solve.specs.Found.{reading_in}
use Rattle.md_question_solve.specs.Readings.{FitsReading, IsOfBestPoint, TellsCertificate}
use Rattle.md_question_solve.proofs.FoundLaws.{best-accepted, certified-told, finding-fits, of-best_point, own-points, where-best}
use Rattle.md_question_solve.proofs.finding.certified.Goals as goal

pub told-requires-clause-program : goal.told-requires-clause-program
told-requires-clause-program g c = rw c.setting.ensures.about (own-points (g.Q.Asks.asked c.args.question.now) c.setting.ensures.laws c.args.lp.now c.requires.program)

pub with_value-requires : goal.with_value-requires
with_value-requires g c =
    let q = g.Q.Asks.asked c.args.question.now in
    let p = c.args.lp.now in
    let fits : FitsReading q.setting (row_count p) c.in-Ok.reading = rw c.setting.ensures.about at c.in-Ok.ensures.fits in
    best-accepted q.setting (row_count p) c.in-Ok.reading fits

pub returns-in-Ok-clause-of_point : goal.returns-in-Ok-clause-of_point
returns-in-Ok-clause-of_point g c =
    let q = g.Q.Asks.asked c.args.question.now in
    let p = c.args.lp.now in
    let tells : TellsCertificate q.setting c.args.certificate c.in-Ok.reading = rw c.setting.ensures.about at c.in-Ok.ensures.tells in
    where-best (IsOfBestPoint q.setting p) c.with_value.result
    (of-best_point q.setting p c.args.certificate (reading_in c.with_value.result) c.requires.certified c.requires.fits (subst (TellsCertificate q.setting c.args.certificate) (sym c.with_value.ensures.read) tells))

pub returns-in-Ok-clause-finding : goal.returns-in-Ok-clause-finding
returns-in-Ok-clause-finding g c =
    let q = g.Q.Asks.asked c.args.question.now in
    let p = c.args.lp.now in
    let reading = c.in-Ok.reading in
    let found = c.with_value.result in
    let laws = c.setting.ensures.laws in
    let tells : TellsCertificate q.setting c.args.certificate reading = rw c.setting.ensures.about at c.in-Ok.ensures.tells in
    let fits : FitsReading q.setting (row_count p) reading = rw c.setting.ensures.about at c.in-Ok.ensures.fits in
    certified-told q laws p c.args.certificate found c.requires.program c.requires.certified
    (subst (TellsCertificate q.setting c.args.certificate) (sym c.with_value.ensures.read) tells) c.with_value.ensures.value
    (finding-fits q laws p found c.requires.program (subst (FitsReading q.setting (row_count p)) (sym c.with_value.ensures.read) fits) c.with_value.ensures.fraction)

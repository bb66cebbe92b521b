use Rattle.std.proofs.Common.{sym, subst}
use Rattle.md_lp.specs.Program.{row_count}
use Rattle.md_question_solve.specs.Readings.{FitsReading, IsOfBestPoint, TellsRun, WhereBest}
use Rattle.md_question_solve.proofs.FoundLaws.{best-accepted, finding-fits, own-points, where-best}
use Rattle.md_question_solve.proofs.solving.found.Goals as goal

pub read_program-requires : goal.read_program-requires
read_program-requires g c = rw c.setting.ensures.about (own-points (g.Q.Asks.asked c.args.question.now) c.setting.ensures.laws c.args.lp.now c.requires)

pub with_value-requires : goal.with_value-requires
with_value-requires g c =
    let q = g.Q.Asks.asked c.args.question.now in
    let p = c.args.lp.now in
    let fits : FitsReading q.setting (row_count p) c.in-Ok.reading = rw c.setting.ensures.about at c.in-Ok.ensures.fits in
    best-accepted q.setting (row_count p) c.in-Ok.reading fits

pub returns-in-Ok-clause-found : goal.returns-in-Ok-clause-found
returns-in-Ok-clause-found g c =
    let q = g.Q.Asks.asked c.args.question.now in
    let p = c.args.lp.now in
    let read : TellsRun q.setting p c.args.width c.in-Ok.reading = rw c.setting.ensures.about at c.in-Ok.ensures.read in
    (subst (TellsRun q.setting p c.args.width) (sym c.with_value.ensures.read) read, c.with_value.ensures.value)

pub returns-in-Ok-clause-of_point : goal.returns-in-Ok-clause-of_point
returns-in-Ok-clause-of_point g c =
    let q = g.Q.Asks.asked c.args.question.now in
    let P = IsOfBestPoint q.setting c.args.lp.now in
    let read : WhereBest P c.in-Ok.reading = rw c.setting.ensures.about at c.in-Ok.ensures.of_point in
    where-best P c.with_value.result (subst (WhereBest P) (sym c.with_value.ensures.read) read)

pub returns-in-Ok-clause-writable : goal.returns-in-Ok-clause-writable
returns-in-Ok-clause-writable g c =
    let q = g.Q.Asks.asked c.args.question.now in
    let p = c.args.lp.now in
    let fits : FitsReading q.setting (row_count p) c.in-Ok.reading = rw c.setting.ensures.about at c.in-Ok.ensures.fits in
    finding-fits q c.setting.ensures.laws p c.with_value.result c.requires (subst (FitsReading q.setting (row_count p)) (sym c.with_value.ensures.read) fits) c.with_value.ensures.fraction

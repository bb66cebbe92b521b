use Rattle.md_question_solve.proofs.FoundLaws.{of-best_point}
use Rattle.md_question_solve.proofs.WideFits.{wides-fit}
use Rattle.md_question_solve.proofs.read.read_program.Goals as goal

pub returns-in-Ok-told-clause-of_point : goal.returns-in-Ok-told-clause-of_point
returns-in-Ok-told-clause-of_point c =
    let s = c.args.setting.now in
    let p = c.args.lp.now in
    let certificate = c.in-Ok.end.certificate in
    of-best_point s p certificate c.in-Ok-told.reading c.in-Ok.ensures.certified c.in-Ok.ensures.fits c.in-Ok-told.ensures.tells

pub returns-clause-wide_writable : goal.returns-clause-wide_writable
returns-clause-wide_writable c = wides-fit c.args.lp.now c.args.width c.in-Err.error c.rows-shaped.ensures.shaped c.limit-range.ensures.range.1 c.in-Err.ensures.left

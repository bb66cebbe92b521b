use Rattle.md_simplex.specs.Runs.{IsLeft}
use Rattle.md_question_solve.proofs.FoundLaws.{if_err}
use Rattle.md_determ.specs.Readings.{IsLeftAt}
use Rattle.md_determ.proofs.Fits.{left-at, own-points}
use Rattle.md_determ.proofs.read.read_node.Goals as goal

pub read_program-requires : goal.read_program-requires
read_program-requires c = own-points c.args.setting.now c.args.fixed.now c.in-Ok.lp c.in-Ok.ensures.program

pub returns-clause-left : goal.returns-clause-left
returns-clause-left c =
    let s = c.args.setting.now in
    let fixed = c.args.fixed.now in
    let lp = c.in-Ok.lp in
    if_err c.read_program.result (IsLeft lp c.args.width) (IsLeftAt s c.args.width fixed) (λ e h. left-at s fixed lp c.args.width e c.in-Ok.ensures.program h) c.read_program.ensures.left

use Rattle.std.proofs.Common.{◌+◌, ◌*◌, ◌<◌}
use Rattle.md_determ_node.proofs.FixedTerms.{one-term, chance-inside}
use Rattle.md_determ_node.proofs.program.push_outcome.Goals as goal

pub push_form-requires-clause-placed : goal.push_form-requires-clause-placed
push_form-requires-clause-placed c =
    let column = c.args.rank * c.outcomes.result + c.args.outcome in
    let inside : column < c.args.lp.now.columns =
    rw (c.outcomes.ensures.count, c.requires.columns) (chance-inside c.args.setting.now c.args.rank c.args.outcome c.requires.rank_in c.requires.outcome_in) in
    one-term column c.args.lp.now.columns inside

use Rattle.std.proofs.Common.{subst}
use Rattle.md_determ.specs.Way.{IsAtNode}
use Rattle.md_determ.proofs.WayLaws.{infeasible-turn}
use Rattle.md_determ.proofs.visiting.take.Goals as goal

pub returns-in_ok-close-in-Infeasible : goal.returns-in_ok-close-in-Infeasible
returns-in_ok-close-in-Infeasible c =
    let s = c.args.setting.now in
    let old = c.args.search.now in
    infeasible-turn s old.width old c.close.new.self c.in-Infeasible.face (subst (IsAtNode s old.width old) c.in-Infeasible.is c.requires) c.in_ok-close-in-Infeasible.ensures

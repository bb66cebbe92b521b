use Rattle.md_determ.proofs.Decided.{decided}
use Rattle.md_determ.proofs.rules.is_deterministic.Goals as goal

pub returns : goal.returns
returns c = decided c.args.setting.now c.args.mechanism.now c.first_lottery.result c.is_none.result c.first_lottery.ensures c.is_none.ensures

use Rattle.md_require.proofs.StandingLaws.{met-known}
use Rattle.md_require.proofs.standing.is_met.Goals as goal

pub returns : goal.returns
returns c = met-known c.args.setting.now c.args.mechanism.now c.args.condition.now 0 c.missed.result c.is_none.result c.missed.ensures c.is_none.ensures

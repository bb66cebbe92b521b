use Rattle.md_replay.proofs.OneReplay.{decided_lawless, decided_replay}
use Rattle.md_replay.proofs.carrying.replay.Goals as goal

pub returns-clause-only : goal.returns-clause-only
returns-clause-only c = decided_replay c.args.lp.now c.args.width c.args.pivots.now c.carry_out.result c.carry_out.ensures.replayed c.carry_out.ensures.lawless

pub returns-clause-only_lawless : goal.returns-clause-only_lawless
returns-clause-only_lawless c = decided_lawless c.args.lp.now c.args.width c.args.pivots.now c.carry_out.result c.carry_out.ensures.replayed c.carry_out.ensures.lawless

use Rattle.md_replay.proofs.Carried.{replayed_first}
use Rattle.md_replay.proofs.carrying.at_first.Goals as goal

pub returns-in-TooWide-clause-replayed : goal.returns-in-TooWide-clause-replayed
returns-in-TooWide-clause-replayed c =
    λ p width listed refused. replayed_first p width listed c.untold.result c.in-TooWide.entry c.untold.ensures (rw c.in-TooWide.is at refused)

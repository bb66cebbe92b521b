use Rattle.md_flow.proofs.Touching.{IsNet-touched, over-touched, pairs-touched}
use Rattle.md_flow.proofs.net.Net.new.Goals as goal

pub invariant_of-result : goal.invariant_of-result
invariant_of-result c =
    IsNet-touched c.args.caps c.args.demands c.args.touches c.requires.one_set c.requires.few_nodes c.requires.few_demands c.requires.caps c.requires.demands c.requires.cap_size c.requires.demand_size

pub returns-clause-over : goal.returns-clause-over
returns-clause-over c = λ set. over-touched c.args.caps c.args.demands c.args.touches set c.requires.caps

pub returns-clause-pairs : goal.returns-clause-pairs
returns-clause-pairs c = pairs-touched c.args.caps c.args.demands c.args.touches

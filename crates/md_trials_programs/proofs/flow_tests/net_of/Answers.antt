use Rattle.std.proofs.Common.{length, arith}
use Rattle.md_math.specs.Lists.{number_at}
use Rattle.md_trials_programs.proofs.SmallSums.{small_sum}
use Rattle.md_trials_programs.proofs.flow_tests.net_of.Goals as goal

pub new-requires-clause-cap_size : goal.new-requires-clause-cap_size
new-requires-clause-cap_size c = small_sum (length c.in_ok-caps.caps) (number_at c.in_ok-caps.caps) (omega (arith, c.in_ok-caps.ensures.length, c.requires.few_nodes)) c.in_ok-caps.ensures.small

pub new-requires-clause-demand_size : goal.new-requires-clause-demand_size
new-requires-clause-demand_size c = small_sum (length c.in_ok-demands.demands) (number_at c.in_ok-demands.demands) (omega (arith, c.in_ok-demands.ensures.length, c.requires.few_demands)) c.in_ok-demands.ensures.small

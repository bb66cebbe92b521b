use Rattle.std.proofs.Common.{◌≡◌, pos}
use Rattle.md_math.specs.Lists.{list_to}
use Rattle.md_gen.specs.GeneratedSetting.{utility_at}
use Rattle.md_gen.proofs.general.row.Given as goal

abbrev pub invariant-loop-outcome : goal.invariant-loop-outcome
invariant-loop-outcome l = l.row.items ≡ list_to l.outcome (λ o. pos (utility_at l.number l.agent l.kind o))

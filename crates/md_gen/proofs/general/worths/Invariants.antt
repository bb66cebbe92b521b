use Rattle.std.proofs.Common.{◌≡◌, pos}
use Rattle.md_math.specs.Lists.{list_to}
use Rattle.md_gen.specs.GeneratedSetting.{worth_at}
use Rattle.md_gen.proofs.general.worths.Given as goal

abbrev pub invariant-loop-outcome : goal.invariant-loop-outcome
invariant-loop-outcome l = l.worths.items ≡ list_to l.outcome (λ o. pos (worth_at l.number o))

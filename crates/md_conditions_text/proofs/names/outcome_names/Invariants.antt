use Rattle.std.proofs.Common.{◌≡◌, map}
use Rattle.md_math.specs.Lists.{list_to}
use Rattle.md_conditions_text.specs.Names.{outcome_name}
use Rattle.md_conditions_text.proofs.names.outcome_names.Given as goal

abbrev pub invariant-loop-outcome : goal.invariant-loop-outcome
invariant-loop-outcome l = map (λ name. name.now) l.names.items ≡ list_to l.outcome (outcome_name l.setting)

use Rattle.std.proofs.Common.{◌≡◌, map}
use Rattle.md_math.specs.Lists.{list_to}
use Rattle.md_mech.specs.RowName.{type_name}
use Rattle.md_conditions_text.proofs.names.type_names.Given as goal

abbrev pub invariant-loop-kind : goal.invariant-loop-kind
invariant-loop-kind l = map (λ name. name.now) l.names.items ≡ list_to l.kind (type_name l.setting l.agent)
